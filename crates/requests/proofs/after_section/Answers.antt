use Rattle.laws.proofs.Decide.{whens}
use borrow.Author.Tests.{lt-ltb, le-ltb}
use Rattle.requests.specs.Answers.{after_section}
use Rattle.requests.proofs.after_section.Goals as goal

pub returns-then-nos-sections : goal.returns-then-nos-sections
unfolding after_section
returns-then-nos-sections c = simp (whens, lt-ltb _ _ c.if-nos-sections.true)

pub returns : goal.returns
unfolding after_section
returns c = simp (whens, le-ltb _ _ c.if-nos-sections.false)
