use borrow.Author.Rules.{rules}
use Rattle.sections.proofs.SectionLaws.{few_sections}
use Rattle.provide.specs.Requests.{on_ack}
use Rattle.provide.proofs.Provider.on_ack.Goals as goal

pub overflow_cast-sections : goal.overflow_cast-sections
unfolding on_ack
overflow_cast-sections c = let few = few_sections c.args.self.length in search rules
