use Rattle.laws.proofs.Decide.{whens, decide}
use Rattle.requests.specs.Answers.{sc_answer}
use Rattle.requests.proofs.on_sc.Goals as goal

pub returns-in-1 : goal.returns-in-1
unfolding sc_answer
returns-in-1 c = simp (whens, c.in-1.is)

pub returns-in-2 : goal.returns-in-2
unfolding sc_answer
returns-in-2 c = simp (whens, c.in-2.is)

pub returns-in-5 : goal.returns-in-5
unfolding sc_answer
returns-in-5 c = simp (whens, c.in-5.is)

pub returns-in-6 : goal.returns-in-6
unfolding sc_answer
returns-in-6 c = simp (whens, c.in-6.is)

pub returns-in_default : goal.returns-in_default
unfolding sc_answer
returns-in_default c = search decide
