use Rattle.laws.proofs.Decide.{whens, decide}
use Rattle.requests.specs.Answers.{ack_answer}
use Rattle.requests.proofs.on_ack.Goals as goal

pub returns-in-3 : goal.returns-in-3
unfolding ack_answer
returns-in-3 c = simp (whens, c.in-3.is, ← c.after_section.ensures)

pub returns-in-4 : goal.returns-in-4
unfolding ack_answer
returns-in-4 c = simp (whens, c.in-4.is)

pub returns-in-1 : goal.returns-in-1
unfolding ack_answer
returns-in-1 c = simp (whens, c.in-1.is)

pub returns-in_default : goal.returns-in_default
unfolding ack_answer
returns-in_default c = search decide
