use Rattle.laws.proofs.Decide.{whens, yes, nay}
use Rattle.receive.specs.Answers.{on_segment}
use Rattle.receive.proofs.Receiver.on_segment.Goals as goal

pub returns-then-not-write_at : goal.returns-then-not-write_at
unfolding on_segment
returns-then-not-write_at c =
    let full = nay c.write_at.ensures.0 c.if-not-write_at.true in
    (simp (whens, full) c.refuses.ensures, simp (whens, full) (simp (whens, c.if-not-write_at.true) at c.write_at.ensures.1))

pub returns : goal.returns
unfolding on_segment
returns c =
    let fits = yes c.write_at.ensures.0 c.if-not-write_at.false in
    (simp (whens, fits) c.runs.ensures, simp (whens, fits) (simp (whens, c.if-not-write_at.false) at c.write_at.ensures.1))
