use Rattle.laws.proofs.Decide.{whens, yes, nay}
use Rattle.receive.specs.Answers.{receive}
use Rattle.receive.proofs.Telling.{told_is}
use Rattle.receive.proofs.Receiver.on_asdu.Goals as goal

pub returns-then-not-agrees : goal.returns-then-not-agrees
unfolding receive
returns-then-not-agrees c =
    let apart = nay c.agrees.ensures c.if-not-agrees.true in
    (simp (whens, apart) c.refuses.ensures, simp (whens, apart))

pub returns-then-self : goal.returns-then-self
unfolding receive
returns-then-self c =
    let held = yes c.agrees.ensures c.if-not-agrees.false in
    (simp (whens, c.if-self.true, held) c.runs.ensures, simp (whens, c.if-self.true, held))

pub returns : goal.returns
unfolding receive
returns c =
    let held = yes c.agrees.ensures c.if-not-agrees.false in (
      simp (whens, held, c.if-self.false, told_is, ← c.told-told.ensures) c.on_told.ensures.0,
      simp (whens, held, c.if-self.false, told_is, ← c.told-told.ensures) c.on_told.ensures.1,
    )
