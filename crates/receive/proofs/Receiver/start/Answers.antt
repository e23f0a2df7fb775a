use Rattle.laws.proofs.Decide.{whens, yes, nay}
use Rattle.receive.specs.Record.{started}
use Rattle.receive.proofs.Starting.{started_is}
use Rattle.receive.proofs.Receiver.start.Goals as goal

pub returns-then-not-agrees : goal.returns-then-not-agrees
unfolding started
returns-then-not-agrees c = simp (whens, nay c.agrees.ensures c.if-not-agrees.true) c.refuses.ensures

pub returns-then-not-uses_function : goal.returns-then-not-uses_function
returns-then-not-uses_function c =
    let held = yes c.agrees.ensures c.if-not-agrees.false in
    simp (whens, started_is _ _ held, nay c.uses_function.ensures c.if-not-uses_function.true) c.refuses-then-not-uses_function.ensures

pub returns-then-not-serves : goal.returns-then-not-serves
returns-then-not-serves c =
    let held = yes c.agrees.ensures c.if-not-agrees.false in
    simp (
      whens,
      started_is _ _ held,
      nay c.serves.ensures c.if-not-serves.true,
      yes c.uses_function.ensures c.if-not-uses_function.false,
    )
    c.refuses-then-not-serves.ensures

pub returns : goal.returns
returns c =
    let held = yes c.agrees.ensures c.if-not-agrees.false in
    simp (
      whens,
      started_is _ _ held,
      yes c.serves.ensures c.if-not-serves.false,
      yes c.uses_function.ensures c.if-not-uses_function.false,
    )
    c.asks.ensures
