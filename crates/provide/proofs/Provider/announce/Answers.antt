use mathlib.Core.Path.{sym}
use Rattle.laws.proofs.Decide.{whens, yes, nay}
use Rattle.provide.proofs.Announcing.{announced_is, announced_off}
use Rattle.provide.proofs.Provider.announce.Goals as goal

pub returns-then-not-agrees : goal.returns-then-not-agrees
returns-then-not-agrees c = sym (announced_off _ _ (nay c.agrees.ensures c.if-not-agrees.true))

pub returns-then-not-uses_function : goal.returns-then-not-uses_function
returns-then-not-uses_function c = rw (announced_is _ _ (yes c.agrees.ensures c.if-not-agrees.false))
    (simp (whens, nay c.uses_function.ensures c.if-not-uses_function.true))

pub returns-then-not-serves : goal.returns-then-not-serves
returns-then-not-serves c = rw (announced_is _ _ (yes c.agrees.ensures c.if-not-agrees.false))
    (simp (
      whens,
      nay c.serves.ensures c.if-not-serves.true,
      yes c.uses_function.ensures c.if-not-uses_function.false,
    ))

pub returns : goal.returns
returns c = rw (announced_is _ _ (yes c.agrees.ensures c.if-not-agrees.false))
    (simp (
      whens,
      yes c.serves.ensures c.if-not-serves.false,
      yes c.uses_function.ensures c.if-not-uses_function.false,
      ← c.file_ready.ensures,
    ))
