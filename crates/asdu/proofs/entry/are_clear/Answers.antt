-- Each entry decides, or those behind it do.
use mathlib.Core.Path.{refl, ◌∙◌}
use Prim.Native.Nat.{◌<◌}
use native.Mathlib.Omega.{arith}
use lib.ListN.{length}
use Rattle.laws.proofs.Decide.{whens, yes, nay}
use Rattle.asdu.proofs.Page.{clear_next, clear_none}
use Rattle.asdu.proofs.entry.are_clear.Goals as goal

pub loop-entry-init : goal.loop-entry-init
loop-entry-init c = rw c.into_iter-entry-iterator.ensures.into_iter_gives (c.chunks_exact-entry-items.ensures.size, rw c.chunks_exact-entry-items.ensures.rest refl)

pub returns-then-not-is_clear : goal.returns-then-not-is_clear
returns-then-not-is_clear c =
    let step = clear_next _ _ _ c.in-Some.ensures.steps.1.0 (c.in-Some.ensures.steps.1.1 ∙ c.loop-entry.invariant.0) in
    simp (whens, c.loop-entry.invariant.1, step, nay c.is_clear.ensures c.if-not-is_clear.true)

pub loop-entry-preserved : goal.loop-entry-preserved
loop-entry-preserved c =
    let step = clear_next _ _ _ c.in-Some.ensures.steps.1.0 (c.in-Some.ensures.steps.1.1 ∙ c.loop-entry.invariant.0) in
    (c.in-Some.ensures.steps.0 ∙ c.loop-entry.invariant.0, c.loop-entry.invariant.1 ∙ step ∙ simp (whens, yes c.is_clear.ensures c.if-not-is_clear.false))

pub returns : goal.returns
returns c =
    let few : length c.loop-entry.entry-iterator.rest.now < 13 = omega (arith, c.in-None.ensures.steps.1.0, c.loop-entry.invariant.0) in
    simp (c.loop-entry.invariant.1, clear_none _ few)
