use Rattle.std.proofs.Common.{◌≡◌, ◌<◌, ◌-◌, length, drop, sym, arith, length-append, length-drop}
use Rattle.std.proofs.lemmas.List.{length_push, map-append}
use Rattle.std.proofs.lemmas.Iterator.{YieldsList-from_slice}
use Rattle.std.proofs.lemmas.Iterator.Consumers.{YieldsList-from_chain, YieldsList-turn, YieldsList-end}
use Rattle.window.specs.declared.Ended.{Ended}
use Rattle.window.proofs.Sums.{totals_behind, drop_apart}
use Rattle.window.proofs.Totals.of.Goals as goal

pub loop-ended-preserved : goal.loop-ended-preserved
loop-ended-preserved c =
    let a = c.args in
    let turn = YieldsList-turn (YieldsList-from_chain (YieldsList-from_slice c.without_oldest.result.0.now cc) (YieldsList-from_slice c.without_oldest.result.1.now cc) (cc) (cc)) c.loop-ended.yielded _ c.loop-ended.yielded_by _ _ c.in-Some.ended c.in-Some.is c.next.ensures.steps in
    let older : c.without_oldest.result.0.now ≡ drop a.left a.older.now = c.without_oldest.ensures.0 in
    let newer : c.without_oldest.result.1.now ≡ drop (a.left - length a.older.now) a.newer.now = c.without_oldest.ensures.1 in
    let few : length c.loop-ended.yielded < 64 = omega (arith, rw (older, newer) at turn.0, length-drop {A = Ended}, length-append {A = Ended}) in
    let more = length_push c.loop-ended.yielded c.in-Some.ended in
    let risen = c.with-totals.ensures.1 in (
      rw (c.with-totals.ensures.0, c.loop-ended.invariant.0, map-append) (sym (totals_behind _ _)),
      (omega arith, (omega arith, (omega arith, omega arith))),
    )

pub returns : goal.returns
returns c =
    let a = c.args in
    let end = YieldsList-end (YieldsList-from_chain (YieldsList-from_slice c.without_oldest.result.0.now cc) (YieldsList-from_slice c.without_oldest.result.1.now cc) (cc) (cc)) c.loop-ended.yielded _ c.loop-ended.yielded_by _ _ c.in-None.is c.next.ensures.steps in
    rw (c.loop-ended.invariant.0, end.0, c.without_oldest.ensures.0, c.without_oldest.ensures.1, drop_apart a.left a.older.now a.newer.now)
