-- The run from here, with what is left of the budget, is the run from the start.
use Prim.Native.Nat.{◌-◌}
use mathlib.Core.Path.{◌≡◌, sym, ap, ◌∙◌}
use native.Mathlib.Omega.{arith}
use borrow.Author.Rules.{rules}
use Rattle.std.specs.Prelude.{Ok}
use Rattle.laws.proofs.Decide.{yes, nay}
use Rattle.twoparty.proofs.Reaches.{frame_below, frame_agreed}
use Rattle.run.specs.declared.Ending.TheVariants.{Whole}
use Rattle.run.proofs.Left.{standing, ran_over, ran_next, ran_none, over_none, over_apart, going_on, moved_receiver, moved_provider}
use Rattle.run.proofs.run_on.Goals as goal
use Rattle.run.proofs.run_on.Goals.{in-Receiver+else-not-agrees, in-Provider+in-Ok}

pub returns-in-Empty : goal.returns-in-Empty
returns-in-Empty c =
    let a = c.args in
    let t = standing c.loop-frames.provider c.loop-frames.receiver c.loop-frames.queue c.loop-frames.radio in
    let e =
    c.loop-frames.invariant
    ∙ ran_over c.loop-frames.frames t a.file.now a.damage.now c.loop-frames.store (a.budget - c.loop-frames.frames) (over_none t a.file.now (simp c.in-Empty.is)) in
    (simp e (ap (λ x. Ok x) (c.whole.ensures ∙ ap (λ n. Whole t.receiver.kept n) (omega arith))), simp e)

pub returns-then-not-agrees : goal.returns-then-not-agrees
returns-then-not-agrees c =
    let a = c.args in
    let t = standing c.loop-frames.provider c.loop-frames.receiver c.loop-frames.queue c.loop-frames.radio in
    let e =
    c.loop-frames.invariant
    ∙ ran_over c.loop-frames.frames t a.file.now a.damage.now c.loop-frames.store (a.budget - c.loop-frames.frames) (over_apart t a.file.now (nay c.agrees.ensures c.if-not-agrees.true)) in
    (simp e (ap (λ x. Ok x) c.whole-then-not-agrees.ensures), simp e)

pub returns-in_default : goal.returns-in_default
returns-in_default c =
    let a = c.args in
    let t = standing c.loop-frames.provider c.loop-frames.receiver c.loop-frames.queue c.loop-frames.radio in
    let e =
    c.loop-frames.invariant
    ∙ ran_over c.loop-frames.frames t a.file.now a.damage.now c.loop-frames.store (a.budget - c.loop-frames.frames) (over_none t a.file.now (simp (c.in-Provider.is, sym c.reply_frame.ensures ∙ c.in_default.is))) in
    (simp e (ap (λ x. Ok x) c.whole-in_default.ensures), simp e)

pub loop-frames-preserved : goal.loop-frames-preserved
loop-frames-preserved c =
    let a = c.args in
    let t = standing c.loop-frames.provider c.loop-frames.receiver c.loop-frames.queue c.loop-frames.radio in
    elim c.match-queue.branch [
      | in-Receiver+else-not-agrees w ↦
          let q = w.in-Receiver.is in
          let e =
          c.loop-frames.invariant
          ∙ ran_next c.loop-frames.frames t a.file.now a.damage.now c.loop-frames.store a.budget (omega arith) (going_on t a.file.now (yes w.agrees.ensures w.if-not-agrees.false) (simp q)) in
          simp (w.provider-is, w.receiver-is, w.queue-is, w.radio-is, w.store-is, w.after_answer-radio.ensures, w.replied-queue.ensures)
          (simp w.hand_provider-step.ensures (simp (moved_receiver t a.file.now a.damage.now c.loop-frames.store q) at e))
      | in-Provider+in-Ok w ↦
          let q = w.in-Provider.is in
          let found = sym w.reply_frame.ensures ∙ w.in-Ok.is in
          let e =
          c.loop-frames.invariant
          ∙ ran_next c.loop-frames.frames t a.file.now a.damage.now c.loop-frames.store a.budget (omega arith) (going_on t a.file.now (frame_agreed c.loop-frames.provider a.file.now _ _ _ found) (simp (q, found))) in
          simp (w.provider-is, w.receiver-is, w.queue-is, w.radio-is, w.store-is, w.asked-queue.ensures)
          (simp (w.hand_receiver-step.ensures.0, w.hand_receiver-step.ensures.1) (simp (moved_provider t a.file.now a.damage.now c.loop-frames.store _ _ _ _ q found) at e))
    ]

pub overflow_add-rest : goal.overflow_add-rest
overflow_add-rest c = let most = frame_below _ _ _ _ _ (sym c.reply_frame.ensures ∙ c.in-Ok.is) in
    search rules

pub returns : goal.returns
returns c =
    let a = c.args in
    let t = standing c.loop-frames.provider c.loop-frames.receiver c.loop-frames.queue c.loop-frames.radio in
    let all : c.loop-frames.frames ≡ a.budget = omega arith in
    let e = c.loop-frames.invariant ∙ ran_none c.loop-frames.frames t a.file.now a.damage.now c.loop-frames.store (a.budget - c.loop-frames.frames) (omega arith) in
    (simp e (rw all c.used_up.ensures), simp e)
