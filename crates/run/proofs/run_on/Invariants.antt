-- The run from here, with what is left of the budget, is the run from the start.
use Prim.Native.Nat.{◌-◌}
use mathlib.Core.Path.{◌≡◌}
use Rattle.run.specs.Loop.{ran_on}
use Rattle.run.proofs.Left.{standing}
use Rattle.run.proofs.run_on.Given as goal

abbrev pub invariant-loop-frames : goal.invariant-loop-frames
invariant-loop-frames l = ran_on l.budget 0 (standing l.initial.provider l.initial.receiver l.initial.queue l.initial.radio) l.file l.damage l.initial.store
    ≡ ran_on (l.budget - l.frames) l.frames (standing l.provider l.receiver l.queue l.radio) l.file l.damage l.store
