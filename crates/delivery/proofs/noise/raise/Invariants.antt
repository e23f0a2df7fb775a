-- The octets passed are copied; then the first is raised.
use Rattle.std.proofs.Common.{◌≡◌, length, take}
use Rattle.delivery.proofs.noise.raise.Given as goal

abbrev pub invariant-loop-i : goal.invariant-loop-i
invariant-loop-i l = (take l.i l.out ≡ take l.i l.payload) × (length l.out ≡ length l.initial.out)
