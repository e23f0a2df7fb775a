-- The octets passed stand in front of the rest of the part as it was.
use Rattle.std.proofs.Common.{◌≡◌, ◌++◌, length, take, drop}
use Rattle.store.proofs.copy_front.Given as goal

abbrev pub invariant-loop-i : goal.invariant-loop-i
invariant-loop-i l = (l.part ≡ take l.i l.octets ++ drop l.i l.initial.part) × (length l.part ≡ length l.initial.part)
