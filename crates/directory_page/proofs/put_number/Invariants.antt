-- The places from i on are written; those in front of them are what is left of the number.
use Rattle.std.proofs.Common.{◌≡◌, ◌++◌, length, drop}
use Rattle.directory_page.specs.Line.{in_places}
use Rattle.directory_page.proofs.Places.{fronted}
use Rattle.directory_page.proofs.put_number.Given as goal

abbrev pub invariant-loop-i : goal.invariant-loop-i
invariant-loop-i l = (length l.places ≡ length l.initial.places)
    × (fronted l.filler l.i l.left l.octet ++ drop l.i l.places ≡ in_places l.filler (length l.initial.places) l.n)
