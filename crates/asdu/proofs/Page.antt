-- The reserved bits of a page's entries, entry by entry; and a part of some octets from a place to their end.
use mathlib.Core.Bool.{true}
use mathlib.Core.Path.{◌≡◌}
use mathlib.Core.List.{List, ◌++◌}
use Prim.Native.Nat.{ℕ, suc, ◌-◌, ◌/◌, ◌<◌}
use native.Mathlib.Omega.{arith}
use lib.ListN.{length, take, drop, length-drop, length-append}
use lib.Seq.{take_all}
use Rattle.std.proofs.lemmas.List.{take_at, drop_at}
use Rattle.laws.specs.When.{◌and◌}
use Rattle.asdu.specs.Entry.{reserved_clear, all_clear}

-- one entry, and those after it
pub clear_next : (o x rest : List ℕ) → o ≡ x ++ rest → length x ≡ 13 → all_clear (length o / 13) o ≡ (reserved_clear x and all_clear (length rest / 13) rest)
clear_next o x rest e thirteen =
    let count : length (x ++ rest) / 13 ≡ suc (length rest / 13) = rw (length-append x rest, thirteen) (omega arith) in
    rw (e, count, take_at x rest 13 thirteen, drop_at x rest 13 thirteen)

-- no whole entry is left
pub clear_none : (o : List ℕ) → length o < 13 → all_clear (length o / 13) o ≡ true
clear_none o h = let none : length o / 13 ≡ 0 = omega arith in rw none

-- a part from a place to the end is what is left there
pub to_the_end : (o : List ℕ) (at : ℕ) → take (length o - at) (drop at o) ≡ drop at o
to_the_end o at = take_all (length o - at) (drop at o) (rw (length-drop at o) (omega arith))
