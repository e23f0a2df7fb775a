-- An entry's octets: how many they are, and that storing them one by one leaves them.
use mathlib.Core.Path.{◌≡◌, refl, ◌∙◌}
use mathlib.Core.List.{List, append-nil}
use Prim.Native.Nat.{ℕ, ◌+◌, ◌≤◌}
use native.Mathlib.Omega.{arith}
use lib.ListN.{length, drop_of_length-le}
use lib.Seq.{sets, sets-eq}
use Rattle.asdu.specs.Entry.{time_octets, entry_octets}
use Rattle.asdu.specs.declared.DirectoryEntry.{DirectoryEntry}

pub thirteen : (e : DirectoryEntry) → length (entry_octets e) ≡ 13
unfolding entry_octets time_octets
thirteen e = refl

pub all_stored : (out vs : List ℕ) → length vs ≡ length out → sets out 0 vs ≡ vs
all_stored out vs h =
    let none : length out ≤ 0 + length vs = omega arith in
    sets-eq vs out 0 (omega arith) ∙ rw (drop_of_length-le out none) (append-nil vs)
