-- How long a body is that is well formed.
use Prim.Native.Nat.{ℕ, ◌+◌, ◌≤◌}
use mathlib.Core.Bool.{Bool, true, false}
use mathlib.Core.Path.{◌≡◌, refl}
use mathlib.Core.List.{List}
use native.Mathlib.Omega.{arith}
use lib.Dec.{eqb}
use lib.ListN.{length, get_or}
use borrow.Author.Tests.{eqb-true}
use Rattle.laws.specs.When.{when}
use Rattle.laws.proofs.Decide.{whens}
use Rattle.asdu.specs.Elements.{los_in_range}
use Rattle.asdu.proofs.Range.{both}
use Rattle.body_reader.specs.Reading.{los_of, elements_len, segment_formed, well_formed}

-- what the segment's tests say in numbers
pub segment_long : (o : List ℕ) → segment_formed o ≡ true → (los_in_range (los_of o) ≡ true) × (length o ≡ 4 + get_or o 3 0)
unfolding segment_formed
segment_long o h = let k = both _ _ (both _ _ h).1 in (k.0, eqb-true _ _ k.1)

pub formed_long : (t : ℕ) (o : List ℕ) → well_formed t o ≡ true → elements_len t ≤ length o
unfolding well_formed elements_len when
formed_long t o h = go (eqb t 125) refl
  where
    go : (b : Bool) → eqb t 125 ≡ b → elements_len t ≤ length o
    go true e =
        let kind : t ≡ 125 = eqb-true _ _ e in
        let long = (segment_long o (simp (whens, e) at h)).1 in
        rw kind (omega arith)
    go false e = let long : length o ≡ elements_len t = eqb-true _ _ (simp (whens, e) at h) in rw long (omega arith)
