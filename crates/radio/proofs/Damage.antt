-- The damage list read entry by entry, and the section that has octets by where it begins.
use Prim.Native.Nat.{ℕ, ◌+◌, ◌-◌, ◌*◌, ◌≤◌, ◌<◌, min}
use mathlib.Core.Path.{◌≡◌, refl, sym, ◌∙◌}
use mathlib.Core.Bool.{Bool, true, false}
use mathlib.Core.List.{List, [], ◌∷◌}
use native.Mathlib.Omega.{arith}
use native.Mathlib.Decide.{dec_le}
use lib.Dec.{eqb, ltb}
use lib.ListN.{length, drop, get_or, length-take, length-drop}
use lib.Seq.{drop-cons}
use native.Mathlib.Numerals.{add-one}
use borrow.Author.Tests.{lt-ltb, le-ltb, eq-eqb, ne_eqb}
use mir.Val.{bool_byte}
use Rattle.std.specs.Prelude.{◌&&◌}
use Rattle.std.specs.List.{list_all}
use Rattle.laws.specs.When.{when}
use Rattle.laws.proofs.Decide.{whens}
use Rattle.sections.specs.Sections.{section_octets}
use Rattle.exchange.specs.Damaging.{namings}
use Rattle.radio.specs.Radio.{has_octets, all_have_octets}

-- what an entry adds
pub added : (b : Bool) → (bool_byte b ≡ when b 1 0) × (bool_byte b ≤ 1)
unfolding when
added true = (refl, omega arith)
added false = (refl, omega arith)

pub namings_from : (damage : List ℕ) (i : ℕ) → i < length damage → (nos : ℕ)
    → namings nos (drop i damage) ≡ when (eqb (get_or damage i 0) nos) 1 0 + namings nos (drop (i + 1) damage)
namings_from damage i h nos = rw (add-one, drop-cons damage i 0)

pub all_named : (size : ℕ) (file damage : List ℕ) → list_all (has_octets size file) damage ≡ all_have_octets size file damage
unfolding when
all_named size file [] = refl
all_named size file (d ∷ ds) = rw (all_named size file ds) (same (has_octets size file d) (all_have_octets size file ds))
  where
    same : (a b : Bool) → (a && b) ≡ when a b false
    same true b = refl
    same false b = refl

-- section 0, and any of a size of 0, has none
pub none_named : (size : ℕ) (file : List ℕ) (nos : ℕ) → nos ≡ 0 → has_octets size file nos ≡ false
unfolding has_octets section_octets
none_named size file nos e = simp (whens, eq-eqb nos 0 e)

module _ (size : ℕ) (file : List ℕ) (nos : ℕ) (named : nos ≡ 0 → ⊥) where
  has_octets_by : has_octets size file nos ≡ ltb 0 (min size (length file - (nos - 1) * size))
  unfolding has_octets section_octets
  has_octets_by = simp (whens, ne_eqb nos 0 named, length-take, length-drop)

  pub begins_within : (size ≡ 0 → ⊥) → ltb ((nos - 1) * size) (length file) ≡ has_octets size file nos
  begins_within sized = by_test (dec_le (length file) ((nos - 1) * size))
    where
      by_test : Dec (length file ≤ (nos - 1) * size) → ltb ((nos - 1) * size) (length file) ≡ has_octets size file nos
      by_test (yes p) = le-ltb _ _ p ∙ sym (has_octets_by ∙ le-ltb 0 (min size (length file - (nos - 1) * size)) (omega arith))
      by_test (no p) =
          let some : 0 < size = omega arith in
          let within : (nos - 1) * size < length file = omega arith in
          lt-ltb _ _ within ∙ sym (has_octets_by ∙ lt-ltb 0 (min size (length file - (nos - 1) * size)) (omega arith))
