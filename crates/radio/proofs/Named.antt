-- Damage that names only sections with octets.
use Prim.Native.Nat.{ℕ, zero, suc, ◌+◌, ◌-◌, ◌*◌, ◌≤◌, ◌<◌}
use mathlib.Core.Path.{◌≡◌, refl, sym, ap, ◌∙◌}
use mathlib.Core.Bool.{Bool, true, false, true≢false}
use mathlib.Core.List.{List, [], ◌∷◌}
use native.Mathlib.Omega.{arith}
use native.Mathlib.Nat.{suc-mul, zero-mul}
use lib.Dec.{eqb}
use lib.ListN.{length, take, drop, length-take, length-drop}
use lib.Seq.{drop-drop}
use borrow.Author.Tests.{eqb-true, ltb-true}
use Rattle.laws.specs.When.{when}
use Rattle.asdu.proofs.Range.{both}
use Rattle.lists.specs.Parts.{parts}
use Rattle.sections.specs.Sections.{section_length, section_count, sections}
use Rattle.sections.proofs.SectionLaws.{enough, section_from}
use Rattle.exchange.specs.Damaging.{namings, Nameable}
use Rattle.radio.specs.Radio.{has_octets, all_have_octets}
use Rattle.radio.proofs.Tuning.{Unnamed}

module _ (file : List ℕ) where
  abbrev size : ℕ
  size = section_length (length file)

  abbrev count : ℕ
  count = section_count (length file)

  beyond_octets : (j : ℕ) → count ≤ j → length file ≤ j * size
  beyond_octets j h =
      let more : j ≡ count + (j - count) = omega arith in
      omega (arith, enough (length file), ap (λ (k : ℕ). k * size) more)

  -- a section past the last has none
  none_past : (d : ℕ) → count < d → has_octets size file d ≡ false
  unfolding has_octets
  none_past zero h = absurd (omega arith)
  none_past (suc j) h =
      let empty : length (take size (drop (j * size) file)) ≡ 0 = simp (length-take, length-drop) (omega (arith, beyond_octets j (omega arith))) in
      rw (section_from size j file, empty) refl

  -- each section that is named has octets
  named : (damage : List ℕ) (d : ℕ) → all_have_octets size file damage ≡ true → 0 < namings d damage → has_octets size file d ≡ true
  unfolding when
  named [] d all h = absurd (omega arith)
  named (x ∷ ds) d all h = by_test (eqb x d) refl (λ more. named ds d (both (has_octets size file x) (all_have_octets size file ds) all).1 more)
    where
      by_test : (b : Bool) → eqb x d ≡ b → (0 < namings d ds → has_octets size file d ≡ true) → has_octets size file d ≡ true
      by_test true e others = ap (has_octets size file) (sym (eqb-true x d e)) ∙ (both (has_octets size file x) (all_have_octets size file ds) all).0
      by_test false e others = others (omega (arith, simp e at h))

  module _ (damage : List ℕ) (all : all_have_octets size file damage ≡ true) where
    pub unnamed : Unnamed damage count
    unnamed d past = by_count (namings d damage) refl
      where
        by_count : (n : ℕ) → namings d damage ≡ n → n ≡ 0
        by_count zero e = refl
        by_count (suc n) e = absurd (true≢false (sym (named damage d all (omega arith)) ∙ none_past d past))

    nameable_from : (k j : ℕ) (rem : List ℕ) → drop (j * size) file ≡ rem → Nameable damage (suc j) (parts k size rem)
    unfolding has_octets
    nameable_from zero j rem is = tt
    nameable_from (suc k) j rem is = (
      λ h. ltb-true 0 _ (rw (section_from size j file, is) at (named damage (suc j) all h)),
      nameable_from k (suc j) (drop size rem) (simp (suc-mul, ← is, drop-drop)),
    )

    pub nameable : Nameable damage 1 (sections file)
    unfolding sections
    nameable = nameable_from count 0 file (rw zero-mul)
