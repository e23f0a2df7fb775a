-- Every entry of a damage list names a section with octets, so that a script of them is never refused by 11 (document 02, A2).
use Rattle.std.proofs.Common.{◌≡◌, ℕ, suc, ◌+◌, ◌-◌, ◌*◌, ◌%◌, ◌<◌, ◌≤◌, true, false, List, [], ◌∷◌, map, length, sym, refl, ◌∙◌, le_trans, mul-le-mul_right, mod-lt, arith, le-ltb, lt-ltb}
use Rattle.laws.specs.When.{when}
use Rattle.laws.proofs.Decide.{whens}
use Rattle.lists.specs.Parts.{div_ceil}
use Rattle.lists.proofs.Parts.{ceil_enough, ceil_least}
use Rattle.sections.specs.Sections.{section_length}
use Rattle.sections.proofs.Cuts.{length-least}
use Rattle.radio.specs.Radio.{has_octets, all_have_octets}
use Rattle.radio.proofs.Damage.{begins_within}
use Rattle.generator.specs.Sequence.{octets_from}
use Rattle.generator.specs.Filling.{non_empty_sections, naming, places_filled, entries_from}
use Rattle.generator.proofs.Answers.{some_non_empty}

-- section j + 1 of so many begins within the file
within : (n j : ℕ) → suc j ≤ non_empty_sections n → j * section_length n < n
unfolding non_empty_sections
within n j h =
    let least = length-least n in
    let below = ceil_least n (section_length n) (omega arith) in
    let most : suc j * section_length n ≤ div_ceil n (section_length n) * section_length n = mul-le-mul_right (section_length n) h in
    omega arith

module _ (file : List ℕ) where
  -- the sections counted, from 1 on, are those with octets: each of them has some
  pub counted_has : (j : ℕ) → suc j ≤ non_empty_sections (length file) → has_octets (section_length (length file)) file (suc j) ≡ true
  counted_has j h =
      let least = length-least (length file) in
      let e : suc j - 1 ≡ j = omega arith in
      sym (begins_within (section_length (length file)) file (suc j) (λ z. omega arith) (λ z. omega arith))
      ∙ rw e (lt-ltb _ _ (within (length file) j h))

  -- and none past them has any; nor has section 0 (`none_named`, radio/proofs/Damage.antt)
  pub uncounted_empty : (nos : ℕ) → non_empty_sections (length file) < nos → has_octets (section_length (length file)) file nos ≡ false
  unfolding non_empty_sections
  uncounted_empty nos h =
      let least = length-least (length file) in
      let far : length file ≤ (nos - 1) * section_length (length file) =
      le_trans (ceil_enough (length file) (section_length (length file)) (omega arith)) (mul-le-mul_right (section_length (length file)) (omega arith)) in
      sym (begins_within (section_length (length file)) file nos (λ z. omega arith) (λ z. omega arith)) ∙ le-ltb _ _ far

  module _ (some : 0 < length file) where
    entry_has : (octet : ℕ) → has_octets (section_length (length file)) file (naming (non_empty_sections (length file)) octet) ≡ true
    unfolding naming
    entry_has octet =
        let e : octet % non_empty_sections (length file) + 1 ≡ suc (octet % non_empty_sections (length file)) = omega arith in
        rw e (counted_has (octet % non_empty_sections (length file)) (mod-lt octet (some_non_empty (length file) some)))

    entries_have : (octets : List ℕ) → all_have_octets (section_length (length file)) file (map (naming (non_empty_sections (length file))) octets) ≡ true
    entries_have [] = refl
    entries_have (x ∷ xs) = simp (whens, entry_has x, entries_have xs)

-- the entries of a damage list with any number of places, from any state; an empty file's has none
pub damage_named : (file : List ℕ) (places s : ℕ) → all_have_octets (section_length (length file)) file (entries_from (length file) (places_filled (length file) places) s) ≡ true
unfolding entries_from places_filled when
damage_named [] places s = refl
damage_named (x ∷ xs) places s = entries_have (x ∷ xs) (omega arith) (octets_from (places_filled (length (x ∷ xs)) places) s)
