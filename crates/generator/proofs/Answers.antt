-- What filling answers and leaves, test by test.
use Rattle.std.specs.Prelude.{Result, Err, Ok}
use Rattle.std.proofs.Common.{◌≡◌, ℕ, zero, suc, ◌*◌, ◌<◌, ◌≤◌, min, List, ◌++◌, map, length, drop, ap, ◌∙◌, arith, eq-eqb, ne_eqb, le-leb, length-take-le}
use borrow.Author.Tests.{lt-leb}
use Rattle.laws.proofs.Decide.{whens}
use Rattle.lists.specs.Parts.{div_ceil}
use Rattle.lists.proofs.Parts.{ceil_enough}
use Rattle.asdu.specs.declared.FtError.{FtError}
use Rattle.asdu.specs.declared.FtError.TheVariants.{FileTooLong}
use Rattle.sections.specs.Sections.{section_length, section_count}
use Rattle.sections.proofs.Cuts.{length-least}
use Rattle.sections.proofs.SectionLaws.{some_section, few_sections}
use Rattle.generator.specs.Sequence.{state_after, octets_from}
use Rattle.generator.specs.Filling.{max_length, after_steps, file_answer, file_after, non_empty_sections, naming, places_filled, entries_from, damage_answer, damage_after}
use Rattle.generator.specs.declared.Generator.{Generator}
use Rattle.generator.specs.declared.Damage.{Damage}

module _ (g : Generator) (file : List ℕ) where
  pub file_refused : max_length < length file → (Err FileTooLong ≡ file_answer g file) × (file ≡ file_after g file)
  unfolding file_answer file_after
  file_refused long = (simp (whens, lt-leb _ _ long), simp (whens, lt-leb _ _ long))

  pub file_filled : length file ≤ max_length → (Ok (after_steps (length file) g) ≡ file_answer g file) × (octets_from (length file) g.state ≡ file_after g file)
  unfolding file_answer file_after
  file_filled allowed = (simp (whens, le-leb _ _ allowed), simp (whens, le-leb _ _ allowed))

  -- a file that is not too long is not refused
  pub file_never : length file ≤ max_length → (e : FtError) → Err e ≡ file_answer g file → ⊥
  file_never allowed e said = let z : ◌≡◌ {A = ℕ} 0 1 = cc ((file_filled allowed).0, said) in omega arith

-- where there are octets, so is a section that holds them
some : (d size n : ℕ) → 0 < n → n ≤ d * size → 0 < d
some zero size n h k = let z : 0 * size ≡ 0 = omega arith in absurd (omega arith)
some (suc d) size n h k = omega arith

-- all sections of a file that is not empty have octets
pub all_sections : (n : ℕ) → 0 < n → section_count n ≡ non_empty_sections n
unfolding section_count non_empty_sections
all_sections n h =
    let least = length-least n in
    let one : 0 < div_ceil n (section_length n) = some _ (section_length n) n h (ceil_enough n (section_length n) (omega arith)) in
    omega arith

pub some_non_empty : (n : ℕ) → 0 < n → 0 < non_empty_sections n
some_non_empty n h = rw (← (all_sections n h)) (some_section n)

module _ (g : Generator) (n : ℕ) (list : List ℕ) where
  pub list_refused : max_length < n → (Err FileTooLong ≡ damage_answer g n list) × (list ≡ damage_after g n list)
  unfolding damage_answer damage_after
  list_refused long = (simp (whens, lt-leb _ _ long), simp (whens, lt-leb _ _ long))

  pub list_none : n ≡ 0 → (Ok (record { count = 0; generator = g }) ≡ damage_answer g n list) × (list ≡ damage_after g n list)
  unfolding damage_answer damage_after places_filled entries_from
  list_none e =
      let short : n ≤ max_length = omega arith in
      (simp (whens, le-leb _ _ short, eq-eqb _ _ e), simp (whens, le-leb _ _ short, eq-eqb _ _ e))

  pub list_filled : (h : Generator) (k sections : ℕ) (part : List ℕ) → n ≤ max_length → (n ≡ 0 → ⊥) → k ≡ min 255 (length list) → sections ≡ section_count n
      → h.state ≡ state_after k g.state → part ≡ map (naming sections) (octets_from k g.state)
      → (Ok (record { count = k; generator = h }) ≡ damage_answer g n list) × (part ++ drop k list ≡ damage_after g n list)
  unfolding damage_answer damage_after places_filled entries_from
  list_filled h k sections part allowed some-octets places counted state octets =
      let all : sections ≡ non_empty_sections n = counted ∙ all_sections n (omega arith) in (
        simp (whens, le-leb _ _ allowed, ne_eqb _ _ some-octets, ← places, ← state),
        simp (whens, le-leb _ _ allowed, ne_eqb _ _ some-octets, ← places, octets, all),
      )

  -- the number of places is told by the answer
  pub list_count : (h : Generator) (k : ℕ) → n ≤ max_length → Ok (record { count = k; generator = h }) ≡ damage_answer g n list → k ≡ places_filled n (length list)
  unfolding damage_answer
  list_count h k allowed said =
      let filled : Damage = record { count = places_filled n (length list); generator = after_steps (places_filled n (length list)) g } in
      let handed : Damage = record { count = k; generator = h } in
      let told : ◌≡◌ {A = Result Damage FtError} (Ok handed) (Ok filled) = said ∙ simp (whens, le-leb _ _ allowed) in
      let same : handed ≡ filled = cc told in
      ap (λ (d : Damage). d.count) same

  pub list_never : n ≤ max_length → (e : FtError) → Err e ≡ damage_answer g n list → ⊥
  unfolding damage_answer
  list_never allowed e said =
      let filled : Damage = record { count = places_filled n (length list); generator = after_steps (places_filled n (length list)) g } in
      let told : ◌≡◌ {A = Result Damage FtError} (Err e) (Ok filled) = said ∙ simp (whens, le-leb _ _ allowed) in
      cc told

  pub list_after : n ≤ max_length → damage_after g n list ≡ entries_from n (places_filled n (length list)) g.state ++ drop (places_filled n (length list)) list
  unfolding damage_after
  list_after allowed = simp (whens, le-leb _ _ allowed)

-- the numbers that the function filling a damage list meets
pub ruleset numbers = (some_section, few_sections, length-take-le)
