-- What the generator's calls leave in front of the buffers of a load.
use Prim.Native.Nat.{ℕ, zero, suc, ◌≤◌}
use mathlib.Core.Path.{◌≡◌, sym, ◌∙◌}
use mathlib.Core.List.{List, ◌++◌}
use native.Mathlib.Omega.{arith}
use lib.Dec.{eqb-suc-zero}
use lib.ListN.{length, take, drop, length-map}
use lib.Seq.{length-take-le, take_at}
use Rattle.std.specs.Prelude.{Err, Ok}
use Rattle.asdu.specs.declared.FtError.{FtError}
use Rattle.laws.specs.When.{when}
use Rattle.generator.specs.Sequence.{octets_from}
use Rattle.generator.specs.Filling.{file_answer, file_after, non_empty_sections, naming, places_filled, entries_from, damage_answer, damage_after}
use Rattle.generator.specs.declared.Generator.{Generator}
use Rattle.generator.proofs.Octets.{octets_length}
use Rattle.generator.proofs.Answers.{file_filled, file_never, list_count, list_after, list_never}
use Rattle.generator.proofs.TwoCalls.{handed_on}
use Rattle.lines.proofs.Writing.{put_front}
use Rattle.load_script.specs.Load.{file_of, after_file, damage_of}
use Rattle.load_script.specs.declared.Load.{Load}

-- ---- the file

module _ (l : Load) (file : List ℕ) (short : l.octets ≤ 8192) (room : l.octets ≤ length file) where
  front : length (take l.octets file) ≡ l.octets
  front = length-take-le l.octets file room

  abbrev begun : Generator
  begun = record { state = l.state }

  pub file_front : (after : Generator) (part : List ℕ) → Ok after ≡ file_answer begun (take l.octets file) → part ≡ file_after begun (take l.octets file)
      → (after ≡ after_file l) × (part ≡ file_of l)
  unfolding after_file file_of
  file_front after part said is =
      let allowed : length (take l.octets file) ≤ 16777215 = omega (arith, front) in (
        sym (handed_on begun after (take l.octets file) allowed (sym said)) ∙ rw front,
        rw (is, ← (file_filled begun (take l.octets file) allowed).1, front),
      )

  pub file_fits : (e : FtError) → Err e ≡ file_answer begun (take l.octets file) → ⊥
  file_fits e said = file_never begun (take l.octets file) (omega (arith, front)) e said

-- ---- the damage list

pub entries_length : (n count s : ℕ) → length (entries_from n count s) ≡ count
unfolding entries_from
entries_length n count s = length-map (octets_from count s) (naming (non_empty_sections n)) ∙ octets_length count s

-- no more places are filled than there are
pub places_most : (n places : ℕ) → places_filled n places ≤ places
unfolding places_filled when
places_most zero places = omega arith
places_most (suc n) places = simp (eqb-suc-zero n) (omega arith)

pub damage_length : (l : Load) → length (damage_of l) ≡ places_filled l.octets l.entries
unfolding damage_of
damage_length l = entries_length l.octets (places_filled l.octets l.entries) _

module _ (l : Load) (damage : List ℕ) (short : l.octets ≤ 8192) (room : l.entries ≤ length damage) where
  places : length (take l.entries damage) ≡ l.entries
  places = length-take-le l.entries damage room

  pub damage_front : (h : Generator) (count : ℕ) (part : List ℕ) → Ok (record { count = count; generator = h }) ≡ damage_answer (after_file l) l.octets (take l.entries damage)
      → part ≡ damage_after (after_file l) l.octets (take l.entries damage)
      → take count part ≡ damage_of l
  unfolding damage_of
  damage_front h count part said is =
      let n : ℕ = places_filled l.octets l.entries in
      let counted : count ≡ n = rw places at (list_count (after_file l) l.octets (take l.entries damage) h count (omega arith) said) in
      let filled : part ≡ entries_from l.octets n (after_file l).state ++ drop n (take l.entries damage) =
      is ∙ (rw places at (list_after (after_file l) l.octets (take l.entries damage) (omega arith))) in
      rw (counted, filled) (take_at (entries_from l.octets n (after_file l).state) (drop n (take l.entries damage)) n (entries_length l.octets n (after_file l).state))

  pub damage_places : (h : Generator) (count : ℕ) → Ok (record { count = count; generator = h }) ≡ damage_answer (after_file l) l.octets (take l.entries damage) → count ≤ l.entries
  damage_places h count said =
      let counted : count ≡ places_filled l.octets l.entries = rw places at (list_count (after_file l) l.octets (take l.entries damage) h count (omega arith) said) in
      omega (arith, places_most l.octets l.entries)

  pub damage_fits : (e : FtError) → Err e ≡ damage_answer (after_file l) l.octets (take l.entries damage) → ⊥
  damage_fits e said = list_never (after_file l) l.octets (take l.entries damage) (omega arith) e said

pub file_length : (l : Load) → l.octets ≡ length (file_of l)
unfolding file_of
file_length l = sym (octets_length l.octets l.state)

-- the octets of a load within are as many as their buffers hold
pub damage_most : (l : Load) → length (damage_of l) ≤ l.entries
damage_most l = omega (arith, damage_length l, places_most l.octets l.entries)

-- for the proofs of the functions that fill the buffers, and of the one that writes them
pub ruleset filling = (file_front, file_fits, damage_front, damage_places, damage_fits)

pub ruleset lengths = (file_length, damage_most, put_front)
