-- The script of a load is right: the transfer program reads it back, and no entry of its damage is refused by 11 (document 02, A2).
use Rattle.std.specs.Prelude.{Some}
use Prim.Native.Nat.{ℕ, zero, suc, ◌<◌}
use mathlib.Core.Bool.{true}
use mathlib.Core.Path.{◌≡◌, ap, ◌∙◌}
use mathlib.Core.List.{List, [], ◌∷◌, map}
use native.Mathlib.Nat.{mod-lt}
use native.Mathlib.Omega.{arith}
use lib.ListN.{length}
use Rattle.laws.specs.When.{when}
use Rattle.sections.specs.Sections.{section_length}
use Rattle.sections.proofs.SectionLaws.{few_sections}
use Rattle.radio.specs.Radio.{all_have_octets}
use Rattle.script.specs.Script.{Octets, Right, text_of}
use Rattle.script.specs.Reader.{script_of}
use Rattle.script.proofs.Meaning.{right_read}
use Rattle.generator.specs.Sequence.{stepped, octet_of, octets_from}
use Rattle.generator.specs.Filling.{non_empty_sections, naming, places_filled, entries_from}
use Rattle.generator.proofs.Answers.{all_sections, some_non_empty}
use Rattle.generator.proofs.Named.{damage_named}
use Rattle.load_script.specs.Load.{Within, file_of, after_file, damage_of, script_for}
use Rattle.load_script.specs.declared.Load.{Load}
use Rattle.load_script.proofs.Filling.{file_length, damage_length, places_most}

-- ---- every number is an octet

octets_right : (n s : ℕ) → Octets (octets_from n s)
unfolding stepped octet_of
octets_right zero s = tt
octets_right (suc n) s = (omega arith, octets_right n (stepped s))

named_right : (n : ℕ) → 0 < n → (octets : List ℕ) → Octets (map (naming (non_empty_sections n)) octets)
unfolding naming
named_right n h [] = tt
named_right n h (x ∷ xs) =
    let all = all_sections n h in
    let below = mod-lt x (some_non_empty n h) in
    (omega (arith, few_sections n), named_right n h xs)

entries_right_lem : (n places s : ℕ) → Octets (entries_from n (places_filled n places) s)
unfolding entries_from places_filled when
entries_right_lem zero places s = tt
entries_right_lem (suc n) places s = named_right (suc n) (omega arith) (octets_from (places_filled (suc n) places) s)

-- ---- the script

pub script_right : (l : Load) → Within l → Right (script_for l)
unfolding file_of damage_of
script_right l w =
    record {
      object = omega arith;
      nof = omega arith;
      file_length = rw (← (file_length l)) w.octets;
      file = octets_right l.octets l.state;
      damage_length = omega (arith, damage_length l, places_most l.octets l.entries, w.entries);
      damage = entries_right_lem l.octets l.entries (after_file l).state;
    }

-- so its text means it
pub load_script_read : (l : Load) → Within l → script_of (text_of (script_for l)) ≡ Some (script_for l)
load_script_read l w = right_read (script_for l) (script_right l w)

-- each section that its damage names has octets
pub load_damage_named : (l : Load) → all_have_octets (section_length (length (file_of l))) (file_of l) (damage_of l) ≡ true
unfolding damage_of
load_damage_named l =
    let s : ℕ = (after_file l).state in
    ap (λ (n : ℕ). all_have_octets (section_length (length (file_of l))) (file_of l) (entries_from n (places_filled n l.entries) s)) (file_length l)
    ∙ damage_named (file_of l) l.entries s
