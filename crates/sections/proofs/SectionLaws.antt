-- A file's sections: at least one, at most 255, and together the file.
use Prim.Native.Nat.{ℕ, suc, ◌+◌, ◌-◌, ◌*◌, ◌≤◌, ◌<◌, max}
use mathlib.Core.Path.{◌≡◌, refl, ◌∙◌}
use mathlib.Core.Bool.{Bool, true, false}
use mathlib.Core.List.{List, []}
use native.Mathlib.Omega.{arith}
use native.Mathlib.Nat.{le_trans, mul-le-mul_right, lt_of_mul-lt-mul_right}
use lib.Dec.{eqb, eqb-suc-zero}
use lib.ListN.{length, take, drop, get_or, length-take, length-drop, drop_of_length-le}
use borrow.Author.Tests.{ne_eqb}
use lib.Seq.{take_all, take-nil, drop-nil}
use Rattle.laws.specs.When.{when}
use Rattle.lists.specs.Parts.{div_ceil, joined}
use Rattle.lists.proofs.Parts.{ceil_enough, ceil_least, joined_parts, part_at_lem, part_of_part}
use Rattle.sections.specs.Sections.{section_length, section_count, sections, section_octets, segment_octets, segment_start}

pub some_section : (n : ℕ) → 0 < section_count n
unfolding section_count
some_section n = omega arith

-- a NOS can name them all
pub few_sections : (n : ℕ) → section_count n ≤ 255
unfolding section_count section_length
few_sections n =
    let size : ℕ = max 4096 (div_ceil n 255) in
    let big : div_ceil n 255 ≤ size = omega arith in
    let below : div_ceil n size * size < 256 * size = omega (arith, ceil_least n size (omega arith), ceil_enough n 255 (omega arith)) in
    omega (arith, lt_of_mul-lt-mul_right size {m = div_ceil n size} {n = 256} below)

-- they hold all octets
pub enough : (n : ℕ) → n ≤ section_count n * section_length n
unfolding section_count section_length
enough n =
    le_trans (ceil_enough n (max 4096 (div_ceil n 255)) (omega arith)) (mul-le-mul_right (max 4096 (div_ceil n 255)) (omega arith))

pub joined_sections : (file : List ℕ) → joined (sections file) ≡ file
unfolding sections
joined_sections file =
    joined_parts (section_count (length file)) (section_length (length file)) file
    ∙ take_all (section_count (length file) * section_length (length file)) file (enough (length file))

-- section j + 1, from where it begins
pub section_from : (size j : ℕ) (file : List ℕ) → section_octets size file (suc j) ≡ take size (drop (j * size) file)
unfolding section_octets when
section_from size j file = let one_less : suc j - 1 ≡ j = omega arith in simp (eqb-suc-zero j, one_less)

-- by its name it is the section of the list: the first has the name 1
pub section_named : (file : List ℕ) (j : ℕ) → j < section_count (length file)
    → section_octets (section_length (length file)) file (suc j) ≡ get_or (sections file) j []
unfolding sections
section_named file j h = rw (section_from (section_length (length file)) j file, part_at_lem (section_count (length file)) (section_length (length file)) file j h)

-- a segment of section nos is the part of the file that begins there, of the segment's length; section 0 has none
pub segment_part : (size limit : ℕ) (file : List ℕ) (nos i : ℕ)
    → segment_octets limit (section_octets size file nos) i
    ≡ take (length (segment_octets limit (section_octets size file nos) i)) (drop (segment_start size limit nos i) file)
unfolding section_octets segment_octets segment_start when
segment_part size limit file nos i = by_test (eqb nos 0)
  where
    cut : Bool → List ℕ
    cut b = take limit (drop (i * limit) (when b [] (take size (drop ((nos - 1) * size) file))))

    by_test : (b : Bool) → cut b ≡ take (length (cut b)) (drop ((nos - 1) * size + i * limit) file)
    by_test true = simp (drop-nil, take-nil)
    by_test false = part_of_part ((nos - 1) * size) size (i * limit) limit file

-- no section is longer than its file
pub section_within : (size : ℕ) (file : List ℕ) (nos : ℕ) → length (section_octets size file nos) ≤ length file
unfolding section_octets when
section_within size file nos = by_test (eqb nos 0)
  where
    by_test : (b : Bool) → length (when b [] (take size (drop ((nos - 1) * size) file))) ≤ length file
    by_test true = omega arith
    by_test false = simp (length-take, length-drop) (omega arith)

-- section 0 is empty, and so is every one past the end
pub section_zero : (size : ℕ) (file : List ℕ) → section_octets size file 0 ≡ []
unfolding section_octets when
section_zero size file = refl

pub section_past : (file : List ℕ) (nos : ℕ) → section_count (length file) < nos → section_octets (section_length (length file)) file nos ≡ []
unfolding section_octets when
section_past file nos h =
    let far : length file ≤ (nos - 1) * section_length (length file) =
    le_trans (enough (length file)) (mul-le-mul_right (section_length (length file)) (omega arith)) in
    simp (ne_eqb nos 0 (λ e. omega arith), drop_of_length-le file far, take_all {A = ℕ} (section_length (length file)) [] (omega arith))
