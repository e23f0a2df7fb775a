-- The bounds of products, counts, sections and segments, and a part as it is named by two numbers.
use mathlib.Core.Path.{◌≡◌, ap}
use mathlib.Core.Bool.{Bool, true, false}
use mathlib.Core.List.{List, [], ◌∷◌}
use Prim.Native.Nat.{ℕ, zero, suc, ◌+◌, ◌-◌, ◌*◌, ◌/◌, ◌%◌, ◌≤◌, ◌<◌, min}
use native.Mathlib.Nat.{zero-min, suc-min-suc, add-sub_cancel_left, le-max_left, min-le_left, mul-le-mul, lt_of_le_of_lt, lt_of_mul-lt-mul_right, suc-mul, div-zero}
use native.Mathlib.Omega.{arith}
use lib.Dec.{eqb, lit<}
use lib.ListN.{length, take, drop, length-take, length-drop}
use lib.Seq.{take-nil, drop-nil}
use mir.Val.{Fits}
use mir.Syntax.{w64}
use Rattle.std.proofs.lemmas.Grind.{div_ceil_times}
use Rattle.laws.specs.When.{when}
use Rattle.laws.proofs.Decide.{whens}
use Rattle.lists.specs.Parts.{div_ceil}
use Rattle.lists.proofs.Parts.{ceil_enough, ceil_least}
use Rattle.sections.specs.Sections.{section_length, section_octets, segment_octets}

-- ---- products of 32 bits

pub product_fits : (k n : ℕ) → k ≤ 0xFFFFFFFF → n ≤ 0xFFFFFFFF → Fits w64 (k * n)
product_fits k n p q = record { fits = lt_of_le_of_lt (mul-le-mul p q) (lit< tt) }

pub product_most : (k n a b : ℕ) → k ≤ a → n ≤ b → k * n ≤ a * b
product_most k n a b p q = mul-le-mul p q

-- ---- rounding up

-- parts of no length are none
pub ceil_none : (a : ℕ) → div_ceil a 0 ≡ 0
unfolding div_ceil
ceil_none a = div-zero _

-- the standard library's division rounded up is this one
pub ceil_same : (a b : ℕ) → 0 < b → a / b + min 1 (a % b) ≡ div_ceil a b
ceil_same a b h =
    let q = a / b + min 1 (a % b) in
    let p = div_ceil a b in
    let times = div_ceil_times a b h in
    let f : q < suc p = lt_of_mul-lt-mul_right b {m = q} {n = suc p} (rw suc-mul (omega (arith, times.1, ceil_enough a b h))) in
    let g : p < suc q = lt_of_mul-lt-mul_right b {m = p} {n = suc q} (rw suc-mul (omega (arith, times.0, ceil_least a b h))) in
    omega (arith, f, g)

-- there are at most as many parts as octets
pub ceil_most : (a b : ℕ) → div_ceil a b ≤ a
ceil_most a zero = rw ceil_none (omega arith)
ceil_most a (suc b) =
    let l = ceil_least a (suc b) (omega arith) in
    omega (arith, lt_of_mul-lt-mul_right (suc b) {m = div_ceil a (suc b)} {n = a + 1} (omega arith))

-- a file's section length is at least 4,096
pub length-least : (n : ℕ) → 4096 ≤ section_length n
unfolding section_length
length-least n = le-max_left 4096 (div_ceil n 255)

-- ---- parts

take_short : (n : ℕ) (l : List ℕ) → take (min n (length l)) l ≡ take n l
take_short zero l = rw zero-min
take_short (suc n) [] = simp take-nil
take_short (suc n) (x ∷ l) = rw suc-min-suc (ap (λ (t : List ℕ). x ∷ t) (take_short n l))

drop_short : (n : ℕ) (l : List ℕ) → drop (min n (length l)) l ≡ drop n l
drop_short zero l = rw zero-min
drop_short (suc n) [] = simp drop-nil
drop_short (suc n) (x ∷ l) = rw suc-min-suc (drop_short n l)

-- from a start to an end that both stay within the octets
pub part_named : (s : List ℕ) (size at : ℕ) → take (min at (length s) + min size (length s - min at (length s)) - min at (length s)) (drop (min at (length s)) s) ≡ take size (drop at s)
part_named s size at = rw (add-sub_cancel_left, ← length-drop, take_short, drop_short)

-- ---- the octets of a section and of a segment

pub section_most : (size : ℕ) (file : List ℕ) (nos : ℕ) → length (section_octets size file nos) ≤ size
unfolding section_octets
section_most size file nos = go (eqb nos 0)
  where
    go : (b : Bool) → length (when b [] (take size (drop ((nos - 1) * size) file))) ≤ size
    go true = simp whens (omega arith)
    go false = simp (whens, length-take) (min-le_left size _)

pub segment_most : (limit : ℕ) (section : List ℕ) (i : ℕ) → length (segment_octets limit section i) ≤ limit
unfolding segment_octets
segment_most limit section i = simp length-take (min-le_left limit _)
