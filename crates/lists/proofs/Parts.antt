-- A list that is cut and joined again, and what rounding up gives.
use Prim.Native.Nat.{ℕ, zero, suc, ◌+◌, ◌-◌, ◌*◌, ◌≤◌, ◌<◌, min}
use mathlib.Core.Path.{◌≡◌, refl, sym, ap, ◌∙◌}
use mathlib.Core.List.{List, [], ◌∷◌}
use native.Mathlib.Nat.{div-mul-le_self, lt-div-mul-add, suc-mul, zero-mul, add_comm, sub-zero, zero-sub, suc-sub-suc, zero-min, min-zero, suc-min-suc}
use native.Mathlib.Omega.{arith}
use lib.ListN.{length, take, drop, get_or, length-take, length-drop}
use lib.Seq.{take-add, take_all, drop-drop, take-nil}
use Rattle.lists.specs.Parts.{div_ceil, parts, joined}

pub length-parts : (k size : ℕ) (o : List ℕ) → length (parts k size o) ≡ k
length-parts zero size o = refl
length-parts (suc k) size o = ap suc (length-parts k size (drop size o))

pub joined_parts : (k size : ℕ) (o : List ℕ) → joined (parts k size o) ≡ take (k * size) o
joined_parts zero size o = rw zero-mul
joined_parts (suc k) size o = rw (suc-mul, add_comm (k * size) size, take-add, joined_parts k size (drop size o))

-- part i
pub part_at_lem : (k size : ℕ) (o : List ℕ) (i : ℕ) → i < k → get_or (parts k size o) i [] ≡ take size (drop (i * size) o)
part_at_lem zero size o i h = absurd (omega arith)
part_at_lem (suc k) size o zero h = rw zero-mul
part_at_lem (suc k) size o (suc i) h =
    let order : size + i * size ≡ i * size + size = omega arith in part_at_lem k size (drop size o) i (omega arith) ∙ simp (drop-drop, suc-mul, order)

-- ---- a part of a part

drop-take : (k n : ℕ) (o : List ℕ) → drop k (take n o) ≡ take (n - k) (drop k o)
drop-take zero n o = rw sub-zero
drop-take (suc k) zero o = rw zero-sub
drop-take (suc k) (suc n) [] = rw take-nil
drop-take (suc k) (suc n) (x ∷ o) = rw suc-sub-suc (drop-take k n o)

take-take : (k n : ℕ) (o : List ℕ) → take k (take n o) ≡ take (min k n) o
take-take zero n o = rw zero-min
take-take (suc k) zero o = rw min-zero
take-take (suc k) (suc n) [] = sym (take-nil (min (suc k) (suc n)))
take-take (suc k) (suc n) (x ∷ o) = rw suc-min-suc (ap (λ (r : List ℕ). x ∷ r) (take-take k n o))

-- a beginning is told by its own length
take_own : (n : ℕ) (o : List ℕ) → take n o ≡ take (length (take n o)) o
take_own zero o = refl
take_own (suc n) [] = refl
take_own (suc n) (x ∷ o) = ap (λ (r : List ℕ). x ∷ r) (take_own n o)

-- so a part of a part is a part, told by its place and its length
pub part_of_part : (a n k l : ℕ) (o : List ℕ)
    → take l (drop k (take n (drop a o))) ≡ take (length (take l (drop k (take n (drop a o))))) (drop (a + k) o)
part_of_part a n k l o =
    let is : take l (drop k (take n (drop a o))) ≡ take (min l (n - k)) (drop (a + k) o) = rw (drop-take, take-take, drop-drop) in
    is ∙ take_own (min l (n - k)) (drop (a + k) o) ∙ ap (λ (r : List ℕ). take (length r) (drop (a + k) o)) (sym is)

-- no part is empty or too long
abbrev pub Fit : ℕ → List (List ℕ) → Type 0
Fit limit [] = Unit {0}
Fit limit (o ∷ os) = (1 ≤ length o) × (length o ≤ limit) × Fit limit os

pub fit_parts : (k limit : ℕ) (o : List ℕ) → 0 < limit → k * limit < length o + limit → Fit limit (parts k limit o)
fit_parts zero limit o pos h = tt
fit_parts (suc zero) limit o pos h = (simp length-take (omega arith), simp length-take (omega arith), tt)
fit_parts (suc (suc k)) limit o pos h = (
  simp length-take (omega (arith, simp suc-mul at h)),
  simp length-take (omega arith),
  fit_parts (suc k) limit (drop limit o) pos (simp length-drop (omega arith)),
)

-- ---- rounding up

pub ceil_enough : (a b : ℕ) → 0 < b → a ≤ div_ceil a b * b
unfolding div_ceil
ceil_enough a b h = omega (arith, lt-div-mul-add {a = a + (b - 1)} h)

pub ceil_least : (a b : ℕ) → 0 < b → div_ceil a b * b < a + b
unfolding div_ceil
ceil_least a b h = omega (arith, div-mul-le_self (a + (b - 1)) b)

-- ---- a list in as many parts as rounding up says

module _ (size : ℕ) (pos : 0 < size) (o : List ℕ) where
  pub joined_all : joined (parts (div_ceil (length o) size) size o) ≡ o
  joined_all = joined_parts (div_ceil (length o) size) size o ∙ take_all (div_ceil (length o) size * size) o (ceil_enough (length o) size pos)

  pub fit_all : Fit size (parts (div_ceil (length o) size) size o)
  fit_all = fit_parts (div_ceil (length o) size) size o pos (ceil_least (length o) size pos)
