-- A number in its places: from its last digit to its first, and the filler in front.
use Prim.Native.Nat.{ℕ, zero, suc, ◌+◌, ◌-◌, ◌/◌, ◌%◌, ◌≤◌, ◌<◌}
use mathlib.Core.Bool.{true, false}
use mathlib.Core.Path.{◌≡◌, refl, sym, ◌∙◌}
use mathlib.Core.List.{List, [], ◌∷◌, ◌++◌, append-nil, append_assoc}
use native.Mathlib.Numerals.{add-one}
use native.Mathlib.Omega.{arith}
use lib.Dec.{leb, eqb}
use lib.ListN.{length, take, drop, set, replicate, length-append, length-drop, length-replicate, replicate-append-replicate, drop_of_length-le}
use lib.Seq.{append_snoc, drop-append-le, drop_at, drop-length, length-take-le, set_split}
use borrow.Author.Tests.{leb-true, leb-false, ne_eqb}
use Rattle.laws.specs.When.{when}
use Rattle.laws.proofs.Decide.{whens}
use Rattle.script.specs.Decimal.{decimal}
use Rattle.script.proofs.Decimals.{either, decimal_one, decimal_more}
use Rattle.directory_page.specs.Line.{in_places}

-- a number has exactly its places
pub places_long : (f width n : ℕ) → length (in_places f width n) ≡ width
unfolding in_places
places_long f width n = rw (length-drop, length-append, length-replicate) (omega arith)

-- ---- place by place

-- the octet of a place in front of the last digit, by what is left of the number
abbrev pub digit_or : ℕ → ℕ → ℕ
digit_or f n = when (eqb n 0) f (48 + n % 10)

-- so many such places
abbrev pub in_front : ℕ → ℕ → ℕ → List ℕ
in_front f zero n = []
in_front f (suc k) n = in_front f k (n / 10) ++ (digit_or f n ∷ [])

-- nothing is left of the number
front_none : (f k : ℕ) → in_front f k 0 ≡ replicate k f
unfolding when
front_none f zero = refl
front_none f (suc k) = rw (front_none f k) (replicate-append-replicate k 1 f ∙ rw add-one)

-- the last digit, behind what stands in front of it
module _ (f k : ℕ) (front : (n : ℕ) → 0 < n → in_front f k n ≡ in_places f k n) where
  last_digit : (n : ℕ) → in_places f (suc k) n ≡ in_front f k (n / 10) ++ ((48 + n % 10) ∷ [])
  unfolding in_places
  last_digit n = either (leb n 9) one more
    where
      one : leb n 9 ≡ true → in_places f (suc k) n ≡ in_front f k (n / 10) ++ ((48 + n % 10) ∷ [])
      one e =
          let small : n ≤ 9 = leb-true _ _ e in
          let none : n / 10 ≡ 0 = omega arith in
          let digit : n % 10 ≡ n = omega arith in
          rw (decimal_one n small, none, digit, front_none f k)

      more : leb n 9 ≡ false → in_places f (suc k) n ≡ in_front f k (n / 10) ++ ((48 + n % 10) ∷ [])
      more e =
          let large : 9 < n = leb-false _ _ e in
          let tens = decimal (n / 10) in
          let d = (48 + n % 10) ∷ [] in
          let within : length tens ≤ length (replicate k f ++ tens) = rw length-append (omega arith) in
          rw (front (n / 10) (omega arith), decimal_more n large, length-append, add-one)
          (rw (← (append_assoc (replicate k f) tens d)) (drop-append-le (length tens) (replicate k f ++ tens) d within))

front_is : (f k n : ℕ) → 0 < n → in_front f k n ≡ in_places f k n
unfolding in_places
front_is f zero n h = sym (drop-length (decimal n))
front_is f (suc k) n h =
    let some : n ≡ 0 → ⊥ = λ z. omega arith in
    rw (last_digit f k (front_is f k) n) (simp (whens, ne_eqb n 0 some))

-- what stands in front of the places that are written, where the next of them gets this octet
abbrev pub fronted : ℕ → ℕ → ℕ → ℕ → List ℕ
fronted f zero n octet = []
fronted f (suc k) n octet = in_front f k (n / 10) ++ (octet ∷ [])

fronted_is : (f k n : ℕ) → fronted f k n (digit_or f n) ≡ in_front f k n
fronted_is f zero n = refl
fronted_is f (suc k) n = refl

-- ---- in a list

-- one octet written, and those behind it
here : (xs : List ℕ) (i x : ℕ) → i < length xs → drop i (set xs i x) ≡ x ∷ drop (suc i) xs
here xs i x h = rw (set_split xs i x h) (drop_at (take i xs) (x ∷ drop (suc i) xs) i (length-take-le i xs (omega arith)))

-- nothing is written yet
pub first_place : (f n k : ℕ) (xs : List ℕ) → length xs ≡ k → fronted f k n (48 + n % 10) ++ drop k xs ≡ in_places f k n
unfolding in_places
first_place f n zero xs e = let none : length xs ≤ 0 = omega arith in rw (drop_of_length-le xs none, drop-length (decimal n))
first_place f n (suc k) xs e =
    let none : length xs ≤ suc k = omega arith in
    rw (drop_of_length-le xs none, append-nil) (sym (last_digit f k (front_is f k) n))

-- and the place in front of those that are written
pub next_place : (f left i : ℕ) (xs : List ℕ) → 0 < i → i ≤ length xs
    → in_front f (i - 1) (left / 10) ++ drop (i - 1) (set xs (i - 1) (digit_or f left)) ≡ in_front f i left ++ drop i xs
next_place f left zero xs h k = absurd (omega arith)
next_place f left (suc j) xs h k =
    let e : suc j - 1 ≡ j = omega arith in
    rw (e, here xs j (digit_or f left) (omega arith)) (sym (append_snoc (in_front f j (left / 10)) (digit_or f left) (drop (suc j) xs)))
