-- The decimal digits of a number, from the last digit backwards.
use Prim.Native.Nat.{ℕ, zero, suc, ◌+◌, ◌*◌, ◌-◌, ◌/◌, ◌%◌, ◌^◌, ◌≤◌, ◌<◌}
use mathlib.Core.Bool.{Bool, true, false}
use mathlib.Core.Path.{◌≡◌, refl, ◌∙◌}
use mathlib.Core.List.{[], ◌∷◌, ◌++◌}
use native.Mathlib.Nat.{pow-succ'}
use native.Mathlib.Omega.{arith}
use lib.Dec.{leb}
use lib.ListN.{length, length-append}
use borrow.Author.Tests.{leb-true, leb-false, le-leb, lt-leb}
use Rattle.laws.proofs.Decide.{whens}
use Rattle.std.specs.Fmt.{decimal as printed}
use Rattle.std.proofs.lemmas.Fmt.{decimal_digit, decimal_step}
use Rattle.script.specs.Decimal.{digits_within, decimal}

-- by both results of a test
pub either : {P : Type 0} (b : Bool) → (b ≡ true → P) → (b ≡ false → P) → P
either true f g = f refl
either false f g = g refl

-- room for more digits than there are changes nothing
digits_any : (k j n : ℕ) → n < k → n < j → digits_within k n ≡ digits_within j n
unfolding digits_within
digits_any zero j n h g = absurd (omega arith)
digits_any (suc k) zero n h g = absurd (omega arith)
digits_any (suc k) (suc j) n h g =
    either (leb n 9) (λ e. simp (whens, e))
    (λ e.
    let m : 9 < n = leb-false _ _ e in
    let same : digits_within k (n / 10) ≡ digits_within j (n / 10) = digits_any k j (n / 10) (omega arith) (omega arith) in
    simp (whens, e, same))

module _ (n : ℕ) where
  pub decimal_one : n ≤ 9 → decimal n ≡ (48 + n) ∷ []
  unfolding decimal digits_within
  decimal_one h = simp (whens, le-leb _ _ h)

  pub decimal_more : 9 < n → decimal n ≡ decimal (n / 10) ++ ((48 + n % 10) ∷ [])
  unfolding decimal digits_within
  decimal_more h = simp (whens, lt-leb _ _ h, digits_any n (suc (n / 10)) (n / 10) (omega arith) (omega arith))

-- one digit more
pub decimal_next : (v x : ℕ) → 0 < v → 48 ≤ x → x ≤ 57 → decimal (10 * v + (x - 48)) ≡ decimal v ++ (x ∷ [])
decimal_next v x h l m =
    let n = 10 * v + (x - 48) in
    let q : n / 10 ≡ v = omega arith in
    let r : 48 + n % 10 ≡ x = omega arith in
    decimal_more n (omega arith) ∙ simp (q, r)

-- a number below a power of ten
pub digits_most : (k n : ℕ) → n < 10 ^ suc k → length (decimal n) ≤ suc k
digits_most zero n h = let s : n < 10 = h in rw (decimal_one n (omega arith)) (omega arith)
digits_most (suc k) n h =
    either (leb n 9) (λ e. rw (decimal_one n (leb-true _ _ e)) (omega arith))
    (λ e.
    let m : 9 < n = leb-false _ _ e in
    let p : n < 10 * 10 ^ suc k = rw (pow-succ' 10 (suc k)) at h in
    let i = digits_most k (n / 10) (omega arith) in
    rw (decimal_more n m, length-append) (omega arith))

-- the library writes the same digits
pub printed_decimal : (n : ℕ) → n < 2 ^ 64 → printed n ≡ decimal n
printed_decimal n h = go (suc n) n (omega arith) h
  where
    go : (k n : ℕ) → n < k → n < 2 ^ 64 → printed n ≡ decimal n
    go zero n b h = absurd (omega arith)
    go (suc k) n b h =
        either (leb n 9)
        (λ e.
        let small : n ≤ 9 = leb-true _ _ e in
        decimal_digit n (omega arith) ∙ rw (decimal_one n small))
        (λ e.
        let large : 9 < n = leb-false _ _ e in
        decimal_step n (omega arith) h ∙ rw (decimal_more n large, go k (n / 10) (omega arith) (omega arith)))
