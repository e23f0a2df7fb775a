-- Reading a number finds exactly its decimal, and no number over the limit.
use Prim.Native.Nat.{ℕ, zero, suc, ◌+◌, ◌*◌, ◌-◌, ◌/◌, ◌%◌, ◌≤◌, ◌<◌}
use mathlib.Core.Bool.{Bool, true, false}
use mathlib.Core.Path.{◌≡◌, refl, ◌∙◌}
use mathlib.Core.List.{List, [], ◌∷◌, ◌++◌, append_assoc}
use native.Mathlib.Omega.{arith}
use lib.Dec.{leb, eqb}
use lib.Seq.{append_snoc}
use borrow.Author.Tests.{leb-true, leb-false, eqb-true, eqb-false, le-leb, ne_eqb}
use Rattle.laws.specs.When.{when}
use Rattle.laws.proofs.Decide.{whens}
use Rattle.asdu.proofs.Range.{both}
use Rattle.script.specs.Decimal.{decimal}
use Rattle.script.specs.Reader.{Found, nothing, found, begins, is_digit, begins_digit, more, number, spaced_number}
use Rattle.script.proofs.Decimals.{either, decimal_next, decimal_one, decimal_more}
use Rattle.script.proofs.ReaderLaws.{more_stop}

-- ---- from a number to its text and back

module _ (limit : ℕ) where
  pub read_decimal : (k v : ℕ) → v < k → v ≤ limit → (t : List ℕ) → number limit (decimal v ++ t) ≡ more limit v t
  unfolding number begins_digit more
  read_decimal zero v h s t = absurd (omega arith)
  read_decimal (suc k) v h s t =
      either (leb v 9)
      (λ e.
      let n : v ≤ 9 = leb-true _ _ e in
      let w : 48 + v - 48 ≡ v = omega arith in
      rw (decimal_one v n) (simp (whens, le-leb 48 (48 + v) (omega arith), le-leb (48 + v) 57 (omega arith), w)))
      (λ e.
      let n : 9 < v = leb-false _ _ e in
      let w : 10 * (v / 10) + (48 + v % 10 - 48) ≡ v = omega arith in
      rw (decimal_more v n, append_assoc, read_decimal k (v / 10) (omega arith) (omega arith) ((48 + v % 10) ∷ t))
      (simp (whens, le-leb (v / 10) limit (omega arith), le-leb 48 (48 + v % 10) (omega arith), le-leb (48 + v % 10) 57 (omega arith), ne_eqb (v / 10) 0 (λ z. omega arith), w)))

  -- a number after a space, where no digit follows it
  pub after_text : (v : ℕ) (t : List ℕ) → v ≤ limit → begins_digit t ≡ false → spaced_number limit (32 ∷ (decimal v ++ t)) ≡ found v t
  unfolding spaced_number begins
  after_text v t s e = simp whens (read_decimal (suc v) v (omega arith) s t ∙ more_stop limit v t s e)

-- ---- from a text to its number and back

-- where a test leads to what was found, it held
pub holds : {A : Type 0} (b : Bool) {m : Found A} {a : A} {rest : List ℕ} → when b m nothing ≡ found a rest → (b ≡ true) × (m ≡ found a rest)
unfolding when
holds true h = (refl, h)
holds false h = let z : ◌≡◌ {A = ℕ} 0 1 = cc in absurd (omega arith)

nonzero : {A : Type 0} (b : Bool) {m : Found A} {a : A} {rest : List ℕ} → when b nothing m ≡ found a rest → (b ≡ false) × (m ≡ found a rest)
unfolding when
nonzero true h = let z : ◌≡◌ {A = ℕ} 0 1 = cc in absurd (omega arith)
nonzero false h = (refl, h)

-- a number within its limit, and its decimal in front of the rest
pub record Spelled (limit : ℕ) (text : List ℕ) (w : ℕ) (rest : List ℕ) : Type 0 where
  pub small : w ≤ limit
  pub spelled : text ≡ decimal w ++ rest

module _ (limit w : ℕ) (rest : List ℕ) where
  itself : (v : ℕ) (t : List ℕ) → v ≤ limit → found v t ≡ found w rest → Spelled limit (decimal v ++ t) w rest
  itself v t s h =
      let p : v ≡ w = cc in
      let q : t ≡ rest = cc in
      record { small = rw p at s; spelled = rw (p, q) }

  more_text : (v : ℕ) (t : List ℕ) → more limit v t ≡ found w rest → Spelled limit (decimal v ++ t) w rest
  unfolding more
  more_text v [] h = let k = holds (leb v limit) h in itself v [] (leb-true _ _ k.0) k.1
  more_text v (x ∷ t) h =
      let k = holds (leb v limit) h in
      either (is_digit x)
      (λ e.
      let d = both _ _ e in
      let lo : 48 ≤ x = leb-true _ _ d.0 in
      let hi : x ≤ 57 = leb-true _ _ d.1 in
      let n = nonzero (eqb v 0) (simp (whens, e) at k.1) in
      let i = more_text (10 * v + (x - 48)) t n.1 in
      let pos : v ≡ 0 → ⊥ = eqb-false _ _ n.0 in
      record { small = i.small; spelled = rw (← (append_snoc (decimal v) x t), ← (decimal_next v x (omega arith) lo hi)) i.spelled })
      (λ e. itself v (x ∷ t) (leb-true _ _ k.0) (simp (whens, e) at k.1))

  pub number_text : (t : List ℕ) → number limit t ≡ found w rest → Spelled limit t w rest
  unfolding number begins_digit
  number_text [] h = let z : ◌≡◌ {A = ℕ} 0 1 = cc (holds _ h).0 in absurd (omega arith)
  number_text (x ∷ t) h =
      let k = holds (is_digit x) h in
      let d = both _ _ k.0 in
      let lo : 48 ≤ x = leb-true _ _ d.0 in
      let hi : x ≤ 57 = leb-true _ _ d.1 in
      let same : 48 + (x - 48) ≡ x = omega arith in
      let i = more_text (x - 48) t k.1 in
      record { small = i.small; spelled = (rw (decimal_one (x - 48) (omega arith), same) at i.spelled) }

  -- a number found after a space
  pub after_found : (t : List ℕ) → spaced_number limit t ≡ found w rest → (w ≤ limit) × (t ≡ 32 ∷ (decimal w ++ rest))
  unfolding spaced_number begins
  after_found [] h = let z : ◌≡◌ {A = ℕ} 0 1 = cc (holds _ h).0 in absurd (omega arith)
  after_found (x ∷ t) h =
      let k = holds (eqb x 32) h in
      let space : x ≡ 32 = eqb-true _ _ k.0 in
      let i = number_text t k.1 in
      (i.small, rw (space, i.spelled))
