-- What a reader finds in front of a text.
use Rattle.std.proofs.Common.{◌≡◌, ℕ, ◌+◌, ◌*◌, ◌-◌, ◌≤◌, ◌<◌, false, List, [], ◌∷◌, arith}
use borrow.Author.Tests.{le-leb, lt-leb, ne_eqb}
use Rattle.laws.proofs.Decide.{whens}
use mathlib.Core.Path.{refl}
use Rattle.std.specs.Prelude.{Option, Some, None, IfNone}
use Rattle.script.specs.Left.{found_in}
use Rattle.script.specs.Reader.{nothing, found, begins_digit, more, number}

module _ (limit d : ℕ) (t : List ℕ) (one : d ≤ 9) where
  pub number_first : number limit ((48 + d) ∷ t) ≡ more limit d t
  unfolding number begins_digit
  number_first =
      let same : 48 + d - 48 ≡ d = omega arith in
      simp (whens, le-leb 48 (48 + d) (omega arith), le-leb (48 + d) 57 (omega arith), same)

  module _ (v : ℕ) (small : v ≤ limit) where
    pub more_on : (v ≡ 0 → ⊥) → more limit v ((48 + d) ∷ t) ≡ more limit (10 * v + d) t
    unfolding more
    more_on n =
        let same : 48 + d - 48 ≡ d = omega arith in
        simp (whens, le-leb _ _ small, le-leb 48 (48 + d) (omega arith), le-leb (48 + d) 57 (omega arith), ne_eqb _ _ n, same)

    -- a digit after a leading zero
    pub more_zero : v ≡ 0 → more limit v ((48 + d) ∷ t) ≡ nothing
    unfolding more
    more_zero e = rw e (simp (whens, le-leb 0 limit (omega arith), le-leb 48 (48 + d) (omega arith), le-leb (48 + d) 57 (omega arith)))

pub number_none : (limit : ℕ) (t : List ℕ) → begins_digit t ≡ false → number limit t ≡ nothing
unfolding number
number_none limit t e = simp (whens, e)

pub more_stop : (limit v : ℕ) (t : List ℕ) → v ≤ limit → begins_digit t ≡ false → more limit v t ≡ found v t
unfolding more begins_digit
more_stop limit v [] h e = simp (whens, le-leb _ _ h)
more_stop limit v (x ∷ t) h e = simp (whens, le-leb _ _ h, e)

pub more_over : (limit v : ℕ) (t : List ℕ) → limit < v → more limit v t ≡ nothing
unfolding more
more_over limit v [] h = simp (whens, lt-leb _ _ h)
more_over limit v (x ∷ t) h = simp (whens, lt-leb _ _ h)

-- for the readers' own proofs
pub ruleset reading = (number_first, number_none, more_on, more_zero, more_stop, more_over)

-- Two readings that found the same are one: the same answer, and where something is found the same left behind it.
pub one_rest : (v w : ℕ) (t u : List ℕ) → found_in (Some v) t ≡ found_in (Some w) u → t ≡ u
one_rest v w t u e = cc

-- Where nothing is found, all of the text is left, as the reader's methods promise (`kept`): so of one text the same.
pub one_reading : (r s : Option ℕ) (t u : List ℕ) → found_in r t ≡ found_in s u
    → (r ≡ s) × ((text : List ℕ) → IfNone r (t ≡ text) → IfNone s (u ≡ text) → t ≡ u)
one_reading (Some v) (Some w) t u e = let same : v ≡ w = cc in (rw same, λ text i j. one_rest v w t u e)
one_reading (Some v) None t u e = let z : ◌≡◌ {A = ℕ} 0 1 = cc in absurd (omega arith)
one_reading None (Some w) t u e = let z : ◌≡◌ {A = ℕ} 0 1 = cc in absurd (omega arith)
one_reading None None t u e = (refl, λ text i j. cc)
