-- Reading octets one by one: what was read stands in front of what is still to be read.
use Prim.Native.Nat.{ℕ, suc, ◌+◌, ◌-◌, ◌<◌}
use mathlib.Core.Path.{◌≡◌, refl, sym}
use mathlib.Core.List.{List, [], ◌∷◌, ◌++◌, append_assoc, append-nil}
use native.Mathlib.Numerals.{add-one}
use native.Mathlib.Omega.{arith}
use lib.ListN.{length, take, set}
use lib.Seq.{take-suc-set, take_all}
use Rattle.script.specs.Reader.{Found, nothing, found, then_read, spaced_number, numbers}

-- octets that were read, in front of those that are found next
abbrev pub behind : List ℕ → Found (List ℕ) → Found (List ℕ)
behind xs m = then_read m (λ ys rest. found (xs ++ ys) rest)

behind_none : (m : Found (List ℕ)) → behind [] m ≡ m
behind_none nothing = refl
behind_none (found ys rest) = refl

behind_one : (xs : List ℕ) (x : ℕ) (m : Found (List ℕ)) → behind xs (behind (x ∷ []) m) ≡ behind (xs ++ (x ∷ [])) m
behind_one xs x nothing = refl
behind_one xs x (found ys rest) = simp append_assoc

module _ (n i : ℕ) (h : i < n) where
  one_less : n - i ≡ suc (n - (i + 1))
  one_less = omega arith

  -- one octet more
  pub numbers_on : (out t rest : List ℕ) (x : ℕ) → i < length out → found x rest ≡ spaced_number 255 t
      → behind (take (i + 1) (set out i x)) (numbers (n - (i + 1)) rest) ≡ behind (take i out) (numbers (n - i) t)
  unfolding numbers
  numbers_on out t rest x g e =
      rw (one_less, ← e, add-one, take-suc-set out i x g) (sym (behind_one (take i out) x (numbers (n - suc i) rest)))

  pub numbers_off : (xs t : List ℕ) → nothing ≡ spaced_number 255 t → behind xs (numbers (n - i) t) ≡ nothing
  unfolding numbers
  numbers_off xs t e = rw (one_less, ← e)

-- none of them, and all of them
module _ (n : ℕ) (t out : List ℕ) where
  pub numbers_begin : behind (take 0 out) (numbers (n - 0) t) ≡ numbers n t
  numbers_begin = let z : n - 0 ≡ n = omega arith in rw z (behind_none (numbers n t))

  pub numbers_end : (i : ℕ) → n ≡ i → length out ≡ n → behind (take i out) (numbers (n - i) t) ≡ found out t
  unfolding numbers
  numbers_end i e l = let z : n - i ≡ 0 = omega arith in rw (z, append-nil, take_all i out (omega arith))

-- for the reader's own proof
pub ruleset in_turn = (numbers_begin, numbers_on, numbers_off, numbers_end)
