-- The sequence of octets: its first four, its length, each of it, and its parts.
use Rattle.std.proofs.Common.{◌≡◌, ℕ, zero, suc, ◌+◌, ◌<◌, [], ◌∷◌, ◌++◌, length, get_or, refl, ap, arith}
use Rattle.generator.proofs.Fronts.{front_set}
use Rattle.generator.specs.Sequence.{stepped, octet_of, state_after, octets_from}

-- document 02's four octets
pub first_four : octets_from 4 0 ≡ 60 ∷ 71 ∷ 209 ∷ 170 ∷ []
unfolding stepped octet_of
first_four = refl

pub octets_length : (n s : ℕ) → length (octets_from n s) ≡ n
octets_length zero s = refl
octets_length (suc n) s = ap suc (octets_length n (stepped s))

-- octet number i, counted from 0, is that of the state one step after i
pub octet_at : (n s i : ℕ) → i < n → get_or (octets_from n s) i 0 ≡ octet_of (stepped (state_after i s))
octet_at zero s i h = absurd (omega arith)
octet_at (suc n) s zero h = refl
octet_at (suc n) s (suc i) h = octet_at n (stepped s) i (omega arith)

module _ (b : ℕ) where
  none_first : 0 + b ≡ b
  none_first = omega arith

  one_first : (a : ℕ) → suc a + b ≡ suc (a + b)
  one_first a = omega arith

  -- some octets, then more from the state after them
  pub octets_joined : (a s : ℕ) → octets_from (a + b) s ≡ octets_from a s ++ octets_from b (state_after a s)
  octets_joined zero s = rw none_first
  octets_joined (suc a) s = rw (one_first a) (ap (λ r. octet_of (stepped s) ∷ r) (octets_joined a (stepped s)))

  pub states_joined : (a s : ℕ) → state_after (a + b) s ≡ state_after b (state_after a s)
  states_joined zero s = rw none_first
  states_joined (suc a) s = rw (one_first a) (states_joined a (stepped s))

pub state_next : (i s : ℕ) → state_after (i + 1) s ≡ stepped (state_after i s)
state_next i s = states_joined 1 i s

pub octets_next : (i s : ℕ) → octets_from (i + 1) s ≡ octets_from i s ++ (octet_of (stepped (state_after i s)) ∷ [])
octets_next i s = octets_joined 1 i s

-- for the proof of the loop that puts them into a part
pub ruleset sequence = (front_set, octets_length, octets_next, state_next)
