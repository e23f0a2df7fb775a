-- A number in decimal, without leading zeros (document 01, A transfer script).
use Rattle.std.specs.Prelude.{ℕ, zero, suc, ◌+◌, ◌/◌, ◌%◌, List, [], ◌∷◌, ◌++◌, leb}
use Rattle.laws.specs.When.{when}

-- of a number that has at most so many digits: `0` is 48 in ASCII
unfoldable pub digits_within : ℕ → ℕ → List ℕ
digits_within zero n = []
digits_within (suc k) n = when (leb n 9) ((48 + n) ∷ []) (digits_within k (n / 10) ++ ((48 + n % 10) ∷ []))

-- a number has no more digits than ones, and 0 has one
unfoldable pub decimal : ℕ → List ℕ
decimal n = digits_within (suc n) n

-- each number after one space, which is 32 in ASCII
abbrev pub spaced : List ℕ → List ℕ
spaced [] = []
spaced (n ∷ ns) = 32 ∷ (decimal n ++ spaced ns)
