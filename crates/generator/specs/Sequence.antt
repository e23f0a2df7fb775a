-- The generator of the radio bench's test load (document 02, A2): it holds 32 bits, and each step gives an octet.
use Rattle.std.specs.Prelude.{ℕ, zero, suc, ◌+◌, ◌*◌, ◌/◌, ◌%◌, ◌^◌, List, [], ◌∷◌}

-- one step: from s to s × 1664525 + 1013904223, modulo 2 to the 32nd
unfoldable pub stepped : ℕ → ℕ
stepped s = (s * 1664525 + 1013904223) % 2 ^ 32

-- the octet of a state: divided by 2 to the 24th, rounded down
unfoldable pub octet_of : ℕ → ℕ
octet_of s = s / 2 ^ 24

-- the state after so many steps
abbrev pub state_after : ℕ → ℕ → ℕ
state_after zero s = s
state_after (suc n) s = state_after n (stepped s)

-- so many octets from a state on: each is that of the new state
abbrev pub octets_from : ℕ → ℕ → List ℕ
octets_from zero s = []
octets_from (suc n) s = octet_of (stepped s) ∷ octets_from n (stepped s)
