-- How the reader says what it found: the octets in a vector of fixed memory.
use Rattle.std.specs.Prelude.{ℕ, ⊤, List, Option, Some, None}
use Rattle.arrayvec.specs.ArrayVec.{ArrayVec}

-- the octets read
abbrev pub read_as : Option ⊤ → ArrayVec ℕ → Option (List ℕ)
read_as (Some u) v = Some v.items
read_as None v = None
