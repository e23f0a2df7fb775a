-- A list cut into parts of a size, and a division rounded up: sections of a file and segments of a section (document 01, The Provider's record) are both this.
use Rattle.std.specs.Prelude.{ℕ, zero, suc, ◌+◌, ◌-◌, ◌/◌, List, [], ◌∷◌, ◌++◌, take, drop}

-- a / b, rounded up
unfoldable pub div_ceil : ℕ → ℕ → ℕ
div_ceil a b = (a + (b - 1)) / b

-- the first `count` parts, of `size` each; the last may be shorter
abbrev pub parts : ℕ → ℕ → List ℕ → List (List ℕ)
parts zero size o = []
parts (suc count) size o = take size o ∷ parts count size (drop size o)

-- parts joined in order
abbrev pub joined : List (List ℕ) → List ℕ
joined [] = []
joined (p ∷ ps) = p ++ joined ps
