-- A transfer script and its text (document 01, A transfer script).
use Rattle.std.specs.Prelude.{ℕ, ◌≤◌, List, [], ◌∷◌, ◌++◌, length}
use Rattle.script.specs.Decimal.{decimal, spaced}

-- the largest object address of three octets, and the largest NOF
abbrev pub max_object : ℕ
max_object = 16777215

abbrev pub max_nof : ℕ
max_nof = 65535

-- the most octets of a file, and the most sections that its damage names
abbrev pub max_file : ℕ
max_file = 8192

abbrev pub max_damage : ℕ
max_damage = 255

pub record Script : Type 0 where
  pub object : ℕ
  pub nof : ℕ
  pub file : List ℕ
  -- the sections named
  pub damage : List ℕ

abbrev pub Octets : List ℕ → Type 0
Octets [] = Unit {0}
Octets (x ∷ xs) = (x ≤ 255) × Octets xs

-- every number within its field
pub record Right (s : Script) : Type 0 where
  pub object : s.object ≤ max_object
  pub nof : s.nof ≤ max_nof
  pub file_length : length s.file ≤ max_file
  pub file : Octets s.file
  pub damage_length : length s.damage ≤ max_damage
  pub damage : Octets s.damage

-- three sections, each after its count, and one newline, which is 10
unfoldable pub text_of : Script → List ℕ
text_of s =
    decimal 2
    ++ (spaced (s.object ∷ s.nof ∷ length s.file ∷ (s.file ++ (length s.damage ∷ s.damage))) ++ (10 ∷ []))
