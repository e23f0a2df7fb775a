-- What a text means as a transfer script (document 01, A transfer script): a reader over what is left of the text.
-- Exactly the texts of right scripts are scripts: `right_read` and `read_right` (proofs/Meaning.antt).
use Rattle.std.specs.Prelude.{ℕ, zero, suc, ◌+◌, ◌*◌, ◌-◌, Bool, false, List, [], ◌∷◌, eqb, leb, length, drop, get_or, Option, Some, None}
use Rattle.laws.specs.When.{when, ◌and◌}
use Rattle.script.specs.Script.{max_object, max_nof, max_file, max_damage, Script}

-- what stands at the front of a text, and what follows it; or nothing
pub data Found (A : Type 0) : Type 0 where
  nothing : Found A
  found : A → List ℕ → Found A

-- what is read next, where something was found
abbrev pub then_read : {A B : Type 0} → Found A → (A → List ℕ → Found B) → Found B
then_read nothing next = nothing
then_read (found a rest) next = next a rest

unfoldable pub begins : ℕ → List ℕ → Bool
begins o [] = false
begins o (x ∷ t) = eqb x o

-- `0` to `9` in ASCII
abbrev pub is_digit : ℕ → Bool
is_digit x = leb 48 x and leb x 57

unfoldable pub begins_digit : List ℕ → Bool
begins_digit [] = false
begins_digit (x ∷ t) = is_digit x

-- a number to its limit, whose digits so far make v; after a 0 no digit follows
unfoldable pub more : ℕ → ℕ → List ℕ → Found ℕ
more limit v [] = when (leb v limit) (found v []) nothing
more limit v (x ∷ t) =
    when (leb v limit)
    (when (is_digit x) (when (eqb v 0) nothing (more limit (10 * v + (x - 48)) t)) (found v (x ∷ t)))
    nothing

unfoldable pub number : ℕ → List ℕ → Found ℕ
number limit t = when (begins_digit t) (more limit (get_or t 0 0 - 48) (drop 1 t)) nothing

-- a number after one space
unfoldable pub spaced_number : ℕ → List ℕ → Found ℕ
spaced_number limit t = when (begins 32 t) (number limit (drop 1 t)) nothing

-- so many octets, each after one space
unfoldable pub numbers : ℕ → List ℕ → Found (List ℕ)
numbers zero t = found [] t
numbers (suc n) t = then_read (spaced_number 255 t) (λ x rest. then_read (numbers n rest) (λ xs end. found (x ∷ xs) end))

-- octets after their count
unfoldable pub counted_octets : ℕ → List ℕ → Found (List ℕ)
counted_octets limit t = then_read (spaced_number limit t) numbers

pub record ScriptSettings : Type 0 where
  pub object : ℕ
  pub nof : ℕ

-- the settings after their count, which is 2: 50 in ASCII
unfoldable pub settings : List ℕ → Found ScriptSettings
settings t =
    when (begins 50 t)
    (then_read (spaced_number max_object (drop 1 t)) (λ object t₁. then_read (spaced_number max_nof t₁) (λ nof t₂. found (record { object = object; nof = nof }) t₂)))
    nothing

-- one newline and nothing more
unfoldable pub ends : List ℕ → Bool
ends t = begins 10 t and eqb (length t) 1

-- a script but for its end
unfoldable pub script_body : List ℕ → Found Script
script_body t =
    then_read (settings t)
    (λ s t₁. then_read (counted_octets max_file t₁) (λ file t₂. then_read (counted_octets max_damage t₂)
    (λ damage t₃. found (record { object = s.object; nof = s.nof; file = file; damage = damage }) t₃)))

-- what was found, where the text ends behind it
abbrev pub whole_text : {A : Type 0} → Found A → Option A
whole_text nothing = None
whole_text (found a rest) = when (ends rest) (Some a) None

-- the script that a whole text is
unfoldable pub script_of : List ℕ → Option Script
script_of t = whole_text (script_body t)
