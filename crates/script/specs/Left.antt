-- How the reader's methods say what they found: by what is left of the text. What reading a script answers is in Answers.antt.
use Rattle.std.specs.Prelude.{ℕ, ⊤, List, Option, Some, None}
use Rattle.std.specs.Borrow.{Bor}
use Rattle.script.specs.Script.{Script}
use Rattle.script.specs.Reader.{Found, nothing, found}
use Rattle.script.specs.declared.read.ReadScript.{ReadScript}

-- what was found, and what is left behind it
abbrev pub found_in : {A : Type 0} → Option A → List ℕ → Found A
found_in (Some a) left = found a left
found_in None left = nothing

-- octets found, which fill a buffer
abbrev pub octets_in : Option ⊤ → List ℕ → List ℕ → Found (List ℕ)
octets_in (Some u) octets left = found octets left
octets_in None octets left = nothing

-- octets found, in a lent buffer
abbrev pub lent_in : Option (Bor (List ℕ)) → List ℕ → Found (List ℕ)
lent_in (Some octets) left = found octets.now left
lent_in None left = nothing

-- the script that was read
abbrev pub script_in : Option ReadScript → Option Script
script_in (Some s) = Some (record { object = s.ioa; nof = s.nof.value; file = s.file.now; damage = s.damage.now })
script_in None = None
