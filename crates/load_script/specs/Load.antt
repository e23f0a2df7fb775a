-- A test load for the radio bench as text, and the transfer script that it stands for (document 02, A2).
use Rattle.std.specs.Prelude.{ℕ, ◌≤◌, List, [], ◌∷◌, ◌++◌, Option}
use Rattle.script.specs.Decimal.{decimal, spaced}
use Rattle.script.specs.Script.{max_file, max_damage, Script}
use Rattle.script.specs.Reader.{Found, found, then_read, number, spaced_number, whole_text}
use Rattle.generator.specs.Sequence.{octets_from}
use Rattle.generator.specs.Filling.{after_steps, places_filled, entries_from}
use Rattle.generator.specs.declared.Generator.{Generator}
use Rattle.load_script.specs.declared.Load.{Load}

-- ---- its text

-- the largest number of 32 bits
abbrev pub max_state : ℕ
max_state = 4294967295

-- every number within its field
pub record Within (l : Load) : Type 0 where
  pub state : l.state ≤ max_state
  pub octets : l.octets ≤ max_file
  pub entries : l.entries ≤ max_damage

-- three numbers, parted by single spaces, and one newline, which is 10: the form of a script's (document 01, A transfer script)
unfoldable pub load_text : Load → List ℕ
load_text l = decimal l.state ++ (spaced (l.octets ∷ l.entries ∷ []) ++ (10 ∷ []))

-- the three numbers but for the end
unfoldable pub load_body : List ℕ → Found Load
load_body t =
    then_read (number max_state t)
    (λ state t₁. then_read (spaced_number max_file t₁) (λ octets t₂. then_read (spaced_number max_damage t₂)
    (λ entries t₃. found (record { state = state; octets = octets; entries = entries }) t₃)))

-- the load that a whole text is: exactly the texts of loads within are loads (`load_read` and `read_load`, proofs/Meaning.antt)
unfoldable pub load_of : List ℕ → Option Load
load_of t = whole_text (load_body t)

-- ---- its script

-- the file: the first octets from the state on
unfoldable pub file_of : Load → List ℕ
file_of l = octets_from l.octets l.state

-- the generator after the file, from which the damage goes on
unfoldable pub after_file : Load → Generator
after_file l = after_steps l.octets (record { state = l.state })

-- the damage list: as many entries as its places take
unfoldable pub damage_of : Load → List ℕ
damage_of l = entries_from l.octets (places_filled l.octets l.entries) (after_file l).state

-- object address and name of the file, those of document 01's worked script
abbrev pub object : ℕ
object = 100

abbrev pub name : ℕ
name = 7

abbrev pub script_with : List ℕ → List ℕ → Script
script_with file damage = record { object = object; nof = name; file = file; damage = damage }

abbrev pub script_for : Load → Script
script_for l = script_with (file_of l) (damage_of l)
