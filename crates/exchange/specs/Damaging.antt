-- The radio of a transfer script (document 01, A transfer script): no segment is lost, and the k-th naming of a section raises the first octet of its k-th sending by 1 modulo 256.
use Rattle.std.specs.Prelude.{ℕ, zero, suc, ◌+◌, ◌%◌, ◌<◌, List, [], ◌∷◌, eqb, length, replicate}
use Rattle.laws.specs.When.{when}
use Rattle.exchange.specs.Exchange.{arrives, Noise}
use Rattle.exchange.specs.Transfer.{Sendings}

abbrev pub raised : List ℕ → List ℕ
raised [] = []
raised (x ∷ o) = (x + 1) % 256 ∷ o

-- a sending that arrives as it was sent, and one whose first octet is raised
abbrev pub unhurt : Noise
unhurt [] = []
unhurt (o ∷ os) = arrives o ∷ unhurt os

abbrev pub hurt : Noise
hurt [] = []
hurt (o ∷ os) = arrives (raised o) ∷ unhurt os

-- how often section `nos` is named
abbrev pub namings : ℕ → List ℕ → ℕ
namings nos [] = 0
namings nos (d ∷ ds) = when (eqb d nos) 1 0 + namings nos ds

-- the sendings of so many sections, from number `nos` on
abbrev pub script_radio : List ℕ → ℕ → ℕ → List Sendings
script_radio damage nos zero = []
script_radio damage nos (suc count) = record { damaged = replicate (namings nos damage) hurt; intact = unhurt } ∷ script_radio damage (suc nos) count

-- a section that is named has octets: else the script is refused, 11
abbrev pub Nameable : List ℕ → ℕ → List (List ℕ) → Type 0
Nameable damage nos [] = Unit {0}
Nameable damage nos (o ∷ os) = (0 < namings nos damage → 0 < length o) × Nameable damage (suc nos) os
