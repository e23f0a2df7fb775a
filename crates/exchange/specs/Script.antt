-- Document 01's worked script, `2 100 7 2 200 100 1 1`: its stations, its radio and its output.
use Rattle.std.specs.Prelude.{ℕ, List, [], ◌∷◌, length}
use Rattle.ft.specs.Procedure.{conventional}
use Rattle.ft.specs.declared.Role.{Role}
use Rattle.ft.specs.declared.Role.TheVariants.{Controlled}
use Rattle.ft.specs.declared.FileTransferProcedure.{FileTransferProcedure}
use Rattle.sections.specs.Sections.{section_count}
use Rattle.exchange.specs.Exchange.{by_provider, by_receiver}
use Rattle.exchange.specs.Stations.{station_with}
use Rattle.exchange.specs.Transfer.{Sendings}
use Rattle.exchange.specs.Damaging.{script_radio}
use Rattle.exchange.specs.Lines.{Line}

-- both stations have the conventional widths and the common address 1, and the Provider is Controlled
abbrev pub station : Role → FileTransferProcedure
station role = station_with conventional 1 Controlled role

abbrev pub script_file : List ℕ
script_file = 200 ∷ 100 ∷ []

-- section 1 is damaged once
abbrev pub damaged_once : List Sendings
damaged_once = script_radio (1 ∷ []) 1 (section_count (length script_file))

abbrev p : ℕ → ℕ → ℕ → ℕ → Line
p t nos q sum = record { sender = by_provider; fields = t ∷ nos ∷ q ∷ sum ∷ [] }

abbrev r : ℕ → ℕ → ℕ → ℕ → Line
r t nos q sum = record { sender = by_receiver; fields = t ∷ nos ∷ q ∷ sum ∷ [] }

-- the output
abbrev pub script_lines : List Line
script_lines =
    r 122 0 1 0
    ∷ p 120 0 2 0
    ∷ r 122 0 2 0
    ∷ p 121 1 2 0
    ∷ r 122 1 6 0
    ∷ p 125 1 2 0
    ∷ p 123 1 3 44
    ∷ r 124 1 4 0
    ∷ p 125 1 2 0
    ∷ p 123 1 3 44
    ∷ r 124 1 3 0
    ∷ p 123 1 1 44
    ∷ r 124 1 1 0
    ∷ []
