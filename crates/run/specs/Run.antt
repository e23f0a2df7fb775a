-- The two-party run (document 01, A transfer script): by its definition it is the exchange with no segment lost, both senders' counts added.
use Rattle.std.specs.Prelude.{ℕ, ◌+◌, List, [], ◌∷◌, leb, length, Result, Ok, Err}
use Rattle.laws.specs.When.{unless}
use Rattle.asdu.specs.Sizes.{sizes_right, segment_limit}
use Rattle.asdu.specs.declared.FtError.{FtError}
use Rattle.asdu.specs.declared.FtError.TheVariants as E
use Rattle.ft.specs.Directions.{other_role}
use Rattle.ft.specs.Procedure.{addressed}
use Rattle.sections.specs.Sections.{section_length, section_count}
use Rattle.provide.specs.Record.{fresh_provider}
use Rattle.receive.specs.Record.{fresh_receiver}
use Rattle.exchange.specs.Exchange.{Passing, Exchange, own_headers, run, begun}
use Rattle.exchange.specs.Transfer.{Sendings, in_order, provider_count, receiver_count}
use Rattle.exchange.specs.Damaging.{script_radio}
use Rattle.twoparty.specs.Party.{station_of}
use Rattle.run.specs.Loop.{Ran}
use Rattle.radio.specs.Radio.{all_have_octets}
use Rattle.twoparty.specs.declared.Settings.{Settings}
use Rattle.run.specs.declared.Ending.{Ending}
use Rattle.run.specs.declared.Ending.TheVariants.{Whole, Spent}

-- the exchange of these settings, after so many frames
abbrev pub exchange_of : Settings → List ℕ → List ℕ → List ℕ → ℕ → Exchange
exchange_of s file damage store frames =
    run file (own_headers s.common_address) frames
    (begun (fresh_provider (station_of s s.role) s.ioa s.nof (length file)) (fresh_receiver (station_of s (other_role s.role)) s.ioa s.nof) store
    (in_order (script_radio damage 1 (section_count (length file)))))

-- whole where no frame is left, with the octets accepted; else the budget is spent. The frames are those passed
abbrev pub ending_by : Exchange → List Passing → Result Ending FtError
ending_by e [] = Ok (Whole e.receiver.kept (length e.passed))
ending_by e (x ∷ queue) = Ok (Spent (length e.passed))

abbrev pub ending : Exchange → Ran
ending e = record { result = ending_by e e.queue; store = e.store }

abbrev pub refused : List ℕ → FtError → Ran
refused store e = record { result = Err e; store = store }

-- before any frame 2, 3, 1, 11 where damage names a section with no octets, 24 where the store is shorter than the file
unfoldable pub two_party : Settings → List ℕ → List ℕ → List ℕ → ℕ → Ran
two_party s file damage store budget =
    unless (sizes_right s.sizes) (refused store E.InvalidAddressSizes)
    (unless (addressed s.sizes s.common_address 0 s.ioa) (refused store E.AddressOutOfRange)
    (unless (leb (length file) 0xFFFFFF) (refused store E.FileTooLong)
    (unless (all_have_octets (section_length (length file)) file damage) (refused store E.ScriptMisshapen)
    (unless (leb (length file) (length store)) (refused store E.StoreFull)
    (ending (exchange_of s file damage store budget))))))

-- how many frames a script takes: both counts of the two-party theorem together
unfoldable pub script_frames : Settings → List ℕ → List ℕ → ℕ
script_frames s file damage =
    let radio : List Sendings = script_radio damage 1 (section_count (length file)) in
    provider_count (segment_limit s.sizes) file radio + receiver_count file radio
