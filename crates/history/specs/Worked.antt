-- Each premise is needed, and no more than the sum is promised: three short histories. Their stations are those of document 01's worked script.
use Rattle.std.specs.Prelude.{ℕ, ◌≡◌, ◌≢◌, false, List, [], ◌∷◌, take, None}
use Rattle.asdu.specs.declared.Nof.{Nof}
use Rattle.asdu.specs.declared.Nos.{Nos}
use Rattle.frame.specs.declared.Frame.{Frame}
use Rattle.frame.specs.declared.Frame.TheVariants as F
use Rattle.checksum.specs.Checksum.{checksum}
use Rattle.ft.specs.Building.{header_of}
use Rattle.ft.specs.declared.Received.TheVariants as D
use Rattle.history.specs.Calls.{Input}
use Rattle.history.specs.Events.{provider_completes, receiver_completes, Event, to_provider, to_receiver, Throughout}
use Rattle.history.specs.Held.{History, initial, reached, AcceptanceSent, CloseSent, Unforged}

-- ---- frames for file 7 at object address 100, and its section 1

abbrev pub worked_name : Nof
worked_name = record { value = 7 }

abbrev first : Nos
first = record { value = 1 }

abbrev pub offered_file : Frame
offered_file = F.FileReady 100 worked_name (record { value = 2 }) (record { value = 0; negative_confirm = false })

abbrev pub offered_section : Frame
offered_section = F.SectionReady 100 worked_name first (record { value = 2 }) (record { value = 0; not_ready = false })

-- AFQ 1 and 3
abbrev pub acknowledgement : ℕ → Frame
acknowledgement action = F.Ack 100 worked_name first (record { action = action; error = 0 })

-- LSQ 1 with the sum 0
abbrev pub zero_close : Frame
zero_close = F.LastSection 100 worked_name first (record { value = 1 }) (record { value = 0 })

-- handed over under the header that a worked station builds
abbrev input_of : Frame → Input
input_of f = record { header = header_of 1 0 f; unknown = None; received = D.Frame f; beside = [] }

-- the Receiver is led to its request for section 1, gets no segment, and is handed the close of a file with the sum 0; what it sends goes to the Provider
abbrev closed_at_once : List Event
closed_at_once = to_receiver (input_of offered_file) ∷ to_receiver (input_of offered_section) ∷ to_receiver (input_of zero_close) ∷ to_provider (input_of (acknowledgement 1)) ∷ []

-- ---- the first premise

-- an AFQ 1 that nobody sent
abbrev pub forged_acceptance : List Event
forged_acceptance = to_provider (input_of (acknowledgement 1)) ∷ []

pub record FreedUnheld (h : History) : Type 0 where
  -- no file close is forged
  pub closes : Throughout (CloseSent h.object h.name) h.file (initial h) h.events
  -- the Provider has completed, the Receiver has not, and it holds nothing
  pub order : (reached h).completions ≡ provider_completes ∷ []
  pub kept : (reached h).receiver.kept ≡ 0

-- ---- the second

-- a file close that the Provider did not send
abbrev pub forged_close : List Event
forged_close = closed_at_once

pub record SumsDiffer (h : History) : Type 0 where
  -- no AFQ 1 is forged
  pub acceptances : Throughout (AcceptanceSent h.object h.name) h.file (initial h) h.events
  -- both have completed, and the sums differ
  pub octets : ℕ
  pub order : (reached h).completions ≡ receiver_completes octets ∷ provider_completes ∷ []
  pub sums : checksum (take octets (reached h).store) ≢ checksum h.file

-- ---- the sum alone

-- a positive acknowledgement of section 1 that nobody sent, which is no forgery of the two, has the Provider close its file; the file's sum is 0
abbrev pub closed_unsent : List Event
closed_unsent = to_provider (input_of (acknowledgement 3)) ∷ closed_at_once

pub record OctetsDiffer (h : History) : Type 0 where
  -- neither frame is forged
  pub unforged : Unforged h
  -- both have completed, and the octets differ
  pub octets : ℕ
  pub order : (reached h).completions ≡ receiver_completes octets ∷ provider_completes ∷ []
  pub differ : take octets (reached h).store ≢ h.file
