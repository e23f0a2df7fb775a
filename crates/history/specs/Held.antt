-- Nothing is freed that the desk does not hold (on AFQ 1, the positive file acknowledgement of 7.2.6.32, a recorder frees its file): on a channel that forges neither of two frames, and may do anything else.
use Rattle.std.specs.Prelude.{ℕ, ◌≤◌, ◌≡◌, true, List, [], ◌∷◌, length, take, Ok}
use Rattle.asdu.specs.declared.Nof.{Nof}
use Rattle.frame.specs.declared.Frame.{Frame}
use Rattle.checksum.specs.Checksum.{checksum}
use Rattle.ft.specs.declared.FileTransferProcedure.{FileTransferProcedure}
use Rattle.ft.specs.declared.Received.TheVariants as D
use Rattle.provide.specs.Record.{provider_made}
use Rattle.provide.specs.declared.Provider.{Provider}
use Rattle.receive.specs.Record.{receiver_made}
use Rattle.receive.specs.declared.Receiver.{Receiver}
use Rattle.history.specs.Calls.{accepts_file, closes_file, Among}
use Rattle.history.specs.Events.{provider_completes, receiver_completes, Event, starts, announces, to_provider, to_receiver, State, state_after, Throughout}

-- ---- the history

pub record History : Type 0 where
  -- two stations: roles, selections, addresses and widths of any kind
  pub provider_station : FileTransferProcedure
  pub receiver_station : FileTransferProcedure
  -- the file's object address and name, the same for both
  pub object : ℕ
  pub name : Nof
  -- the Provider's file, and the Receiver's store with whatever it holds
  pub file : List ℕ
  pub store : List ℕ
  -- both makings accept
  pub provider : Provider
  pub provider_is_made : provider_made provider_station object name (length file) ≡ Ok provider
  pub receiver : Receiver
  pub receiver_is_made : receiver_made receiver_station object name ≡ Ok receiver
  -- any events, in any order and any number: frames may be lost, repeated, reordered, altered, invented, or come from other stations
  pub events : List Event

-- before the first event
abbrev pub initial : History → State
initial h =
    record {
      provider = h.provider;
      receiver = h.receiver;
      store = h.store;
      from_provider = [];
      from_receiver = [];
      completions = [];
    }

-- after the last
abbrev pub reached : History → State
reached h = state_after h.file (initial h) h.events

-- ---- the premises

-- an AFQ 1 for this file that is handed to the Provider was sent by the Receiver before
abbrev pub AcceptanceSent : ℕ → Nof → State → Event → Type 0
AcceptanceSent object name s starts = Unit {0}
AcceptanceSent object name s announces = Unit {0}
AcceptanceSent object name s (to_provider x) = (f : Frame) → x.received ≡ D.Frame f → accepts_file object name f ≡ true → Among f s.from_receiver
AcceptanceSent object name s (to_receiver x) = Unit {0}

-- a file close for this file that is handed to the Receiver was sent by the Provider before
abbrev pub CloseSent : ℕ → Nof → State → Event → Type 0
CloseSent object name s starts = Unit {0}
CloseSent object name s announces = Unit {0}
CloseSent object name s (to_provider x) = Unit {0}
CloseSent object name s (to_receiver x) = (f : Frame) → x.received ≡ D.Frame f → closes_file object name f ≡ true → Among f s.from_provider

-- the channel forges neither of the two frames; of all others nothing is assumed
pub record Unforged (h : History) : Type 0 where
  -- no AFQ 1 reaches the Provider that the Receiver has not sent
  pub acceptances : Throughout (AcceptanceSent h.object h.name) h.file (initial h) h.events
  -- no file close reaches the Receiver that the Provider has not sent
  pub closes : Throughout (CloseSent h.object h.name) h.file (initial h) h.events

-- ---- the conclusion

-- the desk holds what was named
pub record Held (h : History) : Type 0 where
  -- the Receiver has completed once and named so many octets, and after it the Provider, once
  pub octets : ℕ
  pub order : (reached h).completions ≡ receiver_completes octets ∷ provider_completes ∷ []
  -- its record still holds them as accepted, and the store has them
  pub kept : (reached h).receiver.kept ≡ octets
  pub whole : octets ≤ length (reached h).store
  -- with them the store begins, and their sum is the file's
  pub sum : checksum (take octets (reached h).store) ≡ checksum h.file

-- if the Provider has completed, the desk holds what was named
abbrev pub NothingFreedUnheld : Type 0
NothingFreedUnheld = (h : History) → Unforged h → Among provider_completes (reached h).completions → Held h
