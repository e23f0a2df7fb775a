-- Whatever comes in: on what one call of a machine completes, with no premise on the channel (document 01, The Provider's record and The Receiver's record).
use Rattle.std.specs.Prelude.{ℕ, ◌≤◌, ◌≡◌, ◌⊎◌, Bool, true, false, List, [], ◌∷◌, map, eqb, length, Option}
use Rattle.laws.specs.When.{◌and◌, ◌or◌}
use Rattle.asdu.specs.Codes.{FILE_POSITIVE}
use Rattle.asdu.specs.declared.Nof.{Nof}
use Rattle.asdu.specs.declared.Header.{Header}
use Rattle.frame.specs.declared.Frame.{Frame}
use Rattle.frame.specs.declared.Frame.TheVariants as F
use Rattle.checksum.specs.Checksum.{checksum}
use Rattle.ft.specs.declared.Received.{Received}
use Rattle.ft.specs.declared.Received.TheVariants as D
use Rattle.provide.specs.Requests.{provide}
use Rattle.provide.specs.Replies.{Packet}
use Rattle.provide.specs.declared.Provider.{Provider}
use Rattle.provide.specs.declared.ProviderStep.{ProviderStep}
use Rattle.requests.specs.declared.ProviderAnswer.TheVariants as P
use Rattle.receive.specs.Record.{kept_octets}
use Rattle.receive.specs.Answers.{Outcome, receive}
use Rattle.receive.specs.declared.Receiver.{Receiver}
use Rattle.receive.specs.declared.ReceiverStep.{ReceiverStep}
use Rattle.receive.specs.declared.ReceiverAnswer.TheVariants as R
use Rattle.exchange.specs.Exchange.{provider_sends, receiver_sends}
use Rattle.exchange.specs.Lines.{stated_sum}
use Rattle.asdu.specs.declared.Unspecified.{Unspecified}

-- ---- the two frames on which machines complete

-- the file of this object address and name
abbrev pub same_file : ℕ → Nof → ℕ → Nof → Bool
same_file object name ioa nof = eqb ioa object and eqb nof.value name.value

-- AFQ 1 for a file: its positive acknowledgement (IEC 60870-5-101, 7.2.6.32)
abbrev pub accepts_file : ℕ → Nof → Frame → Bool
accepts_file object name (F.FileReady ioa nof lof frq) = false
accepts_file object name (F.SectionReady ioa nof nos lof srq) = false
accepts_file object name (F.Sc ioa nof nos scq) = false
accepts_file object name (F.LastSection ioa nof nos lsq chs) = false
accepts_file object name (F.Ack ioa nof nos afq) = eqb afq.action FILE_POSITIVE and same_file object name ioa nof
accepts_file object name (F.Segment ioa nof nos los) = false
accepts_file object name (F.Directory ioa cause) = false
accepts_file object name (F.QueryLog ioa nof start stop) = false

-- the close of a file: LSQ 1 or 2 (7.2.6.31)
abbrev pub closes_file : ℕ → Nof → Frame → Bool
closes_file object name (F.FileReady ioa nof lof frq) = false
closes_file object name (F.SectionReady ioa nof nos lof srq) = false
closes_file object name (F.Sc ioa nof nos scq) = false
closes_file object name (F.LastSection ioa nof nos lsq chs) = (eqb lsq.value 1 or eqb lsq.value 2) and same_file object name ioa nof
closes_file object name (F.Ack ioa nof nos afq) = false
closes_file object name (F.Segment ioa nof nos los) = false
closes_file object name (F.Directory ioa cause) = false
closes_file object name (F.QueryLog ioa nof start stop) = false

-- ---- one call

-- what is handed over: a header, its first unknown field, a frame or the word that it is undecodable, and the octets beside it (document 01, The admitted frame)
pub record Input : Type 0 where
  pub header : Header
  pub unknown : Option Unspecified
  pub received : Received
  pub beside : List ℕ

-- what the Provider makes of it, with the file that it is lent
abbrev pub provides : Provider → List ℕ → Input → ProviderStep
provides p file x = provide p file x.header x.unknown x.received x.beside

-- what the Receiver makes of it, with the store that it is lent
abbrev pub receives : Receiver → List ℕ → Input → Outcome
receives r store x = receive r store x.header x.unknown x.received x.beside

abbrev pub frames_of : List Packet → List Frame
frames_of xs = map (λ (x : Packet). x.frame) xs

-- the frames that go out with a step of the Provider's
abbrev pub frames_by_provider : List ℕ → ProviderStep → List Frame
frames_by_provider file t = frames_of (provider_sends t.provider file t.answer)

-- and with a step of the Receiver's
abbrev pub frames_by_receiver : ReceiverStep → List Frame
frames_by_receiver t = frames_of (receiver_sends t)

-- one of a list
abbrev pub Among : {A : Type 0} → A → List A → Type 0
Among x [] = ⊥
Among x (y ∷ ys) = (x ≡ y) ⊎ Among x ys

-- ---- the Receiver

-- a Receiver that completes and names n octets: what it was handed, and what it leaves
pub record ClosedWith (r : Receiver) (store : List ℕ) (received : Received) (n : ℕ) (o : Outcome) : Type 0 where
  -- a file close for its file
  pub frame : Frame
  pub handed : received ≡ D.Frame frame
  pub close : closes_file r.ioa r.nof frame ≡ true
  -- whose stated sum is that of the octets that it holds as accepted
  pub sum : checksum (kept_octets r store) ≡ stated_sum frame
  -- it names how many they are, and the store has them
  pub named : n ≡ r.kept
  pub whole : r.kept ≤ length store
  -- the store is as it was; the record is done and still holds them
  pub stored : o.store ≡ store
  pub done : o.step.receiver.done ≡ true
  pub kept : o.step.receiver.kept ≡ n

-- the Receiver completes only so
abbrev pub ReceiverCompletesOnly : Type 0
ReceiverCompletesOnly =
    (r : Receiver) (store : List ℕ) (x : Input) (n : ℕ)
    → (receives r store x).step.answer ≡ R.Complete n → ClosedWith r store x.received n (receives r store x)

-- it sends an AFQ 1, for whatever file, only where it completes
abbrev pub ReceiverAcceptsOnly : Type 0
ReceiverAcceptsOnly =
    (r : Receiver) (store : List ℕ) (x : Input) (object : ℕ) (name : Nof) (f : Frame)
    → Among f (frames_by_receiver (receives r store x).step) → accepts_file object name f ≡ true
    → (n : ℕ) × ((receives r store x).step.answer ≡ R.Complete n)

-- ---- the Provider

-- a Provider that completes: it was handed an AFQ 1 for its file, and its record is done
pub record AcceptedWith (p : Provider) (received : Received) (t : ProviderStep) : Type 0 where
  pub frame : Frame
  pub handed : received ≡ D.Frame frame
  pub acknowledgement : accepts_file p.ioa p.nof frame ≡ true
  pub done : t.provider.done ≡ true

-- the Provider completes only so
abbrev pub ProviderCompletesOnly : Type 0
ProviderCompletesOnly =
    (p : Provider) (file : List ℕ) (x : Input) → (provides p file x).answer ≡ P.Complete → AcceptedWith p x.received (provides p file x)

-- whatever it sends as a file close, for whatever file, states the lent file's sum
abbrev pub ProviderClosesOnly : Type 0
ProviderClosesOnly =
    (p : Provider) (file : List ℕ) (x : Input) (object : ℕ) (name : Nof) (f : Frame)
    → Among f (frames_by_provider file (provides p file x)) → closes_file object name f ≡ true → stated_sum f ≡ checksum file
