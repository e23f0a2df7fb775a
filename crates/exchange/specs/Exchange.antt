-- The exchange (document 01): one Provider, one Receiver, a queue of frames between them, and a radio that hits segments.
use Rattle.std.specs.Prelude.{ℕ, zero, suc, ◌+◌, Bool, true, false, List, [], ◌∷◌, ◌++◌, map, eqb, Option, Some, None}
use Rattle.laws.specs.When.{when}
use Rattle.asdu.specs.Codes.{F_SG_NA_1}
use Rattle.asdu.specs.declared.Header.{Header}
use Rattle.frame.specs.Frames.{type_of}
use Rattle.ft.specs.Building.{header_of}
use Rattle.ft.specs.declared.Received.TheVariants as D
use Rattle.provide.specs.declared.Provider.{Provider}
use Rattle.provide.specs.declared.ProviderStep.{ProviderStep}
use Rattle.requests.specs.declared.ProviderAnswer.{ProviderAnswer}
use Rattle.requests.specs.declared.ProviderAnswer.TheVariants as P
use Rattle.requests.specs.declared.Reply.{Reply}
use Rattle.requests.specs.declared.Reply.TheVariants.{Nothing, FileReady, SectionReady, Section, FileClose}
use Rattle.provide.specs.Replies.{Packet, bare, replies}
use Rattle.provide.specs.Requests.{provide}
use Rattle.receive.specs.declared.Receiver.{Receiver}
use Rattle.receive.specs.declared.ReceiverAnswer.{ReceiverAnswer}
use Rattle.receive.specs.declared.ReceiverStep.{ReceiverStep}
use Rattle.receive.specs.Record.{started}
use Rattle.receive.specs.Answers.{Outcome, receive, to_send}
use Rattle.frame.specs.declared.Frame.{Frame}

-- ---- a frame on its way

pub data Side : Type 0 where
  by_provider by_receiver : Side

-- what becomes of a frame: it is lost, or arrives with these octets beside it
pub data Fate : Type 0 where
  lost : Fate
  arrives : List ℕ → Fate

pub record Passing : Type 0 where
  pub sender : Side
  -- as it was sent
  pub packet : Packet
  pub fate : Fate

-- a frame that the radio leaves alone
abbrev pub untouched : Side → Packet → Passing
untouched s x = record { sender = s; packet = x; fate = arrives x.payload }

-- ---- what the machines send

abbrev pub provider_sends : Provider → List ℕ → ProviderAnswer → List Packet
provider_sends p file (P.Running r) = replies p file r
provider_sends p file P.Complete = []
provider_sends p file (P.Deactivated q) = []
provider_sends p file (P.FileRejected q) = []
provider_sends p file (P.Refused cause mirror) = []
provider_sends p file (P.Err e) = []

abbrev pub packets_of : Option Frame → List Packet
packets_of None = []
packets_of (Some f) = bare f ∷ []

abbrev pub receiver_sends : ReceiverStep → List Packet
receiver_sends s = packets_of (to_send s)

-- ---- the radio

-- a sending is the segments and the close that answer one section request or one negative section acknowledgement
abbrev pub is_section : Reply → Bool
is_section Nothing = false
is_section FileReady = false
is_section (SectionReady nos) = false
is_section (Section nos) = true
is_section (FileClose nos) = false

abbrev pub is_sending : ProviderAnswer → Bool
is_sending (P.Running r) = is_section r
is_sending P.Complete = false
is_sending (P.Deactivated q) = false
is_sending (P.FileRejected q) = false
is_sending (P.Refused cause mirror) = false
is_sending (P.Err e) = false

-- what becomes of a sending's segments, in their order; it may depend on what is sent
abbrev pub Noise : Type 0
Noise = List (List ℕ) → List Fate

-- a radio has a noise for each sending to come; where an answer begins a sending, it meets the next of them
abbrev pub next_sending : Bool → List Noise → List (List ℕ) → List Fate
next_sending true [] os = []
next_sending true (n ∷ radio) os = n os
next_sending false radio os = []

abbrev pub sendings_left : Bool → List Noise → List Noise
sendings_left true [] = []
sendings_left true (n ∷ radio) = radio
sendings_left false radio = radio

-- the payloads of the segments among frames
abbrev pub payloads : List Packet → List (List ℕ)
payloads [] = []
payloads (x ∷ xs) = when (eqb (type_of x.frame) F_SG_NA_1) (x.payload ∷ payloads xs) (payloads xs)

-- the Provider's frames on their way: the segments meet their fates, and where none is said they and all other frames are untouched
abbrev pub flown : List Fate → List Packet → List Passing
flown fates [] = []
flown [] (x ∷ xs) = untouched by_provider x ∷ flown [] xs
flown (f ∷ fates) (x ∷ xs) =
    when (eqb (type_of x.frame) F_SG_NA_1) (record { sender = by_provider; packet = x; fate = f } ∷ flown fates xs)
    (untouched by_provider x ∷ flown (f ∷ fates) xs)

-- what the Provider sends, on its way
abbrev pub on_the_way : List Noise → Bool → List Packet → List Passing
on_the_way radio begins xs = flown (next_sending begins radio (payloads xs)) xs

-- ---- the exchange

pub record Exchange : Type 0 where
  -- the frames not yet taken, in order
  pub queue : List Passing
  -- the records and the store, as the last calls left them
  pub provider : Provider
  pub receiver : Receiver
  pub store : List ℕ
  -- the sendings to come
  pub radio : List Noise
  -- the frames taken, in order
  pub passed : List Passing
  -- the last answer of each machine
  pub provider_said : ProviderAnswer
  pub receiver_said : ReceiverAnswer

-- the Provider was handed frame x; `rest` is the queue behind it
abbrev pub provided : List ℕ → Exchange → Passing → List Passing → ProviderStep → Exchange
provided file e x rest s =
    record {
      queue = rest ++ on_the_way e.radio (is_sending s.answer) (provider_sends s.provider file s.answer);
      provider = s.provider;
      receiver = e.receiver;
      store = e.store;
      radio = sendings_left (is_sending s.answer) e.radio;
      passed = e.passed ++ (x ∷ []);
      provider_said = s.answer;
      receiver_said = e.receiver_said;
    }

-- the Receiver was
abbrev pub taken : Exchange → Passing → List Passing → Outcome → Exchange
taken e x rest o =
    record {
      queue = rest ++ map (untouched by_receiver) (receiver_sends o.step);
      provider = e.provider;
      receiver = o.step.receiver;
      store = o.store;
      radio = e.radio;
      passed = e.passed ++ (x ∷ []);
      provider_said = e.provider_said;
      receiver_said = o.step.answer;
    }

-- nobody was: it is lost
abbrev pub missed : Exchange → Passing → List Passing → Exchange
missed e x rest =
    record {
      queue = rest;
      provider = e.provider;
      receiver = e.receiver;
      store = e.store;
      radio = e.radio;
      passed = e.passed ++ (x ∷ []);
      provider_said = e.provider_said;
      receiver_said = e.receiver_said;
    }

-- the other machine is handed the frame with what arrives beside it, and knows all of its fields
abbrev pub handed : List ℕ → Header → Exchange → Passing → List Passing → List ℕ → Side → Exchange
handed file h e x rest beside by_receiver = provided file e x rest (provide e.provider file h None (D.Frame x.packet.frame) beside)
handed file h e x rest beside by_provider = taken e x rest (receive e.receiver e.store h None (D.Frame x.packet.frame) beside)

abbrev pub passes : List ℕ → Header → Exchange → Passing → List Passing → Fate → Exchange
passes file h e x rest lost = missed e x rest
passes file h e x rest (arrives beside) = handed file h e x rest beside x.sender

-- a frame's header, by the frames taken before it
abbrev pub Headers : Type 0
Headers = List Passing → Passing → Header

-- those of stations that both have this common address and no originator
abbrev pub own_headers : ℕ → Headers
own_headers ca before x = header_of ca 0 x.packet.frame

abbrev pub step_on : List ℕ → Headers → Exchange → List Passing → Exchange
step_on file headers e [] = e
step_on file headers e (x ∷ rest) = passes file (headers e.passed x) e x rest x.fate

-- one step takes the queue's first frame; an empty queue ends it
abbrev pub step : List ℕ → Headers → Exchange → Exchange
step file headers e = step_on file headers e e.queue

abbrev pub run : List ℕ → Headers → ℕ → Exchange → Exchange
run file headers zero e = e
run file headers (suc k) e = run file headers k (step file headers e)

-- the Receiver's start queues the first frame
abbrev pub begun : Provider → Receiver → List ℕ → List Noise → Exchange
begun p r store radio =
    record {
      queue = map (untouched by_receiver) (receiver_sends (started r store));
      provider = p;
      receiver = (started r store).receiver;
      store = store;
      radio = radio;
      passed = [];
      provider_said = P.Running Nothing;
      receiver_said = (started r store).answer;
    }

-- ---- the counts, over the frames passed

abbrev pub one_by : Side → Side → ℕ
one_by by_provider by_provider = 1
one_by by_provider by_receiver = 0
one_by by_receiver by_provider = 0
one_by by_receiver by_receiver = 1

abbrev pub sent_by : Side → List Passing → ℕ
sent_by s [] = 0
sent_by s (x ∷ xs) = one_by s x.sender + sent_by s xs
