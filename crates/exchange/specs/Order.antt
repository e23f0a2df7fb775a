-- The order of the sendings (document 01, The exchange and A transfer script): where the k-th sending of a section begins, the noise that it meets is the section's k-th.
use Rattle.std.specs.Prelude.{ℕ, ◌+◌, ◌-◌, ◌≡◌, Bool, false, List, [], ◌∷◌, ◌++◌, eqb, drop, None}
use Rattle.laws.specs.When.{when, ◌and◌}
use Rattle.asdu.specs.Codes.{REQUEST_SECTION, SECTION_NEGATIVE}
use Rattle.frame.specs.declared.Frame.{Frame}
use Rattle.frame.specs.declared.Frame.TheVariants as F
use Rattle.ft.specs.declared.Received.TheVariants as D
use Rattle.provide.specs.Requests.{provide}
use Rattle.requests.specs.declared.ProviderAnswer.{ProviderAnswer}
use Rattle.requests.specs.declared.ProviderAnswer.TheVariants as P
use Rattle.requests.specs.declared.Reply.{Reply}
use Rattle.requests.specs.declared.Reply.TheVariants.{Nothing, FileReady, SectionReady, Section, FileClose}
use Rattle.exchange.specs.Exchange.{Side, by_provider, by_receiver, Fate, lost, arrives, Passing, Noise, Exchange}
use Rattle.exchange.specs.Transfer.{Sendings, Transfer, in_order}
use Rattle.exchange.specs.Lines.{named_section}

-- ---- the sendings of a section that were asked for

-- a section request (SCQ action 6) or a negative section acknowledgement (AFQ action 4): one sending answers it
abbrev pub asks_sending : Frame → Bool
asks_sending (F.FileReady ioa nof lof frq) = false
asks_sending (F.SectionReady ioa nof nos lof srq) = false
asks_sending (F.Sc ioa nof nos scq) = eqb scq.action REQUEST_SECTION
asks_sending (F.LastSection ioa nof nos lsq chs) = false
asks_sending (F.Ack ioa nof nos afq) = eqb afq.action SECTION_NEGATIVE
asks_sending (F.Segment ioa nof nos los) = false
asks_sending (F.Directory ioa cause) = false
asks_sending (F.QueryLog ioa nof start stop) = false

-- 1 where the Receiver asks for a sending of section nos, else 0
abbrev pub asks_for : ℕ → Side → Frame → ℕ
asks_for nos by_provider f = 0
asks_for nos by_receiver f = when (asks_sending f and eqb (named_section f) nos) 1 0

-- how many sendings of section nos these frames asked for
abbrev pub sendings_before : ℕ → List Passing → ℕ
sendings_before nos [] = 0
sendings_before nos (x ∷ xs) = asks_for nos x.sender x.packet.frame + sendings_before nos xs

-- ---- what a sending meets

-- sending number k of section nos, counted from 0, meets noise number k of that section
pub record Meets (m : Transfer) (nos k : ℕ) (radio : List Noise) : Type 0 where
  -- the section's sendings, and those of the later sections
  pub sendings : Sendings
  pub later : List Sendings
  pub section : drop (nos - 1) m.radio ≡ sendings ∷ later
  -- of its noises, the damaged ones in order and then the intact one: number k, and those behind it
  pub met : Noise
  pub behind : List Noise
  pub number : drop k (sendings.damaged ++ (sendings.intact ∷ [])) ≡ met ∷ behind
  -- that one is the next of the noises to come; then come those behind it, and the later sections'
  pub to_come : radio ≡ met ∷ (behind ++ in_order later)

-- a reply that is a sending: where the frames passed asked for k sendings of its section, it is number k
abbrev pub MeetsOwn : Transfer → List Passing → List Noise → Reply → Type 0
MeetsOwn m passed radio Nothing = Unit {0}
MeetsOwn m passed radio FileReady = Unit {0}
MeetsOwn m passed radio (SectionReady nos) = Unit {0}
MeetsOwn m passed radio (Section nos) = Meets m nos.value (sendings_before nos.value passed) radio
MeetsOwn m passed radio (FileClose nos) = Unit {0}

abbrev pub AnswersInOrder : Transfer → List Passing → List Noise → ProviderAnswer → Type 0
AnswersInOrder m passed radio (P.Running r) = MeetsOwn m passed radio r
AnswersInOrder m passed radio P.Complete = Unit {0}
AnswersInOrder m passed radio (P.Deactivated q) = Unit {0}
AnswersInOrder m passed radio (P.FileRejected q) = Unit {0}
AnswersInOrder m passed radio (P.Refused cause mirror) = Unit {0}
AnswersInOrder m passed radio (P.Err e) = Unit {0}

-- what the Provider is about to answer, where the next frame is handed to it; that frame is not yet among the frames passed
abbrev pub HandedInOrder : Transfer → Exchange → Passing → Fate → Side → Type 0
HandedInOrder m e x lost side = Unit {0}
HandedInOrder m e x (arrives beside) by_provider = Unit {0}
HandedInOrder m e x (arrives beside) by_receiver =
    AnswersInOrder m e.passed e.radio (provide e.provider m.file (m.headers e.passed x) None (D.Frame x.packet.frame) beside).answer

abbrev pub QueueInOrder : Transfer → Exchange → List Passing → Type 0
QueueInOrder m e [] = Unit {0}
QueueInOrder m e (x ∷ rest) = HandedInOrder m e x x.fate x.sender

abbrev pub InOrder : Transfer → Exchange → Type 0
InOrder m e = QueueInOrder m e e.queue
