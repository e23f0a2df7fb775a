-- The history of a transfer on any channel, which document 01 leaves open: one Provider, one Receiver, and events of any kind, in any order and any number.
use Rattle.std.specs.Prelude.{ℕ, List, [], ◌∷◌, ◌++◌, Result, Ok, Err}
use Rattle.frame.specs.declared.Frame.{Frame}
use Rattle.provide.specs.Replies.{announced}
use Rattle.provide.specs.declared.Provider.{Provider}
use Rattle.provide.specs.declared.ProviderStep.{ProviderStep}
use Rattle.requests.specs.declared.ProviderAnswer.{ProviderAnswer}
use Rattle.requests.specs.declared.ProviderAnswer.TheVariants as P
use Rattle.receive.specs.Record.{started}
use Rattle.receive.specs.Answers.{Outcome, leaving}
use Rattle.receive.specs.declared.Receiver.{Receiver}
use Rattle.receive.specs.declared.ReceiverAnswer.{ReceiverAnswer}
use Rattle.receive.specs.declared.ReceiverAnswer.TheVariants as R
use Rattle.history.specs.Calls.{Input, provides, receives, frames_by_provider, frames_by_receiver}
use Rattle.asdu.specs.declared.FtError.{FtError}

-- ---- completions

-- the Provider completes; the Receiver does, and names how many octets it holds
pub data Completion : Type 0 where
  provider_completes : Completion
  receiver_completes : ℕ → Completion

abbrev pub provider_completion : ProviderAnswer → List Completion
provider_completion (P.Running r) = []
provider_completion P.Complete = provider_completes ∷ []
provider_completion (P.Deactivated q) = []
provider_completion (P.FileRejected q) = []
provider_completion (P.Refused cause mirror) = []
provider_completion (P.Err e) = []

abbrev pub receiver_completion : ReceiverAnswer → List Completion
receiver_completion R.Running = []
receiver_completion R.Send = []
receiver_completion (R.Complete n) = receiver_completes n ∷ []
receiver_completion (R.FileNotReady frq) = []
receiver_completion (R.SectionNotReady nos srq) = []
receiver_completion (R.FileChecksum expected got) = []
receiver_completion (R.UnknownLsq lsq) = []
receiver_completion (R.Refused cause mirror) = []
receiver_completion (R.Err e) = []

-- ---- events

pub data Event : Type 0 where
  -- the Receiver is started; the Provider announces its file
  starts announces : Event
  -- anything at all is handed to the Provider, or to the Receiver
  to_provider to_receiver : Input → Event

pub record State : Type 0 where
  -- the records and the store, as the last calls left them
  pub provider : Provider
  pub receiver : Receiver
  pub store : List ℕ
  -- the frames that each has sent so far, in order
  pub from_provider : List Frame
  pub from_receiver : List Frame
  -- the completions so far, in order
  pub completions : List Completion

-- after a call of the Provider
abbrev pub provider_called : List ℕ → State → ProviderStep → State
provider_called file s t =
    record {
      provider = t.provider;
      receiver = s.receiver;
      store = s.store;
      from_provider = s.from_provider ++ frames_by_provider file t;
      from_receiver = s.from_receiver;
      completions = s.completions ++ provider_completion t.answer;
    }

-- of the Receiver
abbrev pub receiver_called : State → Outcome → State
receiver_called s o =
    record {
      provider = s.provider;
      receiver = o.step.receiver;
      store = o.store;
      from_provider = s.from_provider;
      from_receiver = s.from_receiver ++ frames_by_receiver o.step;
      completions = s.completions ++ receiver_completion o.step.answer;
    }

-- the frame of an announcement that is not refused
abbrev pub announced_frames : Result Frame FtError → List Frame
announced_frames (Ok f) = f ∷ []
announced_frames (Err e) = []

-- of the announcement, which leaves the record as it is
abbrev pub file_announced : State → Result Frame FtError → State
file_announced s a =
    record {
      provider = s.provider;
      receiver = s.receiver;
      store = s.store;
      from_provider = s.from_provider ++ announced_frames a;
      from_receiver = s.from_receiver;
      completions = s.completions;
    }

-- the state that an event leaves; the Provider is lent this file at every call
abbrev pub next : List ℕ → State → Event → State
next file s starts = receiver_called s (leaving s.store (started s.receiver s.store))
next file s announces = file_announced s (announced s.provider file)
next file s (to_provider x) = provider_called file s (provides s.provider file x)
next file s (to_receiver x) = receiver_called s (receives s.receiver s.store x)

-- the state that a history leaves
abbrev pub state_after : List ℕ → State → List Event → State
state_after file s [] = s
state_after file s (e ∷ es) = state_after file (next file s e) es

-- what holds of every event of a history and the state that it finds
abbrev pub Throughout : (State → Event → Type 0) → List ℕ → State → List Event → Type 0
Throughout P file s [] = Unit {0}
Throughout P file s (e ∷ es) = P s e × Throughout P file (next file s e) es
