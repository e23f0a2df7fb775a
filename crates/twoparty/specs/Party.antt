-- The exchange (document 01, The exchange) a second time, as the code's record keeps it: the queue is one frame of the Receiver's, or the rest of one reply of the Provider's, and the sendings to come are a section and a number.
-- What a customer must believe is the exchange (exchange/specs/Exchange.antt). These laws tie the two: `next_shown` (proofs/Standing.antt), that the frame shown is the first of the exchange's queue; `sight` (run/proofs/Following.antt), that a step here is a step there; `run_is` (run/proofs/Running.antt) and `frames_shown` (run/proofs/Showing.antt), that whole runs are the same.
use Rattle.std.specs.Prelude.{ℕ, ◌+◌, Bool, List, leb, length, Result, Ok, Err, Option, Some, None}
use Rattle.laws.specs.When.{when, unless, ◌and◌}
use Rattle.asdu.specs.declared.FtError.TheVariants as E
use Rattle.ft.specs.Directions.{other_role}
use Rattle.ft.specs.declared.Role.{Role}
use Rattle.ft.specs.declared.FileTransferProcedure.{FileTransferProcedure}
use Rattle.provide.specs.Record.{provider_made, file_agrees}
use Rattle.provide.specs.Replies.{reply_frame}
use Rattle.provide.specs.declared.Provider.{Provider}
use Rattle.provide.specs.declared.ProviderStep.{ProviderStep}
use Rattle.requests.specs.declared.ProviderAnswer.{ProviderAnswer}
use Rattle.requests.specs.declared.ProviderAnswer.TheVariants as P
use Rattle.requests.specs.declared.Reply.{Reply}
use Rattle.receive.specs.Record.{receiver_made, store_agrees, awaited, started}
use Rattle.receive.specs.Answers.{Outcome, sends}
use Rattle.receive.specs.declared.Receiver.{Receiver}
use Rattle.receive.specs.declared.ReceiverStep.{ReceiverStep}
use Rattle.receive.specs.declared.ReceiverAnswer.{ReceiverAnswer}
use Rattle.exchange.specs.Stations.{station_with}
use Rattle.exchange.specs.declared.Sender.TheVariants as S
use Rattle.radio.specs.Radio.{all_have_octets, first_section, is_damaged, after_answer}
use Rattle.radio.specs.declared.Radio.{Radio}
use Rattle.delivery.specs.Handed.{provider_handed, receiver_handed}
use Rattle.twoparty.specs.declared.Settings.{Settings}
use Rattle.twoparty.specs.declared.Queue.{Queue}
use Rattle.twoparty.specs.declared.Queue.TheVariants as Q
use Rattle.twoparty.specs.declared.TwoParty.{TwoParty}
use Rattle.twoparty.specs.declared.NextFrame.{NextFrame}
use Rattle.asdu.specs.declared.FtError.{FtError}
use Rattle.frame.specs.declared.Frame.{Frame}

-- ---- the making

-- a station of this role in a run
abbrev pub station_of : Settings → Role → FileTransferProcedure
station_of s role = station_with s.sizes s.common_address s.role role

-- what the Receiver's answer puts behind the rest of the queue: nothing, or one frame that is then all of it
unfoldable pub asked : Queue → ReceiverAnswer → Queue
asked rest a = when (sends a) Q.Receiver rest

-- the Receiver's start queues the first frame
abbrev pub started_party : Provider → List ℕ → ReceiverStep → TwoParty
started_party p damage s = record { provider = p; receiver = s.receiver; queue = asked Q.Empty s.answer; radio = first_section damage }

abbrev pub with_receiver : Provider → List ℕ → List ℕ → Result Receiver FtError → Result TwoParty FtError
with_receiver p damage store (Ok r) = Ok (started_party p damage (started r store))
with_receiver p damage store (Err e) = Err e

-- 11 where damage names a section with no octets, then 24 where the store is shorter than the file
unfoldable pub with_provider : Settings → List ℕ → List ℕ → List ℕ → Provider → Result TwoParty FtError
with_provider s file damage store p =
    unless (all_have_octets p.section_len file damage) (Err E.ScriptMisshapen)
    (unless (leb (length file) (length store)) (Err E.StoreFull)
    (with_receiver p damage store (receiver_made (station_of s (other_role s.role)) s.ioa s.nof)))

abbrev pub after_making : Settings → List ℕ → List ℕ → List ℕ → Result Provider FtError → Result TwoParty FtError
after_making s file damage store (Ok p) = with_provider s file damage store p
after_making s file damage store (Err e) = Err e

-- before any frame: 2, 3 and 1 of the making, 11, 24
unfoldable pub party_made : Settings → List ℕ → List ℕ → List ℕ → Result TwoParty FtError
party_made s file damage store = after_making s file damage store (provider_made (station_of s s.role) s.ioa s.nof (length file))

-- ---- one frame

-- the frame at an index of the Provider's reply, if there is one
abbrev pub from_reply : Result Frame FtError → Result (Option NextFrame) FtError
from_reply (Ok f) = Ok (Some (record { sender = S.Provider; frame = f }))
from_reply (Err e) = Ok None

abbrev pub first : Provider → Receiver → List ℕ → Queue → Result (Option NextFrame) FtError
first p r file Q.Empty = Ok None
first p r file Q.Receiver = Ok (Some (record { sender = S.Receiver; frame = (awaited r) }))
first p r file (Q.Provider reply i damaged) = from_reply (reply_frame p file reply i)

-- the queue's first frame; 26 first
unfoldable pub next_frame : TwoParty → List ℕ → Result (Option NextFrame) FtError
next_frame t file = unless (file_agrees t.provider file) (Err E.RecordMismatch) (first t.provider t.receiver file t.queue)

-- a transfer and the store
pub record Moved : Type 0 where
  pub party : TwoParty
  pub store : List ℕ

abbrev pub still : TwoParty → List ℕ → Moved
still t store = record { party = t; store = store }

-- what the Provider's answer puts into the queue
abbrev pub replied : Radio → ProviderAnswer → Queue
replied r (P.Running reply) = Q.Provider reply 0 (is_damaged r reply)
replied r P.Complete = Q.Empty
replied r (P.Deactivated scq) = Q.Empty
replied r (P.FileRejected afq) = Q.Empty
replied r (P.Refused cause mirror) = Q.Empty
replied r (P.Err e) = Q.Empty

-- the Provider has answered
abbrev pub after_provider : TwoParty → List ℕ → ProviderStep → TwoParty
after_provider t damage s =
    record {
      provider = s.provider;
      receiver = t.receiver;
      queue = replied t.radio s.answer;
      radio = after_answer damage t.radio s.answer;
    }

abbrev pub to_provider : TwoParty → List ℕ → List ℕ → TwoParty
to_provider t file damage = after_provider t damage (provider_handed t.provider t.receiver file)

-- the Receiver has answered; `rest` is the queue behind the frame
abbrev pub after_receiver : TwoParty → Queue → Outcome → Moved
after_receiver t rest o =
    record {
      party = record { provider = t.provider; receiver = o.step.receiver; queue = asked rest o.step.answer; radio = t.radio };
      store = o.store;
    }

abbrev pub to_receiver : TwoParty → List ℕ → List ℕ → Reply → ℕ → Bool → Result Frame FtError → Moved
to_receiver t file store reply i damaged (Ok f) =
    after_receiver t (Q.Provider reply (i + 1) damaged) (receiver_handed t.provider t.receiver file store reply i damaged f)
to_receiver t file store reply i damaged (Err e) = still t store

-- the queue's first frame passes; an empty queue stays
abbrev pub moved_by : TwoParty → List ℕ → List ℕ → List ℕ → Queue → Moved
moved_by t file damage store Q.Empty = still t store
moved_by t file damage store Q.Receiver = still (to_provider t file damage) store
moved_by t file damage store (Q.Provider reply i damaged) = to_receiver t file store reply i damaged (reply_frame t.provider file reply i)

unfoldable pub advanced : TwoParty → List ℕ → List ℕ → List ℕ → Moved
advanced t file damage store = moved_by t file damage store t.queue

pub record PartyStep : Type 0 where
  pub result : Result TwoParty FtError
  pub store : List ℕ

abbrev pub went : Moved → PartyStep
went m = record { result = Ok m.party; store = m.store }

-- 26 first: a record that a making gives of this file, and one whose octets the store holds
unfoldable pub party_stepped : TwoParty → List ℕ → List ℕ → List ℕ → PartyStep
party_stepped t file damage store =
    unless (file_agrees t.provider file and store_agrees t.receiver store) (record { result = Err E.RecordMismatch; store = store })
    (went (advanced t file damage store))
