-- What a Receiver makes of a received frame, with the store after it (document 01, The Receiver's record; IEC 60870-5-101, 7.4.11).
use Rattle.std.specs.Prelude.{ℕ, ◌+◌, Bool, true, false, List, eqb, leb, length, Option, Some, None, Result, Ok, Err}
use Rattle.laws.specs.When.{when, unless, ◌or◌}
use Rattle.asdu.specs.Codes.{REQUEST_FILE, REQUEST_SECTION, FILE_POSITIVE, FILE_NEGATIVE, SECTION_POSITIVE, SECTION_NEGATIVE}
use Rattle.asdu.specs.declared.Nos.{Nos}
use Rattle.asdu.specs.declared.Lof.{Lof}
use Rattle.asdu.specs.declared.Frq.{Frq}
use Rattle.asdu.specs.declared.Srq.{Srq}
use Rattle.asdu.specs.declared.Lsq.{Lsq}
use Rattle.asdu.specs.declared.Chs.{Chs}
use Rattle.asdu.specs.declared.Header.{Header}
use Rattle.asdu.specs.declared.FtError.TheVariants as E
use Rattle.frame.specs.declared.Frame.{Frame}
use Rattle.frame.specs.declared.Frame.TheVariants as F
use Rattle.acceptance.specs.Closed.{section_closed, file_closed}
use Rattle.acceptance.specs.declared.Held.{Held}
use Rattle.acceptance.specs.declared.SectionClosed.{SectionClosed}
use Rattle.acceptance.specs.declared.SectionClosed.TheVariants.{Accepted, Dropped}
use Rattle.acceptance.specs.declared.FileClosed.{FileClosed}
use Rattle.acceptance.specs.declared.FileClosed.TheVariants.{Whole, Differs}
use Rattle.ft.specs.Admission.{on_answer}
use Rattle.ft.specs.declared.Received.{Received}
use Rattle.ft.specs.declared.Received.TheVariants as D
use Rattle.ft.specs.declared.Reaction.{Reaction}
use Rattle.ft.specs.declared.Reaction.TheVariants as A
use Rattle.receive.specs.Record.{store_agrees, awaiting, holding, stating, ended, held_by, awaited, stepped}
use Rattle.store.specs.Store.{written}
use Rattle.receive.specs.declared.Sent.{Sent}
use Rattle.receive.specs.declared.Sent.TheVariants.{Request, Acknowledgement}
use Rattle.receive.specs.declared.Receiver.{Receiver}
use Rattle.receive.specs.declared.ReceiverStep.{ReceiverStep}
use Rattle.receive.specs.declared.ReceiverAnswer.{ReceiverAnswer}
use Rattle.receive.specs.declared.ReceiverAnswer.TheVariants.{Running, Send, Complete, FileNotReady, SectionNotReady, FileChecksum, UnknownLsq, Refused, Err}
use Rattle.asdu.specs.declared.Unspecified.{Unspecified}
use Rattle.asdu.specs.declared.FtError.{FtError}

-- ---- steps that leave the store as it is

-- a frame goes out, and its answer is awaited
abbrev pub asks : Receiver → Sent → ReceiverStep
asks r s = stepped (awaiting r s) Send

-- the file is ready, or it is not; its length is recorded
unfoldable pub on_file_ready : Receiver → Lof → Frq → ReceiverStep
on_file_ready r lof frq =
    when frq.negative_confirm (stepped (ended r) (FileNotReady frq)) (asks (stating r lof.value) (Request REQUEST_FILE (record { value = 0 })))

-- a section is ready, or it is not; one under way is dropped
unfoldable pub on_section_ready : Receiver → Nos → Srq → ReceiverStep
on_section_ready r nos srq =
    when srq.not_ready (stepped (ended r) (SectionNotReady nos srq)) (asks (holding r r.kept 0) (Request REQUEST_SECTION nos))

-- a section's close: one that is accepted is acknowledged positively, one that is dropped negatively
abbrev pub after_section_close : Receiver → Nos → SectionClosed → ReceiverStep
after_section_close r nos (Accepted h) = asks (holding r h.kept h.staged) (Acknowledgement SECTION_POSITIVE nos)
after_section_close r nos (Dropped h) = asks (holding r h.kept h.staged) (Acknowledgement SECTION_NEGATIVE nos)

unfoldable pub on_section_close : Receiver → List ℕ → Nos → Chs → ReceiverStep
on_section_close r store nos chs = after_section_close r nos (section_closed (held_by r) store chs)

-- the transfer is over: with this held, and this acknowledgement sent
abbrev pub closing : Receiver → Held → Sent → Receiver
closing r h ack = ended (awaiting (holding r h.kept h.staged) ack)

-- the file's close: a whole file is acknowledged positively, one whose sum differs negatively
abbrev pub after_file_close : Receiver → Nos → Chs → FileClosed → ReceiverStep
after_file_close r nos chs (Whole h) = stepped (closing r h (Acknowledgement FILE_POSITIVE nos)) (Complete h.kept)
after_file_close r nos chs (Differs expected h) = stepped (closing r h (Acknowledgement FILE_NEGATIVE nos)) (FileChecksum expected chs)

unfoldable pub on_file_close : Receiver → List ℕ → Nos → Chs → ReceiverStep
on_file_close r store nos chs = after_file_close r nos chs (file_closed (held_by r) store chs)

-- by LSQ: 3 and 4 close a section, 1 and 2 the file; any other ends the transfer
unfoldable pub on_close : Receiver → List ℕ → Nos → Lsq → Chs → ReceiverStep
on_close r store nos lsq chs =
    when (eqb lsq.value 3 or eqb lsq.value 4) (on_section_close r store nos chs)
    (when (eqb lsq.value 1 or eqb lsq.value 2) (on_file_close r store nos chs)
    (stepped (ended r) (UnknownLsq lsq)))

-- ---- record, answer and store together

pub record Outcome : Type 0 where
  pub step : ReceiverStep
  pub store : List ℕ

abbrev pub leaving : List ℕ → ReceiverStep → Outcome
leaving store s = record { step = s; store = store }

-- a segment is written after what is held: 24 where the store cannot take it
unfoldable pub on_segment : Receiver → List ℕ → List ℕ → Outcome
on_segment r store payload =
    unless (leb (r.kept + r.staged + length payload) (length store)) (leaving store (stepped r (Err E.StoreFull)))
    (leaving (written store (r.kept + r.staged) payload) (stepped (holding r r.kept (r.staged + length payload)) Running))

abbrev pub on_answered : Receiver → List ℕ → List ℕ → Frame → Outcome
on_answered r store payload (F.FileReady ioa nof lof frq) = leaving store (on_file_ready r lof frq)
on_answered r store payload (F.SectionReady ioa nof nos lof srq) = leaving store (on_section_ready r nos srq)
on_answered r store payload (F.Sc ioa nof nos scq) = leaving store (stepped r Running)
on_answered r store payload (F.LastSection ioa nof nos lsq chs) = leaving store (on_close r store nos lsq chs)
on_answered r store payload (F.Ack ioa nof nos afq) = leaving store (stepped r Running)
on_answered r store payload (F.Segment ioa nof nos los) = on_segment r store payload
on_answered r store payload (F.Directory ioa cause) = leaving store (stepped r Running)
on_answered r store payload (F.QueryLog ioa nof start stop) = leaving store (stepped r Running)

-- an answer is a frame: admission has refused what is undecodable
abbrev pub on_received : Receiver → List ℕ → List ℕ → Received → Outcome
on_received r store payload (D.Frame f) = on_answered r store payload f
on_received r store payload D.Undecodable = leaving store (stepped r Running)

-- by what admission makes of the frame
abbrev pub receive_admitted : Receiver → List ℕ → List ℕ → Received → Result Reaction FtError → Outcome
receive_admitted r store payload received (Ok A.Requested) = leaving store (stepped r Running)
receive_admitted r store payload received (Ok A.Answered) = on_received r store payload received
receive_admitted r store payload received (Ok (A.Refused cause mirror)) = leaving store (stepped (ended r) (Refused cause mirror))
receive_admitted r store payload received (Ok (A.Discard why)) = leaving store (stepped r Running)
receive_admitted r store payload received (Ok A.Other) = leaving store (stepped r Running)
receive_admitted r store payload received (Err e) = leaving store (stepped r (Err e))

-- one frame handed to the Receiver, with what stands beside it: 26 first, then a done record is answered with nothing, then admission with 23; 24 last
unfoldable pub receive : Receiver → List ℕ → Header → Option Unspecified → Received → List ℕ → Outcome
receive r store h unknown received beside =
    unless (store_agrees r store) (leaving store (stepped r (Err E.RecordMismatch)))
    (when r.done (leaving store (stepped r Running))
    (receive_admitted r store beside received (on_answer r.procedure h unknown received beside (awaited r))))

-- ---- what a step sends

-- whether a frame goes out with an answer
abbrev pub sends : ReceiverAnswer → Bool
sends Running = false
sends Send = true
sends (Complete n) = true
sends (FileNotReady frq) = false
sends (SectionNotReady nos srq) = false
sends (FileChecksum expected got) = true
sends (UnknownLsq lsq) = false
sends (Refused cause mirror) = false
sends (Err e) = false

-- it is the one whose answer the record now awaits
unfoldable pub to_send : ReceiverStep → Option Frame
to_send s = when (sends s.answer) (Some (awaited s.receiver)) None

-- whether an answer is a numbered refusal
abbrev pub is_refusal : ReceiverAnswer → Bool
is_refusal Running = false
is_refusal Send = false
is_refusal (Complete n) = false
is_refusal (FileNotReady frq) = false
is_refusal (SectionNotReady nos srq) = false
is_refusal (FileChecksum expected got) = false
is_refusal (UnknownLsq lsq) = false
is_refusal (Refused cause mirror) = false
is_refusal (Err e) = true
