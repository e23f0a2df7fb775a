-- What a call of a directory makes of a received frame, with the store after it (document 01, The directory and both Refused sections).
use Rattle.std.specs.Prelude.{ℕ, ◌+◌, ◌*◌, Bool, true, false, List, length, Option, Some, None, Result, Ok, Err}
use Rattle.laws.specs.When.{when, unless}
use Rattle.store.specs.Store.{written}
use Rattle.asdu.specs.declared.Header.{Header}
use Rattle.asdu.specs.declared.FtError.TheVariants as E
use Rattle.stored.specs.Stored.{entries_in, has_last, page_stored, room_for}
use Rattle.frame.specs.declared.Frame.{Frame}
use Rattle.frame.specs.declared.Frame.TheVariants as F
use Rattle.ft.specs.Admission.{on_asdu}
use Rattle.ft.specs.declared.Received.{Received}
use Rattle.ft.specs.declared.Received.TheVariants as D
use Rattle.ft.specs.declared.Reaction.{Reaction}
use Rattle.ft.specs.declared.Reaction.TheVariants as A
use Rattle.collector.specs.Record.{call_agrees}
use Rattle.collector.specs.declared.DirectoryCall.{DirectoryCall}
use Rattle.collector.specs.declared.DirectoryStep.{DirectoryStep}
use Rattle.collector.specs.declared.DirectoryAnswer.{DirectoryAnswer}
use Rattle.collector.specs.declared.DirectoryAnswer.TheVariants.{Running, Complete, Refused, Err}
use Rattle.asdu.specs.declared.Unspecified.{Unspecified}
use Rattle.asdu.specs.declared.FtError.{FtError}

-- ---- what is taken

-- any directory page, by its address
abbrev pub frame_taken : Frame → Option ℕ
frame_taken (F.FileReady ioa nof lof frq) = None
frame_taken (F.SectionReady ioa nof nos lof srq) = None
frame_taken (F.Sc ioa nof nos scq) = None
frame_taken (F.LastSection ioa nof nos lsq chs) = None
frame_taken (F.Ack ioa nof nos afq) = None
frame_taken (F.Segment ioa nof nos los) = None
frame_taken (F.Directory ioa cause) = Some ioa
frame_taken (F.QueryLog ioa nof start stop) = None

-- admission has refused what is undecodable
abbrev pub taken : Received → Option ℕ
taken (D.Frame f) = frame_taken f
taken D.Undecodable = None

-- ---- the record

abbrev pub stepped : DirectoryCall → DirectoryAnswer → DirectoryStep
stepped c a = record { call = c; answer = a }

abbrev pub holding : DirectoryCall → ℕ → DirectoryCall
holding c n = record { procedure = c.procedure; started = c.started; held = n; done = c.done }

-- the count of entries stays in the ended record
abbrev pub ended : DirectoryCall → DirectoryCall
ended c = record { procedure = c.procedure; started = c.started; held = c.held; done = true }

-- ---- record, answer and store together

pub record Outcome : Type 0 where
  pub step : DirectoryStep
  pub store : List ℕ

abbrev pub leaving : List ℕ → DirectoryStep → Outcome
leaving store s = record { step = s; store = store }

-- so many entries are held; the flag in any entry of the page completes the call and names how many
unfoldable pub on_held : DirectoryCall → ℕ → List ℕ → DirectoryStep
on_held c n o = when (has_last o) (stepped (ended (holding c n)) (Complete n)) (stepped (holding c n) Running)

-- a page is written after the entries held: 25 exactly where the store cannot take all of it
unfoldable pub on_page : DirectoryCall → List ℕ → ℕ → List ℕ → Outcome
on_page c store ioa o =
    unless (room_for c.held (entries_in o) (length store)) (leaving store (stepped c (Err E.DirectoryFull)))
    (leaving (written store (17 * c.held) (page_stored ioa o)) (on_held c (c.held + entries_in o) o))

abbrev pub on_taken : DirectoryCall → List ℕ → List ℕ → Option ℕ → Outcome
on_taken c store beside (Some ioa) = on_page c store ioa beside
on_taken c store beside None = leaving store (stepped c Running)

-- by what admission makes of the frame: a mirror or a refusal ends the call, requests and other answers change nothing
abbrev pub collect_admitted : DirectoryCall → List ℕ → List ℕ → Option ℕ → Result Reaction FtError → Outcome
collect_admitted c store beside what (Ok A.Requested) = leaving store (stepped c Running)
collect_admitted c store beside what (Ok A.Answered) = on_taken c store beside what
collect_admitted c store beside what (Ok (A.Refused cause mirror)) = leaving store (stepped (ended c) (Refused cause mirror))
collect_admitted c store beside what (Ok (A.Discard why)) = leaving store (stepped c Running)
collect_admitted c store beside what (Ok A.Other) = leaving store (stepped c Running)
collect_admitted c store beside what (Err e) = leaving store (stepped c (Err e))

-- one frame handed to the call, with what stands beside it: 26 first, then a call not started or done is answered with nothing, then admission; 25 last
unfoldable pub collect : DirectoryCall → List ℕ → Header → Option Unspecified → Received → List ℕ → Outcome
collect c store h unknown received beside =
    unless (call_agrees c store) (leaving store (stepped c (Err E.RecordMismatch)))
    (unless c.started (leaving store (stepped c Running))
    (when c.done (leaving store (stepped c Running))
    (collect_admitted c store beside (taken received) (on_asdu c.procedure h unknown received beside))))

-- whether an answer is a numbered refusal
abbrev pub is_refusal : DirectoryAnswer → Bool
is_refusal Running = false
is_refusal (Complete n) = false
is_refusal (Refused cause mirror) = false
is_refusal (Err e) = true
