-- What a received frame tells a Receiver, in brief: the little that its step goes by. Only the Receiver's own functions cite it; that it says the same as `receive_admitted` (Answers.antt) is `told_is` (proofs/Telling.antt).
use Rattle.std.specs.Prelude.{ℕ, List, Result, Ok, Err}
use Rattle.frame.specs.declared.Frame.{Frame}
use Rattle.frame.specs.declared.Frame.TheVariants as F
use Rattle.ft.specs.declared.Received.{Received}
use Rattle.ft.specs.declared.Received.TheVariants as D
use Rattle.ft.specs.declared.Reaction.{Reaction}
use Rattle.ft.specs.declared.Reaction.TheVariants as A
use Rattle.receive.specs.Record.{ended, stepped}
use Rattle.receive.specs.Answers.{Outcome, leaving, on_file_ready, on_section_ready, on_close, on_segment}
use Rattle.receive.specs.declared.Receiver.{Receiver}
use Rattle.receive.specs.declared.ReceiverAnswer.TheVariants as R
use Rattle.receive.specs.declared.answered.Told.{Told}
use Rattle.receive.specs.declared.answered.Told.TheVariants as T
use Rattle.asdu.specs.declared.FtError.{FtError}

-- a frame that answers
abbrev pub told_by_frame : Frame → Told
told_by_frame (F.FileReady ioa nof lof frq) = T.FileReady lof frq
told_by_frame (F.SectionReady ioa nof nos lof srq) = T.SectionReady nos srq
told_by_frame (F.Sc ioa nof nos scq) = T.Nothing
told_by_frame (F.LastSection ioa nof nos lsq chs) = T.Close nos lsq chs
told_by_frame (F.Ack ioa nof nos afq) = T.Nothing
told_by_frame (F.Segment ioa nof nos los) = T.Segment
told_by_frame (F.Directory ioa cause) = T.Nothing
told_by_frame (F.QueryLog ioa nof start stop) = T.Nothing

abbrev pub told_by : Received → Told
told_by (D.Frame f) = told_by_frame f
told_by D.Undecodable = T.Nothing

-- by what admission makes of it
abbrev pub told_of : Received → Result Reaction FtError → Told
told_of received (Ok A.Requested) = T.Nothing
told_of received (Ok A.Answered) = told_by received
told_of received (Ok (A.Refused cause mirror)) = T.Refused cause mirror
told_of received (Ok (A.Discard why)) = T.Nothing
told_of received (Ok A.Other) = T.Nothing
told_of received (Err e) = T.Err e

abbrev pub on_told : Receiver → List ℕ → List ℕ → Told → Outcome
on_told r store payload T.Nothing = leaving store (stepped r R.Running)
on_told r store payload (T.FileReady lof frq) = leaving store (on_file_ready r lof frq)
on_told r store payload (T.SectionReady nos srq) = leaving store (on_section_ready r nos srq)
on_told r store payload (T.Close nos lsq chs) = leaving store (on_close r store nos lsq chs)
on_told r store payload T.Segment = on_segment r store payload
on_told r store payload (T.Refused cause mirror) = leaving store (stepped (ended r) (R.Refused cause mirror))
on_told r store payload (T.Err e) = leaving store (stepped r (R.Err e))
