-- What a Provider makes of a received frame (document 01, The Provider's record; IEC 60870-5-101, 7.4.11).
use Rattle.std.specs.Prelude.{ℕ, Bool, true, false, List, eqb, Option, Some, Result, Ok, Err}
use Rattle.laws.specs.When.{when, unless, ◌and◌}
use Rattle.asdu.specs.declared.Nos.{Nos}
use Rattle.asdu.specs.declared.Scq.{Scq}
use Rattle.asdu.specs.declared.Afq.{Afq}
use Rattle.asdu.specs.declared.Header.{Header}
use Rattle.asdu.specs.declared.FtError.TheVariants as E
use Rattle.frame.specs.declared.Frame.{Frame}
use Rattle.frame.specs.declared.Frame.TheVariants as F
use Rattle.frame.specs.Frames.{ioa_of}
use Rattle.frame.specs.Answers.{nof_of, nof_agree}
use Rattle.ft.specs.Admission.{on_asdu}
use Rattle.ft.specs.declared.Received.{Received}
use Rattle.ft.specs.declared.Received.TheVariants as D
use Rattle.ft.specs.declared.Reaction.{Reaction}
use Rattle.ft.specs.declared.Reaction.TheVariants as A
use Rattle.sections.specs.Sections.{section_count}
use Rattle.provide.specs.Record.{file_agrees, ended, counted}
use Rattle.provide.specs.declared.Provider.{Provider}
use Rattle.provide.specs.declared.ProviderStep.{ProviderStep}
use Rattle.requests.specs.Answers.{is_over, sc_answer, ack_answer}
use Rattle.requests.specs.declared.Reply.{Reply}
use Rattle.requests.specs.declared.Reply.TheVariants.{Nothing}
use Rattle.requests.specs.declared.ProviderAnswer.{ProviderAnswer}
use Rattle.requests.specs.declared.ProviderAnswer.TheVariants.{Running, Complete, Deactivated, FileRejected, Refused, Err}
use Rattle.asdu.specs.declared.Unspecified.{Unspecified}
use Rattle.asdu.specs.declared.FtError.{FtError}

abbrev pub stepped : Provider → ProviderAnswer → ProviderStep
stepped p a = record { provider = p; answer = a }

abbrev pub replying : Provider → Reply → ProviderStep
replying p r = stepped p (Running r)

-- an answer beside the record, which is ended where the transfer is over with it
abbrev pub ended_if : Bool → Provider → Provider
ended_if false p = p
ended_if true p = ended p

abbrev pub answered_with : Provider → ProviderAnswer → ProviderStep
answered_with p a = stepped (ended_if (is_over a) p) a

-- a request, and an acknowledgement of a section or of the file
unfoldable pub on_sc : Provider → Nos → Scq → ProviderStep
on_sc p nos q = answered_with p (sc_answer nos q)

unfoldable pub on_ack : Provider → Nos → Afq → ProviderStep
on_ack p nos q = answered_with p (ack_answer (section_count p.length) nos q)

-- whether a request is for this object address and file
unfoldable pub is_ours : Provider → Frame → Bool
is_ours p f = eqb (ioa_of f) p.ioa and nof_agree (nof_of f) (Some p.nof)

-- the query of a log sends nothing, and no other frame is a request
abbrev pub on_ours : Provider → Frame → ProviderStep
on_ours p (F.FileReady ioa nof lof frq) = replying p Nothing
on_ours p (F.SectionReady ioa nof nos lof srq) = replying p Nothing
on_ours p (F.Sc ioa nof nos scq) = on_sc p nos scq
on_ours p (F.LastSection ioa nof nos lsq chs) = replying p Nothing
on_ours p (F.Ack ioa nof nos afq) = on_ack p nos afq
on_ours p (F.Segment ioa nof nos los) = replying p Nothing
on_ours p (F.Directory ioa cause) = replying p Nothing
on_ours p (F.QueryLog ioa nof start stop) = replying p Nothing

-- one for another is counted and changes nothing else
unfoldable pub on_request : Provider → Frame → ProviderStep
on_request p f = unless (is_ours p f) (replying (counted p) Nothing) (on_ours p f)

-- a request is a frame: admission has refused what is undecodable
abbrev pub on_requested : Provider → Received → ProviderStep
on_requested p (D.Frame f) = on_request p f
on_requested p D.Undecodable = replying p Nothing

-- by what admission makes of the frame
abbrev pub provide_admitted : Provider → Received → Result Reaction FtError → ProviderStep
provide_admitted p received (Ok A.Requested) = on_requested p received
provide_admitted p received (Ok A.Answered) = replying p Nothing
provide_admitted p received (Ok (A.Refused cause mirror)) = stepped (ended p) (Refused cause mirror)
provide_admitted p received (Ok (A.Discard why)) = replying p Nothing
provide_admitted p received (Ok A.Other) = replying p Nothing
provide_admitted p received (Err e) = stepped p (Err e)

-- one frame handed to the Provider: 26 first, then a done record is answered with nothing
unfoldable pub provide : Provider → List ℕ → Header → Option Unspecified → Received → List ℕ → ProviderStep
provide p file h unknown received beside =
    unless (file_agrees p file) (stepped p (Err E.RecordMismatch))
    (when p.done (replying p Nothing)
    (provide_admitted p received (on_asdu p.procedure h unknown received beside)))

-- whether an answer is a numbered refusal
abbrev pub is_refusal : ProviderAnswer → Bool
is_refusal (Running r) = false
is_refusal Complete = false
is_refusal (Deactivated q) = false
is_refusal (FileRejected q) = false
is_refusal (Refused cause mirror) = false
is_refusal (Err e) = true
