-- What a Provider decides on a request or an acknowledgement (document 01, The Provider's record; IEC 60870-5-101, 7.4.11).
use Rattle.std.specs.Prelude.{ℕ, ◌+◌, Bool, true, false, eqb, ltb}
use Rattle.laws.specs.When.{when}
use Rattle.asdu.specs.Codes.{SELECT_FILE, REQUEST_FILE, SELECT_SECTION, REQUEST_SECTION, FILE_POSITIVE, SECTION_POSITIVE, SECTION_NEGATIVE}
use Rattle.asdu.specs.declared.Nos.{Nos}
use Rattle.asdu.specs.declared.Scq.{Scq}
use Rattle.asdu.specs.declared.Afq.{Afq}
use Rattle.requests.specs.declared.Reply.{Reply}
use Rattle.requests.specs.declared.Reply.TheVariants.{FileReady, SectionReady, Section, FileClose}
use Rattle.requests.specs.declared.ProviderAnswer.{ProviderAnswer}
use Rattle.requests.specs.declared.ProviderAnswer.TheVariants.{Running, Complete, Deactivated, FileRejected, Refused, Err}

-- whether the transfer is over with an answer; a refusal by number does not end it
abbrev pub is_over : ProviderAnswer → Bool
is_over (Running r) = false
is_over Complete = true
is_over (Deactivated q) = true
is_over (FileRejected q) = true
is_over (Refused cause mirror) = true
is_over (Err e) = false

-- a request, by the action of SCQ; one that is not listed ends the transfer
unfoldable pub sc_answer : Nos → Scq → ProviderAnswer
sc_answer nos q =
    when (eqb q.action SELECT_FILE) (Running FileReady)
    (when (eqb q.action REQUEST_FILE) (Running (SectionReady (record { value = 1 })))
    (when (eqb q.action SELECT_SECTION) (Running (SectionReady nos))
    (when (eqb q.action REQUEST_SECTION) (Running (Section nos))
    (Deactivated q))))

-- after a positive acknowledgement of section `nos`, of a file of so many: the next one (of 0: the first), or, of the last or beyond, the file's close under that name
unfoldable pub after_section : ℕ → Nos → Reply
after_section sections nos = when (ltb nos.value sections) (SectionReady (record { value = nos.value + 1 })) (FileClose nos)

-- an acknowledgement, by the action of AFQ; one that is not listed ends the transfer
unfoldable pub ack_answer : ℕ → Nos → Afq → ProviderAnswer
ack_answer sections nos q =
    when (eqb q.action SECTION_POSITIVE) (Running (after_section sections nos))
    (when (eqb q.action SECTION_NEGATIVE) (Running (Section nos))
    (when (eqb q.action FILE_POSITIVE) Complete
    (FileRejected q)))
