-- What a received frame means to a station (document 01, The admitted frame; IEC 60870-5-101, 7.2.3, and 60870-5-104, 7.11).
use Rattle.std.specs.Prelude.{ℕ, Bool, true, false, List, eqb, leb, Option, Some, None, Result, Ok, Err}
use Rattle.laws.specs.When.{when, unless, ◌and◌, ◌or◌}
use Rattle.asdu.specs.Sizes.{max_ioa, max_common_address}
use Rattle.asdu.specs.Header.{is_mirror, unspecified_cause}
use Rattle.asdu.specs.declared.AddressSizes.{AddressSizes}
use Rattle.asdu.specs.declared.Header.{Header}
use Rattle.asdu.specs.declared.Unspecified.{Unspecified}
use Rattle.asdu.specs.declared.Unspecified.TheVariants.{TypeIdentification, Cause, CommonAddress, InformationObjectAddress}
use Rattle.asdu.specs.declared.Discard.TheVariants as D
use Rattle.asdu.specs.declared.FtError.TheVariants as E
use Rattle.frame.specs.declared.Frame.{Frame}
use Rattle.frame.specs.Frames.{type_of, cause_of, receiver_side, ioa_of, is_file_type, receiver_side_type}
use Rattle.frame.specs.Ranges.{values_in_range}
use Rattle.frame.specs.Answers.{answers_to}
use Rattle.ft.specs.Directions.{other_role, direction_for, uses_direction, uses_function}
use Rattle.ft.specs.Procedure.{settled}
use Rattle.ft.specs.declared.Role.{Role}
use Rattle.ft.specs.declared.Role.TheVariants.{Controlling, Controlled}
use Rattle.ft.specs.declared.Selection.{Selection}
use Rattle.ft.specs.declared.FileTransferProcedure.{FileTransferProcedure}
use Rattle.ft.specs.declared.Received.{Received}
use Rattle.ft.specs.declared.Received.TheVariants as R
use Rattle.ft.specs.declared.Reaction.{Reaction}
use Rattle.ft.specs.declared.Reaction.TheVariants.{Requested, Answered, Refused, Discard, Other}
use Rattle.asdu.specs.declared.FtError.{FtError}

-- whether the station uses the direction of what a station of this role sends
unfoldable pub serves : FileTransferProcedure → Role → Bool → Bool
serves p sender side = uses_direction p.selection (direction_for sender side)

-- an unknown field: a controlled station refuses with its cause and a mirror, a controlling one discards and names the field
abbrev pub unspecified : Role → Unspecified → Result Reaction FtError
unspecified Controlled which = Ok (Refused (unspecified_cause which) true)
unspecified Controlling which = Ok (Discard (D.Unspecified which))

-- step 2: a mirror is the other station's refusal where this role sends its type in a direction that is used
unfoldable pub mirrored : FileTransferProcedure → Header → Result Reaction FtError
mirrored p h = when (serves p p.role (receiver_side_type h.type_id)) (Ok (Refused h.cause false)) (Ok (Discard D.Mirror))

-- step 5: every value in range, the object address within its width, and the header's type and cause those of the frame
unfoldable pub frame_agrees : AddressSizes → Header → Frame → List ℕ → Bool
frame_agrees z h f beside =
    leb (ioa_of f) (max_ioa z)
    and values_in_range z f beside
    and eqb (type_of f) h.type_id
    and eqb (cause_of f).value h.cause.value

-- a controlling station refuses with 21 where it uses neither direction, else with 22
unfoldable pub not_served : Selection → Result Reaction FtError
not_served s = when (uses_function s) (Err E.NotSelectedDirection) (Err E.FunctionNotUsed)

abbrev pub unserved_by : Role → Selection → Result Reaction FtError
unserved_by Controlled s = unspecified Controlled TypeIdentification
unserved_by Controlling s = not_served s

-- step 6
unfoldable pub unserved : FileTransferProcedure → Result Reaction FtError
unserved p = unserved_by p.role p.selection

-- steps 5 to 7 of a frame: 4; the direction, the other role sending; receiver-side frames are requested, others answered
unfoldable pub admit_frame : FileTransferProcedure → Header → Frame → List ℕ → Result Reaction FtError
admit_frame p h f beside =
    -- step 5
    unless (frame_agrees p.sizes h f beside) (Err E.ValueOutOfRange)
    -- step 6
    (unless (serves p (other_role p.role) (receiver_side f)) (unserved p)
    -- step 7
    (when (receiver_side f) (Ok Requested)
    (Ok Answered)))

-- step 5: undecodable is 10
abbrev pub admit_received : FileTransferProcedure → Header → Received → List ℕ → Result Reaction FtError
admit_received p h R.Undecodable beside = Err E.Undecodable
admit_received p h (R.Frame f) beside = admit_frame p h f beside

-- whether the common address is the one of all stations, the largest of its width
abbrev pub is_broadcast : AddressSizes → Header → Bool
is_broadcast z h = eqb h.common_address (max_common_address z)

-- whether this field is the first that the station does not know: fields are alike where their causes are
abbrev pub is_first : Option Unspecified → Unspecified → Bool
is_first None field = false
is_first (Some which) field = eqb (unspecified_cause which).value (unspecified_cause field).value

-- steps 3 and 4 (document 02, A11): type, cause, common address (broadcast or unknown), object address, as causes 44 to 47 are numbered
unfoldable pub admit_known : FileTransferProcedure → Header → Option Unspecified → Received → List ℕ → Result Reaction FtError
admit_known p h unknown received beside =
    when (is_first unknown TypeIdentification) (unspecified p.role TypeIdentification)
    (when (is_first unknown Cause) (unspecified p.role Cause)
    (when (is_broadcast p.sizes h or is_first unknown CommonAddress) (unspecified p.role CommonAddress)
    (when (is_first unknown InformationObjectAddress) (unspecified p.role InformationObjectAddress)
    -- steps 5 to 7
    (admit_received p h received beside))))

-- document 01's order, step by step, 3 and 4 as document 02, A11, has them
unfoldable pub on_asdu : FileTransferProcedure → Header → Option Unspecified → Received → List ℕ → Result Reaction FtError
on_asdu p h unknown received beside =
    -- before the steps: 26, then 3
    unless (settled p) (Err E.RecordMismatch)
    (unless (leb h.common_address (max_common_address p.sizes)) (Err E.AddressOutOfRange)
    -- step 1
    (unless (is_file_type h.type_id) (Ok Other)
    -- step 2
    (when (is_mirror h) (mirrored p h)
    -- steps 3 and 4, and behind them steps 5 to 7
    (admit_known p h unknown received beside))))

-- a frame that does not answer the one sent is 23
unfoldable pub matched : Frame → Frame → Result Reaction FtError
matched sent f = unless (answers_to sent f) (Err E.EchoMismatch) (Ok Answered)

-- what is undecodable is no answer: step 5 has refused it
abbrev pub answered : Frame → Received → Result Reaction FtError
answered sent (R.Frame f) = matched sent f
answered sent R.Undecodable = Err E.Undecodable

abbrev pub answering : Frame → Received → Result Reaction FtError → Result Reaction FtError
answering sent received (Ok Answered) = answered sent received
answering sent received (Ok Requested) = Ok Requested
answering sent received (Ok (Refused cause mirror)) = Ok (Refused cause mirror)
answering sent received (Ok (Discard why)) = Ok (Discard why)
answering sent received (Ok Other) = Ok Other
answering sent received (Err e) = Err e

-- the same for a station that waits for the answer to a frame it sent
unfoldable pub on_answer : FileTransferProcedure → Header → Option Unspecified → Received → List ℕ → Frame → Result Reaction FtError
on_answer p h unknown received beside sent = answering sent received (on_asdu p h unknown received beside)
