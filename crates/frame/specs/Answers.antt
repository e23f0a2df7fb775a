-- Which frame answers which: IEC 60870-5-101, 7.4.11, with 60870-5-104, 7.11, and for the query of a log 8.9.
use Rattle.std.specs.Prelude.{ℕ, Bool, true, false, eqb, Option, Some, None}
use Rattle.laws.specs.When.{when, ◌and◌, ◌or◌}
use Rattle.asdu.specs.Codes.{F_FR_NA_1, F_SR_NA_1, F_LS_NA_1, F_SG_NA_1, F_DR_TA_1, CALL_DIRECTORY, SELECT_FILE, REQUEST_FILE, SELECT_SECTION, REQUEST_SECTION, SECTION_POSITIVE, SECTION_NEGATIVE}
use Rattle.asdu.specs.declared.Scq.{Scq}
use Rattle.asdu.specs.declared.Nos.{Nos}
use Rattle.frame.specs.Frames.{ioa_of, type_of}
use Rattle.frame.specs.declared.Frame.{Frame}
use Rattle.frame.specs.declared.Frame.TheVariants.{FileReady, SectionReady, Sc, LastSection, Ack, Segment, Directory, QueryLog}
use Rattle.asdu.specs.declared.Nof.{Nof}

-- ---- names

-- a directory has a name of file for each entry and none of its own
abbrev pub nof_of : Frame → Option Nof
nof_of (FileReady ioa nof lof frq) = Some nof
nof_of (SectionReady ioa nof nos lof srq) = Some nof
nof_of (Sc ioa nof nos scq) = Some nof
nof_of (LastSection ioa nof nos lsq chs) = Some nof
nof_of (Ack ioa nof nos afq) = Some nof
nof_of (Segment ioa nof nos los) = Some nof
nof_of (Directory ioa cause) = None
nof_of (QueryLog ioa nof start stop) = Some nof

abbrev pub nos_of : Frame → Option Nos
nos_of (FileReady ioa nof lof frq) = None
nos_of (SectionReady ioa nof nos lof srq) = Some nos
nos_of (Sc ioa nof nos scq) = Some nos
nos_of (LastSection ioa nof nos lsq chs) = Some nos
nos_of (Ack ioa nof nos afq) = Some nos
nos_of (Segment ioa nof nos los) = Some nos
nos_of (Directory ioa cause) = None
nos_of (QueryLog ioa nof start stop) = None

-- the section that a request names: a request for a section alone asks for one by its name
unfoldable pub called_section : Nos → Scq → Option Nos
called_section nos q = when (eqb q.action REQUEST_SECTION) (Some nos) None

abbrev pub requested_section : Frame → Option Nos
requested_section (FileReady ioa nof lof frq) = None
requested_section (SectionReady ioa nof nos lof srq) = None
requested_section (Sc ioa nof nos scq) = called_section nos scq
requested_section (LastSection ioa nof nos lsq chs) = None
requested_section (Ack ioa nof nos afq) = None
requested_section (Segment ioa nof nos los) = None
requested_section (Directory ioa cause) = None
requested_section (QueryLog ioa nof start stop) = None

-- two names agree where one of them is missing, or they are the same
abbrev pub agree : {A : Type 0} → (A → A → Bool) → Option A → Option A → Bool
agree same (Some x) (Some y) = same x y
agree same (Some x) None = true
agree same None b = true

abbrev pub nof_agree : Option Nof → Option Nof → Bool
nof_agree a b = agree (λ x y. eqb x.value y.value) a b

abbrev pub nos_agree : Option Nos → Option Nos → Bool
nos_agree a b = agree (λ x y. eqb x.value y.value) a b

-- ---- kinds

-- a file ready that confirms negatively (7.2.6.28), a section ready that is not ready (7.2.6.29)
abbrev pub refusing : Frame → Bool
refusing (FileReady ioa nof lof frq) = frq.negative_confirm
refusing (SectionReady ioa nof nos lof srq) = srq.not_ready
refusing (Sc ioa nof nos scq) = false
refusing (LastSection ioa nof nos lsq chs) = false
refusing (Ack ioa nof nos afq) = false
refusing (Segment ioa nof nos los) = false
refusing (Directory ioa cause) = false
refusing (QueryLog ioa nof start stop) = false

unfoldable pub one_of : ℕ → ℕ → ℕ → Bool
one_of a b t = eqb t a or eqb t b

-- a call of the file: a section ready, or a file ready that refuses
unfoldable pub file_answered : ℕ → Bool → Bool
file_answered t refused = eqb t F_SR_NA_1 or (eqb t F_FR_NA_1 and refused)

-- a call of a section: a segment, a last segment, or a section ready that refuses
unfoldable pub section_answered : ℕ → Bool → Bool
section_answered t refused = one_of F_SG_NA_1 F_LS_NA_1 t or (eqb t F_SR_NA_1 and refused)

-- by the action of SCQ; one that is not listed matches every kind
unfoldable pub sc_answered : ℕ → ℕ → Bool → Bool
sc_answered action t refused =
    when (eqb action CALL_DIRECTORY) (eqb t F_DR_TA_1)
    (when (eqb action SELECT_FILE) (eqb t F_FR_NA_1)
    (when (eqb action REQUEST_FILE) (file_answered t refused)
    (when (eqb action SELECT_SECTION) (eqb t F_SR_NA_1)
    (when (eqb action REQUEST_SECTION) (section_answered t refused)
    true))))

-- by the action of AFQ: after a positive one of a section the next section or the last, after a negative one the section again; one that is not listed matches every kind
unfoldable pub ack_answered : ℕ → ℕ → Bool
ack_answered action t =
    when (eqb action SECTION_POSITIVE) (one_of F_SR_NA_1 F_LS_NA_1 t)
    (when (eqb action SECTION_NEGATIVE) (one_of F_SG_NA_1 F_LS_NA_1 t)
    true)

abbrev pub answers_type : Frame → Frame → Bool
answers_type (FileReady ioa nof lof frq) a = true
answers_type (SectionReady ioa nof nos lof srq) a = true
answers_type (Sc ioa nof nos scq) a = sc_answered scq.action (type_of a) (refusing a)
answers_type (LastSection ioa nof nos lsq chs) a = true
answers_type (Ack ioa nof nos afq) a = ack_answered afq.action (type_of a)
answers_type (Segment ioa nof nos los) a = true
answers_type (Directory ioa cause) a = true
answers_type (QueryLog ioa nof start stop) a = eqb (type_of a) F_FR_NA_1

-- ---- the match

unfoldable pub names_agree : Frame → Frame → Bool
names_agree sent a = nof_agree (nof_of sent) (nof_of a) and nos_agree (requested_section sent) (nos_of a)

unfoldable pub answers_to : Frame → Frame → Bool
answers_to sent a = eqb (ioa_of sent) (ioa_of a) and answers_type sent a and names_agree sent a
