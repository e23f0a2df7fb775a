-- What a frame says of itself: type identification, cause of transmission, side, object address, names (IEC 60870-5-101, 7.3.6; document 01, Elements and frames).
use Rattle.std.specs.Prelude.{ℕ, ◌-◌, ◌/◌, Bool, true, false, List, eqb, leb, length}
use Rattle.laws.specs.When.{when, ◌and◌, ◌or◌}
use Rattle.asdu.specs.Codes.{F_FR_NA_1, F_SR_NA_1, F_SC_NA_1, F_LS_NA_1, F_AF_NA_1, F_SG_NA_1, F_DR_TA_1, F_SC_NB_1, CALL_DIRECTORY}
use Rattle.asdu.specs.Entry.{entry_address}
use Rattle.asdu.specs.declared.Scq.{Scq}
use Rattle.asdu.specs.declared.Cause.{Cause}
use Rattle.frame.specs.declared.Frame.{Frame}
use Rattle.frame.specs.declared.Frame.TheVariants.{FileReady, SectionReady, Sc, LastSection, Ack, Segment, Directory, QueryLog}

abbrev pub type_of : Frame → ℕ
type_of (FileReady ioa nof lof frq) = F_FR_NA_1
type_of (SectionReady ioa nof nos lof srq) = F_SR_NA_1
type_of (Sc ioa nof nos scq) = F_SC_NA_1
type_of (LastSection ioa nof nos lsq chs) = F_LS_NA_1
type_of (Ack ioa nof nos afq) = F_AF_NA_1
type_of (Segment ioa nof nos los) = F_SG_NA_1
type_of (Directory ioa cause) = F_DR_TA_1
type_of (QueryLog ioa nof start stop) = F_SC_NB_1

-- the call of a directory goes as a request, <5>; every other call, selection or deactivation as file transfer, <13>
unfoldable pub sc_cause : Scq → Cause
sc_cause q = when (eqb q.action CALL_DIRECTORY) (record { value = 5 }) (record { value = 13 })

abbrev pub cause_of : Frame → Cause
cause_of (FileReady ioa nof lof frq) = record { value = 13 }
cause_of (SectionReady ioa nof nos lof srq) = record { value = 13 }
cause_of (Sc ioa nof nos scq) = sc_cause scq
cause_of (LastSection ioa nof nos lsq chs) = record { value = 13 }
cause_of (Ack ioa nof nos afq) = record { value = 13 }
cause_of (Segment ioa nof nos los) = record { value = 13 }
cause_of (Directory ioa cause) = cause
cause_of (QueryLog ioa nof start stop) = record { value = 13 }

-- the requests, the acknowledgements and the query of a log come from the side that receives the file
abbrev pub receiver_side : Frame → Bool
receiver_side (FileReady ioa nof lof frq) = false
receiver_side (SectionReady ioa nof nos lof srq) = false
receiver_side (Sc ioa nof nos scq) = true
receiver_side (LastSection ioa nof nos lsq chs) = false
receiver_side (Ack ioa nof nos afq) = true
receiver_side (Segment ioa nof nos los) = false
receiver_side (Directory ioa cause) = false
receiver_side (QueryLog ioa nof start stop) = true

abbrev pub ioa_of : Frame → ℕ
ioa_of (FileReady ioa nof lof frq) = ioa
ioa_of (SectionReady ioa nof nos lof srq) = ioa
ioa_of (Sc ioa nof nos scq) = ioa
ioa_of (LastSection ioa nof nos lsq chs) = ioa
ioa_of (Ack ioa nof nos afq) = ioa
ioa_of (Segment ioa nof nos los) = ioa
ioa_of (Directory ioa cause) = ioa
ioa_of (QueryLog ioa nof start stop) = ioa

-- the last of a frame's object addresses: a directory page's entries, of 13 octets each, rise from its own
abbrev pub last_ioa : Frame → List ℕ → ℕ
last_ioa (FileReady ioa nof lof frq) beside = ioa
last_ioa (SectionReady ioa nof nos lof srq) beside = ioa
last_ioa (Sc ioa nof nos scq) beside = ioa
last_ioa (LastSection ioa nof nos lsq chs) beside = ioa
last_ioa (Ack ioa nof nos afq) beside = ioa
last_ioa (Segment ioa nof nos los) beside = ioa
last_ioa (Directory ioa cause) entries = entry_address ioa (length entries / 13 - 1)
last_ioa (QueryLog ioa nof start stop) beside = ioa

-- the file transfer's types
unfoldable pub is_file_type : ℕ → Bool
is_file_type t = leb F_FR_NA_1 t and leb t F_SC_NB_1

-- those of the receiving side's frames
unfoldable pub receiver_side_type : ℕ → Bool
receiver_side_type t = eqb t F_SC_NA_1 or eqb t F_AF_NA_1 or eqb t F_SC_NB_1
