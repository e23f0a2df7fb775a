-- What reading a frame's body answers (document 02, A9): the frame of a type and an object address whose elements these octets are, laid out as IEC 60870-5-101, 7.3.6.1 to 7.3.6.6, figures 83 to 88, have them.
use Rattle.std.specs.Prelude.{ℕ, ◌+◌, Bool, List, [], eqb, leb, length, get_or, Result, Ok, Err}
use Rattle.laws.specs.When.{when, unless, ◌and◌}
use Rattle.asdu.specs.Codes.{F_FR_NA_1, F_SR_NA_1, F_SC_NA_1, F_LS_NA_1, F_AF_NA_1, F_SG_NA_1}
use Rattle.asdu.specs.Elements.{los_in_range}
use Rattle.asdu.specs.Entry.{nof_at, lof_at}
use Rattle.asdu.specs.declared.FtError.TheVariants.{UnsupportedType, MalformedBody}
use Rattle.asdu.specs.declared.Nos.{Nos}
use Rattle.asdu.specs.declared.Lsq.{Lsq}
use Rattle.asdu.specs.declared.Chs.{Chs}
use Rattle.asdu.specs.declared.Los.{Los}
use Rattle.sections.specs.Sections.{no_part}
use Rattle.sections.specs.declared.Part.{Part}
use Rattle.frame.specs.Frames.{type_of}
use Rattle.frame.specs.declared.Frame.{Frame}
use Rattle.frame.specs.declared.Frame.TheVariants.{FileReady, SectionReady, Sc, LastSection, Ack, Segment}
use Rattle.frame_body.specs.Body.{body_type}
use Rattle.body_reader.specs.Elements.{frq_of, srq_of, scq_of, afq_of}
use Rattle.body_reader.specs.declared.Body.{Body}
use Rattle.asdu.specs.declared.FtError.{FtError}

-- ---- elements by their places, counted from 0

-- NOS behind NOF; behind both LSQ and CHS of a close, and LOS of a segment
abbrev pub nos_of : List ℕ → Nos
nos_of o = record { value = get_or o 2 0 }

abbrev pub lsq_of : List ℕ → Lsq
lsq_of o = record { value = get_or o 3 0 }

abbrev pub chs_of : List ℕ → Chs
chs_of o = record { value = get_or o 4 0 }

abbrev pub los_of : List ℕ → Los
los_of o = record { value = get_or o 3 0 }

-- ---- a body of each type

-- how many octets the elements have; of a segment, those in front of its payload
unfoldable pub elements_len : ℕ → ℕ
elements_len t = when (eqb t F_FR_NA_1) 6 (when (eqb t F_SR_NA_1) 7 (when (eqb t F_LS_NA_1) 5 4))

-- a segment has a LOS, which is 1 to 240, and as many octets follow it
unfoldable pub segment_formed : List ℕ → Bool
segment_formed o = leb 4 (length o) and los_in_range (los_of o) and eqb (length o) (4 + (los_of o).value)

-- nothing follows the elements of another type
unfoldable pub well_formed : ℕ → List ℕ → Bool
well_formed t o = when (eqb t F_SG_NA_1) (segment_formed o) (eqb (length o) (elements_len t))

-- 120: NOF, LOF, FRQ. 121: NOF, NOS, LOF, SRQ. 122: NOF, NOS, SCQ. 123: NOF, NOS, LSQ, CHS. 124: NOF, NOS, AFQ. 125: NOF, NOS, LOS
unfoldable pub frame_of : ℕ → ℕ → List ℕ → Frame
frame_of t ioa o =
    when (eqb t F_FR_NA_1) (FileReady ioa (nof_at o 0) (lof_at o 2) (frq_of (get_or o 5 0)))
    (when (eqb t F_SR_NA_1) (SectionReady ioa (nof_at o 0) (nos_of o) (lof_at o 3) (srq_of (get_or o 6 0)))
    (when (eqb t F_SC_NA_1) (Sc ioa (nof_at o 0) (nos_of o) (scq_of (get_or o 3 0)))
    (when (eqb t F_LS_NA_1) (LastSection ioa (nof_at o 0) (nos_of o) (lsq_of o) (chs_of o))
    (when (eqb t F_AF_NA_1) (Ack ioa (nof_at o 0) (nos_of o) (afq_of (get_or o 3 0)))
    (Segment ioa (nof_at o 0) (nos_of o) (los_of o))))))

-- the part of the body that is the payload: a segment's LOS octets behind LOS; of another type none
unfoldable pub payload_in : ℕ → List ℕ → Part
payload_in t o = when (eqb t F_SG_NA_1) (record { start = 4; length = (los_of o).value }) no_part

-- a frame, and the part of the body that is its payload
abbrev pub reading : Frame → Part → Body
reading f q = record { frame = f; payload = q }

-- 29 is tested first, then 31; nothing else can be wrong
unfoldable pub read_answer : ℕ → ℕ → List ℕ → Result Body FtError
read_answer t ioa o =
    unless (body_type t) (Err UnsupportedType)
    (unless (well_formed t o) (Err MalformedBody)
    (Ok (reading (frame_of t ioa o) (payload_in t o))))

-- ---- beside the writing

-- what the body of a frame carries behind its elements: a segment's payload; of another type nothing
unfoldable pub carried : Frame → List ℕ → List ℕ
carried f payload = when (eqb (type_of f) F_SG_NA_1) payload []
