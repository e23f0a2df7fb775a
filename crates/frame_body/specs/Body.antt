-- The body of a frame: the octets behind its object address, element by element as IEC 60870-5-101, 7.3.6.1 to 7.3.6.6, figures 83 to 88, lay them out; and what writing it answers and leaves in the buffer (document 02, A8).
use Rattle.std.specs.Prelude.{ℕ, Bool, true, false, List, [], ◌∷◌, ◌++◌, eqb, leb, length, Result, Ok, Err}
use Rattle.laws.specs.When.{when, unless, ◌and◌}
use Rattle.store.specs.Store.{written}
use Rattle.asdu.specs.Codes.{F_FR_NA_1, F_SG_NA_1}
use Rattle.asdu.specs.Elements.{frq_in_range, srq_in_range, scq_in_range, afq_in_range, lof_in_range, los_in_range}
use Rattle.asdu.specs.Entry.{nof_octets, lof_octets}
use Rattle.asdu.specs.declared.FtError.TheVariants.{ValueOutOfRange, UnsupportedType, BufferTooShort}
use Rattle.frame.specs.Frames.{type_of}
use Rattle.frame.specs.declared.Frame.{Frame}
use Rattle.frame.specs.declared.Frame.TheVariants.{FileReady, SectionReady, Sc, LastSection, Ack, Segment, Directory, QueryLog}
use Rattle.frame_body.specs.Elements.{frq_octet, srq_octet, scq_octet, afq_octet}
use Rattle.asdu.specs.declared.FtError.{FtError}

-- the types that have a body here: 120 to 125
unfoldable pub body_type : ℕ → Bool
body_type t = leb F_FR_NA_1 t and leb t F_SG_NA_1

-- NOF 2 octets, NOS 1, LOF 3, LOS, CHS and each qualifier 1; behind a segment's LOS its payload, which beside another kind is not read. Types 126 and 127 have no body here
abbrev pub body_of : Frame → List ℕ → List ℕ
body_of (FileReady ioa nof lof frq) payload = nof_octets nof ++ lof_octets lof ++ frq_octet frq ∷ []
body_of (SectionReady ioa nof nos lof srq) payload = nof_octets nof ++ nos.value ∷ lof_octets lof ++ srq_octet srq ∷ []
body_of (Sc ioa nof nos scq) payload = nof_octets nof ++ nos.value ∷ scq_octet scq ∷ []
body_of (LastSection ioa nof nos lsq chs) payload = nof_octets nof ++ nos.value ∷ lsq.value ∷ chs.value ∷ []
body_of (Ack ioa nof nos afq) payload = nof_octets nof ++ nos.value ∷ afq_octet afq ∷ []
body_of (Segment ioa nof nos los) payload = nof_octets nof ++ nos.value ∷ los.value ∷ payload
body_of (Directory ioa cause) payload = []
body_of (QueryLog ioa nof start stop) payload = []

-- every element within its range, LOS 1 to 240 and the payload's length: else 4. Of a frame without a body nothing is
abbrev pub body_in_range : Frame → List ℕ → Bool
body_in_range (FileReady ioa nof lof frq) payload = lof_in_range lof and frq_in_range frq
body_in_range (SectionReady ioa nof nos lof srq) payload = lof_in_range lof and srq_in_range srq
body_in_range (Sc ioa nof nos scq) payload = scq_in_range scq
body_in_range (LastSection ioa nof nos lsq chs) payload = true
body_in_range (Ack ioa nof nos afq) payload = afq_in_range afq
body_in_range (Segment ioa nof nos los) payload = los_in_range los and eqb los.value (length payload)
body_in_range (Directory ioa cause) payload = false
body_in_range (QueryLog ioa nof start stop) payload = false

-- a buffer of this length has room for it: else 30
unfoldable pub body_fits : Frame → List ℕ → ℕ → Bool
body_fits f payload len = leb (length (body_of f payload)) len

-- 29 is tested first, then 4, then 30; where nothing is refused, how many octets are written
unfoldable pub write_answer : Frame → List ℕ → ℕ → Result ℕ FtError
write_answer f payload len =
    unless (body_type (type_of f)) (Err UnsupportedType)
    (unless (body_in_range f payload) (Err ValueOutOfRange)
    (unless (body_fits f payload len) (Err BufferTooShort)
    (Ok (length (body_of f payload)))))

-- the buffer afterwards: the body over its front; a refusal leaves it as it came in
unfoldable pub out_after : Frame → List ℕ → List ℕ → List ℕ
out_after f payload out =
    when (body_type (type_of f) and body_in_range f payload and body_fits f payload (length out)) (written out 0 (body_of f payload)) out
