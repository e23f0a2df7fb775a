-- The frames that a Provider sends: a reply as the list of them, and as a count with a frame for each index below it (document 01, The Provider's record).
use Rattle.std.specs.Prelude.{ℕ, ◌+◌, ◌-◌, false, List, [], ◌∷◌, ◌++◌, map, eqb, ltb, length, Result, Ok, Err}
use Rattle.laws.specs.When.{when, unless}
use Rattle.lists.specs.Parts.{div_ceil}
use Rattle.asdu.specs.Sizes.{segment_limit}
use Rattle.asdu.specs.declared.Nos.{Nos}
use Rattle.asdu.specs.declared.FtError.TheVariants as E
use Rattle.frame.specs.declared.Frame.{Frame}
use Rattle.frame.specs.declared.Frame.TheVariants as F
use Rattle.checksum.specs.Checksum.{checksum}
use Rattle.ft.specs.Building.{built}
use Rattle.sections.specs.Sections.{section_octets, segments, segment_octets, segment_start, no_part, part_octets}
use Rattle.provide.specs.Record.{file_agrees}
use Rattle.provide.specs.declared.Provider.{Provider}
use Rattle.requests.specs.declared.Reply.{Reply}
use Rattle.requests.specs.declared.Reply.TheVariants.{Nothing, FileReady, SectionReady, Section, FileClose}
use Rattle.asdu.specs.declared.FtError.{FtError}
use Rattle.ft.specs.declared.Asdu.{Asdu}
use Rattle.sections.specs.declared.Part.{Part}

-- ---- the frames

abbrev pub file_ready : Provider → Frame
file_ready p = F.FileReady p.ioa p.nof (record { value = p.length }) (record { value = 0; negative_confirm = false })

-- section `nos` of the lent file
abbrev pub octets_of : Provider → List ℕ → Nos → List ℕ
octets_of p file nos = section_octets p.section_len file nos.value

abbrev pub section_ready : Provider → List ℕ → Nos → Frame
section_ready p file nos =
    F.SectionReady p.ioa p.nof nos (record { value = length (octets_of p file nos) }) (record { value = 0; not_ready = false })

abbrev pub segment_frame : Provider → Nos → List ℕ → Frame
segment_frame p nos o = F.Segment p.ioa p.nof nos (record { value = length o })

-- the last segment of a section (LSQ 3) or the last section of the file (LSQ 1), with the sum of the octets
abbrev pub close_frame : Provider → Nos → ℕ → List ℕ → Frame
close_frame p nos lsq o = F.LastSection p.ioa p.nof nos (record { value = lsq }) (record { value = checksum o })

-- what a segment of this station can hold
abbrev pub limit_of : Provider → ℕ
limit_of p = segment_limit p.procedure.sizes

-- ---- as a list

-- a frame and, of a segment, its payload
pub record Packet : Type 0 where
  pub frame : Frame
  pub payload : List ℕ

abbrev pub bare : Frame → Packet
bare f = record { frame = f; payload = [] }

abbrev pub segment_packet : Provider → Nos → List ℕ → Packet
segment_packet p nos o = record { frame = segment_frame p nos o; payload = o }

abbrev pub replies : Provider → List ℕ → Reply → List Packet
replies p file Nothing = []
replies p file FileReady = bare (file_ready p) ∷ []
replies p file (SectionReady nos) = bare (section_ready p file nos) ∷ []
replies p file (Section nos) =
    map (segment_packet p nos) (segments (limit_of p) (octets_of p file nos)) ++ (bare (close_frame p nos 3 (octets_of p file nos)) ∷ [])
replies p file (FileClose nos) = bare (close_frame p nos 1 file) ∷ []

-- ---- by index

-- how many segments section `nos` has
unfoldable pub segment_count : Provider → List ℕ → Nos → ℕ
segment_count p file nos = div_ceil (length (octets_of p file nos)) (limit_of p)

abbrev pub count_of : Provider → List ℕ → Reply → ℕ
count_of p file Nothing = 0
count_of p file FileReady = 1
count_of p file (SectionReady nos) = 1
count_of p file (Section nos) = segment_count p file nos + 1
count_of p file (FileClose nos) = 1

-- 26 first
unfoldable pub reply_count : Provider → List ℕ → Reply → Result ℕ FtError
reply_count p file r = unless (file_agrees p file) (Err E.RecordMismatch) (Ok (count_of p file r))

-- the one frame of a reply
unfoldable pub only : Frame → ℕ → Result Frame FtError
only f i = when (eqb i 0) (Ok f) (Err E.IndexOutOfRange)

-- the octets of segment i
abbrev pub segment_of : Provider → List ℕ → Nos → ℕ → List ℕ
segment_of p file nos i = segment_octets (limit_of p) (octets_of p file nos) i

-- a section's segments, then its close
unfoldable pub section_frame : Provider → List ℕ → Nos → ℕ → Result Frame FtError
section_frame p file nos i =
    when (ltb i (segment_count p file nos)) (Ok (segment_frame p nos (segment_of p file nos i)))
    (when (eqb i (segment_count p file nos)) (Ok (close_frame p nos 3 (octets_of p file nos)))
    (Err E.IndexOutOfRange))

abbrev pub frame_at : Provider → List ℕ → Reply → ℕ → Result Frame FtError
frame_at p file Nothing i = Err E.IndexOutOfRange
frame_at p file FileReady i = only (file_ready p) i
frame_at p file (SectionReady nos) i = only (section_ready p file nos) i
frame_at p file (Section nos) i = section_frame p file nos i
frame_at p file (FileClose nos) i = only (close_frame p nos 1 file) i

-- 26 first; an index not below the count is 9
unfoldable pub reply_frame : Provider → List ℕ → Reply → ℕ → Result Frame FtError
reply_frame p file r i = unless (file_agrees p file) (Err E.RecordMismatch) (frame_at p file r i)

-- ---- what stands beside a frame, by where it begins in the file and how long it is

-- beside the one frame of a reply nothing does
unfoldable pub only_part : ℕ → Result Part FtError
only_part i = when (eqb i 0) (Ok no_part) (Err E.IndexOutOfRange)

-- segment i of section `nos`; then its close
unfoldable pub section_part : Provider → List ℕ → Nos → ℕ → Result Part FtError
section_part p file nos i =
    when (ltb i (segment_count p file nos))
    (Ok (record { start = segment_start p.section_len (limit_of p) nos.value i; length = length (segment_of p file nos i) }))
    (only_part (i - segment_count p file nos))

abbrev pub part_at : Provider → List ℕ → Reply → ℕ → Result Part FtError
part_at p file Nothing i = Err E.IndexOutOfRange
part_at p file FileReady i = only_part i
part_at p file (SectionReady nos) i = only_part i
part_at p file (Section nos) i = section_part p file nos i
part_at p file (FileClose nos) i = only_part i

-- 26 first; an index not below the count is 9
unfoldable pub reply_payload : Provider → List ℕ → Reply → ℕ → Result Part FtError
reply_payload p file r i = unless (file_agrees p file) (Err E.RecordMismatch) (part_at p file r i)

abbrev pub payload_of : List ℕ → Result Part FtError → List ℕ
payload_of file (Ok q) = part_octets q file
payload_of file (Err e) = []

-- ---- the offer without a select

abbrev pub frame_of : Result Asdu FtError → Result Frame FtError
frame_of (Ok a) = Ok a.frame
frame_of (Err e) = Err e

-- 26, then what `build` refuses; a done record announces too
unfoldable pub announced : Provider → List ℕ → Result Frame FtError
announced p file = unless (file_agrees p file) (Err E.RecordMismatch) (frame_of (built p.procedure (file_ready p) []))
