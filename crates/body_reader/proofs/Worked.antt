-- The bodies of frame_body/proofs/Worked.antt, read; and what is refused: another type, a length one less and one more, LOS 0 and 241, a LOS unlike the octets that follow. readings.txt begins with the same.
use Rattle.std.specs.Prelude.{Ok, Err}
use mathlib.Core.Bool.{true}
use mathlib.Core.Path.{◌≡◌, refl}
use mathlib.Core.List.{[], ◌∷◌}
use lib.ListN.{replicate}
use Rattle.laws.specs.When.{when}
use Rattle.asdu.specs.Elements.{los_in_range}
use Rattle.asdu.specs.Entry.{bit_of}
use Rattle.asdu.specs.declared.Nof.{Nof}
use Rattle.asdu.specs.declared.Nos.{Nos}
use Rattle.asdu.specs.declared.Lof.{Lof}
use Rattle.asdu.specs.declared.FtError.TheVariants.{UnsupportedType, MalformedBody}
use Rattle.sections.specs.Sections.{no_part, part_octets}
use Rattle.frame.specs.declared.Frame.TheVariants.{FileReady, SectionReady, Sc, LastSection, Ack, Segment}
use Rattle.frame_body.specs.Body.{body_type}
use Rattle.body_reader.specs.Reading.{elements_len, segment_formed, well_formed, frame_of, payload_in, reading, read_answer}

abbrev file : Nof
file = record { value = 258 }

abbrev section : Nos
section = record { value = 4 }

abbrev size : Lof
size = record { value = 66051 }

pub worked_file_ready : read_answer 120 100 (2 ∷ 1 ∷ 3 ∷ 2 ∷ 1 ∷ 133 ∷ []) ≡ Ok (reading (FileReady 100 file size (record { value = 5; negative_confirm = true })) no_part)
unfolding read_answer body_type well_formed elements_len frame_of payload_in bit_of when
worked_file_ready = refl

pub worked_section_ready : read_answer 121 100 (2 ∷ 1 ∷ 4 ∷ 3 ∷ 2 ∷ 1 ∷ 133 ∷ []) ≡ Ok (reading (SectionReady 100 file section size (record { value = 5; not_ready = true })) no_part)
unfolding read_answer body_type well_formed elements_len frame_of payload_in bit_of when
worked_section_ready = refl

pub worked_sc : read_answer 122 100 (2 ∷ 1 ∷ 4 ∷ 82 ∷ []) ≡ Ok (reading (Sc 100 file section (record { action = 2; error = 5 })) no_part)
unfolding read_answer body_type well_formed elements_len frame_of payload_in when
worked_sc = refl

pub worked_last_section : read_answer 123 100 (2 ∷ 1 ∷ 4 ∷ 3 ∷ 44 ∷ []) ≡ Ok (reading (LastSection 100 file section (record { value = 3 }) (record { value = 44 })) no_part)
unfolding read_answer body_type well_formed elements_len frame_of payload_in when
worked_last_section = refl

pub worked_ack : read_answer 124 100 (2 ∷ 1 ∷ 4 ∷ 36 ∷ []) ≡ Ok (reading (Ack 100 file section (record { action = 4; error = 2 })) no_part)
unfolding read_answer body_type well_formed elements_len frame_of payload_in when
worked_ack = refl

pub worked_segment : (read_answer 125 100 (2 ∷ 1 ∷ 4 ∷ 2 ∷ 200 ∷ 100 ∷ []) ≡ Ok (reading (Segment 100 file section (record { value = 2 })) (record { start = 4; length = 2 })))
    × (part_octets (record { start = 4; length = 2 }) (2 ∷ 1 ∷ 4 ∷ 2 ∷ 200 ∷ 100 ∷ []) ≡ 200 ∷ 100 ∷ [])
unfolding read_answer body_type well_formed segment_formed los_in_range frame_of payload_in part_octets when
worked_segment = (refl, refl)

pub worked_types : (read_answer 119 100 (2 ∷ 1 ∷ 4 ∷ 82 ∷ []) ≡ Err UnsupportedType) × (read_answer 126 100 [] ≡ Err UnsupportedType)
unfolding read_answer body_type when
worked_types = (refl, refl)

pub worked_lengths : (read_answer 122 100 (2 ∷ 1 ∷ 4 ∷ []) ≡ Err MalformedBody) × (read_answer 122 100 (2 ∷ 1 ∷ 4 ∷ 82 ∷ 0 ∷ []) ≡ Err MalformedBody)
unfolding read_answer body_type well_formed elements_len when
worked_lengths = (refl, refl)

pub worked_los : (read_answer 125 100 (2 ∷ 1 ∷ 4 ∷ 0 ∷ []) ≡ Err MalformedBody)
    × (read_answer 125 100 (2 ∷ 1 ∷ 4 ∷ 241 ∷ replicate 241 7) ≡ Err MalformedBody)
    × (read_answer 125 100 (2 ∷ 1 ∷ 4 ∷ 2 ∷ 200 ∷ []) ≡ Err MalformedBody)
unfolding read_answer body_type well_formed segment_formed los_in_range when
worked_los = (refl, refl, refl)
