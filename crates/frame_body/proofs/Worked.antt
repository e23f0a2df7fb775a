-- A body of each type, written out: file 258, section 4, 66,051 octets, FRQ and SRQ 5 with their flag, SCQ 2 with error 5, LSQ 3, the sum 44, AFQ 4 with error 2, a segment of 200 and 100. bodies.txt begins with the same.
use mathlib.Core.Bool.{true}
use mathlib.Core.Path.{◌≡◌, refl}
use mathlib.Core.List.{[], ◌∷◌}
use Rattle.laws.specs.When.{when}
use Rattle.asdu.specs.Entry.{flag}
use Rattle.asdu.specs.declared.Nof.{Nof}
use Rattle.asdu.specs.declared.Nos.{Nos}
use Rattle.asdu.specs.declared.Lof.{Lof}
use Rattle.frame.specs.declared.Frame.TheVariants.{FileReady, SectionReady, Sc, LastSection, Ack, Segment}
use Rattle.frame_body.specs.Body.{body_of}

abbrev file : Nof
file = record { value = 258 }

abbrev section : Nos
section = record { value = 4 }

abbrev size : Lof
size = record { value = 66051 }

pub worked_file_ready : body_of (FileReady 100 file size (record { value = 5; negative_confirm = true })) [] ≡ 2 ∷ 1 ∷ 3 ∷ 2 ∷ 1 ∷ 133 ∷ []
unfolding flag when
worked_file_ready = refl

pub worked_section_ready : body_of (SectionReady 100 file section size (record { value = 5; not_ready = true })) [] ≡ 2 ∷ 1 ∷ 4 ∷ 3 ∷ 2 ∷ 1 ∷ 133 ∷ []
unfolding flag when
worked_section_ready = refl

pub worked_sc : body_of (Sc 100 file section (record { action = 2; error = 5 })) [] ≡ 2 ∷ 1 ∷ 4 ∷ 82 ∷ []
worked_sc = refl

pub worked_last_section : body_of (LastSection 100 file section (record { value = 3 }) (record { value = 44 })) [] ≡ 2 ∷ 1 ∷ 4 ∷ 3 ∷ 44 ∷ []
worked_last_section = refl

pub worked_ack : body_of (Ack 100 file section (record { action = 4; error = 2 })) [] ≡ 2 ∷ 1 ∷ 4 ∷ 36 ∷ []
worked_ack = refl

pub worked_segment : body_of (Segment 100 file section (record { value = 2 })) (200 ∷ 100 ∷ []) ≡ 2 ∷ 1 ∷ 4 ∷ 2 ∷ 200 ∷ 100 ∷ []
worked_segment = refl
