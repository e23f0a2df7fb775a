-- A frame's side by its kind is the side of its type, which is all that a header tells; and every frame's type is one of the file transfer's.
use mathlib.Core.Path.{◌≡◌, refl}
use mathlib.Core.Bool.{true}
use Rattle.laws.specs.When.{when}
use Rattle.frame.specs.Frames.{type_of, receiver_side, is_file_type, receiver_side_type}
use Rattle.frame.specs.declared.Frame.{Frame}
use Rattle.frame.specs.declared.Frame.TheVariants.{FileReady, SectionReady, Sc, LastSection, Ack, Segment, Directory, QueryLog}

pub side_of_type : (f : Frame) → receiver_side_type (type_of f) ≡ receiver_side f
unfolding receiver_side_type when
side_of_type (FileReady ioa nof lof frq) = refl
side_of_type (SectionReady ioa nof nos lof srq) = refl
side_of_type (Sc ioa nof nos scq) = refl
side_of_type (LastSection ioa nof nos lsq chs) = refl
side_of_type (Ack ioa nof nos afq) = refl
side_of_type (Segment ioa nof nos los) = refl
side_of_type (Directory ioa cause) = refl
side_of_type (QueryLog ioa nof start stop) = refl

pub file_type : (f : Frame) → is_file_type (type_of f) ≡ true
unfolding is_file_type when
file_type (FileReady ioa nof lof frq) = refl
file_type (SectionReady ioa nof nos lof srq) = refl
file_type (Sc ioa nof nos scq) = refl
file_type (LastSection ioa nof nos lsq chs) = refl
file_type (Ack ioa nof nos afq) = refl
file_type (Segment ioa nof nos los) = refl
file_type (Directory ioa cause) = refl
file_type (QueryLog ioa nof start stop) = refl
