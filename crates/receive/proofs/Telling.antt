-- A step by what the received frame tells is the step by the frame.
use Prim.Native.Nat.{ℕ}
use mathlib.Core.Path.{◌≡◌, refl}
use mathlib.Core.List.{List}
use Rattle.std.specs.Prelude.{Err, Ok, Result}
use Rattle.frame.specs.declared.Frame.{Frame}
use Rattle.frame.specs.declared.Frame.TheVariants as F
use Rattle.ft.specs.declared.Received.{Received}
use Rattle.ft.specs.declared.Received.TheVariants as D
use Rattle.ft.specs.declared.Reaction.{Reaction}
use Rattle.ft.specs.declared.Reaction.TheVariants as A
use Rattle.receive.specs.Answers.{on_answered, on_received, receive_admitted}
use Rattle.receive.specs.Told.{told_by_frame, told_by, told_of, on_told}
use Rattle.receive.specs.declared.Receiver.{Receiver}
use Rattle.asdu.specs.declared.FtError.{FtError}

module _ (r : Receiver) (store payload : List ℕ) where
  frame_told : (f : Frame) → on_answered r store payload f ≡ on_told r store payload (told_by_frame f)
  frame_told (F.FileReady ioa nof lof frq) = refl
  frame_told (F.SectionReady ioa nof nos lof srq) = refl
  frame_told (F.Sc ioa nof nos scq) = refl
  frame_told (F.LastSection ioa nof nos lsq chs) = refl
  frame_told (F.Ack ioa nof nos afq) = refl
  frame_told (F.Segment ioa nof nos los) = refl
  frame_told (F.Directory ioa cause) = refl
  frame_told (F.QueryLog ioa nof start stop) = refl

  received_told : (x : Received) → on_received r store payload x ≡ on_told r store payload (told_by x)
  received_told (D.Frame f) = frame_told f
  received_told D.Undecodable = refl

  pub told_is : (x : Received) (a : Result Reaction FtError) → receive_admitted r store payload x a ≡ on_told r store payload (told_of x a)
  told_is x (Ok A.Requested) = refl
  told_is x (Ok A.Answered) = received_told x
  told_is x (Ok (A.Refused cause mirror)) = refl
  told_is x (Ok (A.Discard why)) = refl
  told_is x (Ok A.Other) = refl
  told_is x (Err e) = refl
