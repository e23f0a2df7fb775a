-- A refusal by number leaves the Receiver's record and the store as they came in: one law for all of them.
use Prim.Native.Nat.{ℕ}
use mathlib.Core.Path.{◌≡◌, refl}
use mathlib.Core.Bool.{Bool, true, false}
use mathlib.Core.List.{List, []}
use Rattle.std.specs.Prelude.{Err, Ok, Option, Result}
use Rattle.laws.specs.When.{when}
use Rattle.laws.proofs.Choices as C
use Rattle.asdu.specs.declared.Nos.{Nos}
use Rattle.asdu.specs.declared.Lof.{Lof}
use Rattle.asdu.specs.declared.Frq.{Frq}
use Rattle.asdu.specs.declared.Srq.{Srq}
use Rattle.asdu.specs.declared.Lsq.{Lsq}
use Rattle.asdu.specs.declared.Chs.{Chs}
use Rattle.asdu.specs.declared.Header.{Header}
use Rattle.frame.specs.declared.Frame.{Frame}
use Rattle.frame.specs.declared.Frame.TheVariants as F
use Rattle.ft.specs.declared.Received.{Received}
use Rattle.ft.specs.declared.Received.TheVariants as D
use Rattle.ft.specs.declared.Reaction.{Reaction}
use Rattle.ft.specs.declared.Reaction.TheVariants as A
use Rattle.ft.specs.Admission.{on_answer}
use Rattle.acceptance.specs.Closed.{section_closed, file_closed}
use Rattle.acceptance.specs.declared.SectionClosed.{SectionClosed}
use Rattle.acceptance.specs.declared.SectionClosed.TheVariants as S
use Rattle.acceptance.specs.declared.FileClosed.{FileClosed}
use Rattle.acceptance.specs.declared.FileClosed.TheVariants as W
use Rattle.ft.specs.Building.{built}
use Rattle.receive.specs.declared.ReceiverAnswer.{ReceiverAnswer}
use Rattle.receive.specs.Record.{held_by, select, awaited, stepped, started_with, started}
use Rattle.receive.specs.Answers.{Outcome, leaving, on_file_ready, on_section_ready, after_section_close, on_section_close, after_file_close, on_file_close, on_close, on_segment, on_answered, on_received, receive_admitted, receive, is_refusal}
use Rattle.receive.specs.declared.Receiver.{Receiver}
use Rattle.receive.specs.declared.ReceiverStep.{ReceiverStep}
use Rattle.asdu.specs.declared.FtError.{FtError}
use Rattle.asdu.specs.declared.Unspecified.{Unspecified}
use Rattle.ft.specs.declared.Asdu.{Asdu}

module _ (r : Receiver) (store : List ℕ) where
  -- a step that keeps the record, if its answer is a refusal
  abbrev Keeps : ReceiverStep → Type 0
  Keeps = C.Keeps (λ (s : ReceiverStep). is_refusal s.answer) (λ (s : ReceiverStep). s.receiver ≡ r)

  either : (b : Bool) (x y : ReceiverStep) → Keeps x → Keeps y → Keeps (when b x y)
  either = C.either Keeps

  same : (a : ReceiverAnswer) → Keeps (stepped r a)
  same a = C.same _ _ (stepped r a) refl

  -- a step whose answer is none
  other : (s : ReceiverStep) → is_refusal s.answer ≡ false → Keeps s
  other = C.other _ _

  -- and the store
  abbrev KeepsAll : Outcome → Type 0
  KeepsAll = C.Keeps (λ (o : Outcome). is_refusal o.step.answer) (λ (o : Outcome). (o.step.receiver ≡ r) × (o.store ≡ store))

  either_all : (b : Bool) (x y : Outcome) → KeepsAll x → KeepsAll y → KeepsAll (when b x y)
  either_all = C.either KeepsAll

  same_all : (a : ReceiverAnswer) → KeepsAll (leaving store (stepped r a))
  same_all a = C.same _ _ (leaving store (stepped r a)) (refl, refl)

  other_all : (o : Outcome) → is_refusal o.step.answer ≡ false → KeepsAll o
  other_all = C.other _ _

  left : (s : ReceiverStep) → Keeps s → KeepsAll (leaving store s)
  left s h = record { keeps = λ e. (h.keeps e, refl) }

  file_ready_keeps : (lof : Lof) (frq : Frq) → Keeps (on_file_ready r lof frq)
  unfolding on_file_ready
  file_ready_keeps lof frq = either _ _ _ (other _ refl) (other _ refl)

  section_ready_keeps : (nos : Nos) (srq : Srq) → Keeps (on_section_ready r nos srq)
  unfolding on_section_ready
  section_ready_keeps nos srq = either _ _ _ (other _ refl) (other _ refl)

  section_closed_keeps : (nos : Nos) (x : SectionClosed) → Keeps (after_section_close r nos x)
  section_closed_keeps nos (S.Accepted h) = other _ refl
  section_closed_keeps nos (S.Dropped h) = other _ refl

  section_close_keeps : (nos : Nos) (chs : Chs) → Keeps (on_section_close r store nos chs)
  unfolding on_section_close
  section_close_keeps nos chs = section_closed_keeps nos (section_closed (held_by r) store chs)

  file_closed_keeps : (nos : Nos) (chs : Chs) (x : FileClosed) → Keeps (after_file_close r nos chs x)
  file_closed_keeps nos chs (W.Whole h) = other _ refl
  file_closed_keeps nos chs (W.Differs expected h) = other _ refl

  file_close_keeps : (nos : Nos) (chs : Chs) → Keeps (on_file_close r store nos chs)
  unfolding on_file_close
  file_close_keeps nos chs = file_closed_keeps nos chs (file_closed (held_by r) store chs)

  close_keeps : (nos : Nos) (lsq : Lsq) (chs : Chs) → Keeps (on_close r store nos lsq chs)
  unfolding on_close
  close_keeps nos lsq chs = either _ _ _ (section_close_keeps nos chs) (either _ _ _ (file_close_keeps nos chs) (other _ refl))

  segment_keeps : (payload : List ℕ) → KeepsAll (on_segment r store payload)
  unfolding on_segment
  segment_keeps payload = either_all _ _ _ (other_all _ refl) (same_all _)

  answered_keeps : (payload : List ℕ) (f : Frame) → KeepsAll (on_answered r store payload f)
  answered_keeps payload (F.FileReady ioa nof lof frq) = left _ (file_ready_keeps lof frq)
  answered_keeps payload (F.SectionReady ioa nof nos lof srq) = left _ (section_ready_keeps nos srq)
  answered_keeps payload (F.Sc ioa nof nos scq) = same_all _
  answered_keeps payload (F.LastSection ioa nof nos lsq chs) = left _ (close_keeps nos lsq chs)
  answered_keeps payload (F.Ack ioa nof nos afq) = same_all _
  answered_keeps payload (F.Segment ioa nof nos los) = segment_keeps payload
  answered_keeps payload (F.Directory ioa cause) = same_all _
  answered_keeps payload (F.QueryLog ioa nof start stop) = same_all _

  received_keeps : (payload : List ℕ) (x : Received) → KeepsAll (on_received r store payload x)
  received_keeps payload (D.Frame f) = answered_keeps payload f
  received_keeps payload D.Undecodable = same_all _

  admitted_keeps : (payload : List ℕ) (received : Received) (a : Result Reaction FtError) → KeepsAll (receive_admitted r store payload received a)
  admitted_keeps payload received (Ok A.Requested) = same_all _
  admitted_keeps payload received (Ok A.Answered) = received_keeps payload received
  admitted_keeps payload received (Ok (A.Refused cause mirror)) = other_all _ refl
  admitted_keeps payload received (Ok (A.Discard why)) = same_all _
  admitted_keeps payload received (Ok A.Other) = same_all _
  admitted_keeps payload received (Err x) = same_all _

  receive_keeps : (h : Header) (unknown : Option Unspecified) (received : Received) (beside : List ℕ)
      → KeepsAll (receive r store h unknown received beside)
  unfolding receive
  receive_keeps h unknown received beside =
      either_all _ _ _ (either_all _ _ _ (same_all _) (admitted_keeps beside received (on_answer r.procedure h unknown received beside (awaited r)))) (same_all _)

  pub refusal_keeps : (h : Header) (unknown : Option Unspecified) (received : Received) (beside : List ℕ)
      → is_refusal (receive r store h unknown received beside).step.answer ≡ true
      → ((receive r store h unknown received beside).step.receiver ≡ r) × ((receive r store h unknown received beside).store ≡ store)
  refusal_keeps h unknown received beside = (receive_keeps h unknown received beside).keeps

  start_with : (a : Result Asdu FtError) → Keeps (started_with r a)
  start_with (Ok a) = other _ refl
  start_with (Err x) = same _

  started_keeps : Keeps (started r store)
  unfolding started
  started_keeps = either _ _ _ (start_with (built r.procedure (select r) [])) (same _)

  -- the start likewise
  pub start_refusal_keeps : is_refusal (started r store).answer ≡ true → (started r store).receiver ≡ r
  start_refusal_keeps = started_keeps.keeps
