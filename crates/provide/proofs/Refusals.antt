-- A refusal by number leaves the Provider's record as it came in: one law for all of them.
use Prim.Native.Nat.{ℕ}
use mathlib.Core.Path.{◌≡◌, refl}
use mathlib.Core.Bool.{Bool, true, false}
use mathlib.Core.List.{List}
use Rattle.std.specs.Prelude.{Option, Result, Ok, Err}
use Rattle.laws.specs.When.{when}
use Rattle.laws.proofs.Choices as C
use Rattle.asdu.specs.declared.Nos.{Nos}
use Rattle.asdu.specs.declared.Scq.{Scq}
use Rattle.asdu.specs.declared.Afq.{Afq}
use Rattle.asdu.specs.declared.Header.{Header}
use Rattle.frame.specs.declared.Frame.{Frame}
use Rattle.frame.specs.declared.Frame.TheVariants as F
use Rattle.ft.specs.Admission.{on_asdu}
use Rattle.ft.specs.declared.Received.{Received}
use Rattle.ft.specs.declared.Received.TheVariants as D
use Rattle.ft.specs.declared.Reaction.{Reaction}
use Rattle.ft.specs.declared.Reaction.TheVariants as A
use Rattle.requests.specs.declared.ProviderAnswer.{ProviderAnswer}
use Rattle.requests.specs.declared.ProviderAnswer.TheVariants.{Running, Complete, Deactivated, FileRejected, Refused, Err}
use Rattle.provide.specs.Requests.{stepped, answered_with, on_sc, on_ack, on_ours, on_request, on_requested, provide_admitted, provide, is_refusal}
use Rattle.provide.specs.declared.Provider.{Provider}
use Rattle.provide.specs.declared.ProviderStep.{ProviderStep}
use Rattle.asdu.specs.declared.Unspecified.{Unspecified}
use Rattle.asdu.specs.declared.FtError.{FtError}

module _ (p : Provider) where
  -- a step that keeps the record, if its answer is a refusal
  abbrev Keeps : ProviderStep → Type 0
  Keeps = C.Keeps (λ (s : ProviderStep). is_refusal s.answer) (λ (s : ProviderStep). s.provider ≡ p)

  either : (b : Bool) (x y : ProviderStep) → Keeps x → Keeps y → Keeps (when b x y)
  either = C.either Keeps

  same : (a : ProviderAnswer) → Keeps (stepped p a)
  same a = C.same _ _ (stepped p a) refl

  -- a step whose answer is none
  other : (s : ProviderStep) → is_refusal s.answer ≡ false → Keeps s
  other = C.other _ _

  -- an answer keeps the record, or is no refusal
  answer_keeps : (a : ProviderAnswer) → Keeps (answered_with p a)
  answer_keeps (Running r) = same _
  answer_keeps Complete = other _ refl
  answer_keeps (Deactivated q) = other _ refl
  answer_keeps (FileRejected q) = other _ refl
  answer_keeps (Refused cause mirror) = other _ refl
  answer_keeps (Err e) = same _

  sc_keeps : (nos : Nos) (q : Scq) → Keeps (on_sc p nos q)
  unfolding on_sc
  sc_keeps nos q = answer_keeps _

  ack_keeps : (nos : Nos) (q : Afq) → Keeps (on_ack p nos q)
  unfolding on_ack
  ack_keeps nos q = answer_keeps _

  ours_keep : (f : Frame) → Keeps (on_ours p f)
  ours_keep (F.FileReady ioa nof lof frq) = same _
  ours_keep (F.SectionReady ioa nof nos lof srq) = same _
  ours_keep (F.Sc ioa nof nos scq) = sc_keeps nos scq
  ours_keep (F.LastSection ioa nof nos lsq chs) = same _
  ours_keep (F.Ack ioa nof nos afq) = ack_keeps nos afq
  ours_keep (F.Segment ioa nof nos los) = same _
  ours_keep (F.Directory ioa cause) = same _
  ours_keep (F.QueryLog ioa nof start stop) = same _

  request_keeps : (f : Frame) → Keeps (on_request p f)
  unfolding on_request
  request_keeps f = either _ _ _ (ours_keep f) (other _ refl)

  requested_keeps : (x : Received) → Keeps (on_requested p x)
  requested_keeps (D.Frame f) = request_keeps f
  requested_keeps D.Undecodable = same _

  admitted_keeps : (received : Received) (a : Result Reaction FtError) → Keeps (provide_admitted p received a)
  admitted_keeps received (Ok A.Requested) = requested_keeps received
  admitted_keeps received (Ok A.Answered) = same _
  admitted_keeps received (Ok (A.Refused cause mirror)) = other _ refl
  admitted_keeps received (Ok (A.Discard why)) = same _
  admitted_keeps received (Ok A.Other) = same _
  admitted_keeps received (Err x) = same _

  provide_keeps : (file : List ℕ) (h : Header) (unknown : Option Unspecified) (received : Received) (beside : List ℕ)
      → Keeps (provide p file h unknown received beside)
  unfolding provide
  provide_keeps file h unknown received beside = either _ _ _ (either _ _ _ (same _) (admitted_keeps received (on_asdu p.procedure h unknown received beside))) (same _)

  pub refusal_keeps : (file : List ℕ) (h : Header) (unknown : Option Unspecified) (received : Received) (beside : List ℕ)
      → is_refusal (provide p file h unknown received beside).answer ≡ true → (provide p file h unknown received beside).provider ≡ p
  refusal_keeps file h unknown received beside = (provide_keeps file h unknown received beside).keeps
