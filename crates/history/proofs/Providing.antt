-- Whatever is handed to a Provider: it completes only on an AFQ 1 for its file, and what it sends as a file close states the lent file's sum.
use Prim.Native.Nat.{ℕ}
use mathlib.Core.Path.{◌≡◌, refl, subst}
use mathlib.Core.Logic.{inl, inr}
use mathlib.Core.Bool.{true, false}
use mathlib.Core.List.{List, [], ◌∷◌, ◌++◌, map}
use Rattle.std.specs.Prelude.{Err, Option, Result, Ok}
use Rattle.laws.specs.When.{when}
use Rattle.asdu.specs.declared.Nof.{Nof}
use Rattle.asdu.specs.declared.Nos.{Nos}
use Rattle.asdu.specs.declared.Scq.{Scq}
use Rattle.asdu.specs.declared.Afq.{Afq}
use Rattle.asdu.specs.declared.Header.{Header}
use Rattle.asdu.specs.declared.FtError.{FtError}
use Rattle.frame.specs.declared.Frame.{Frame}
use Rattle.frame.specs.declared.Frame.TheVariants as F
use Rattle.checksum.specs.Checksum.{checksum}
use Rattle.ft.specs.Admission.{on_asdu}
use Rattle.ft.specs.Building.{framed, built}
use Rattle.ft.specs.declared.Received.{Received}
use Rattle.ft.specs.declared.Received.TheVariants as D
use Rattle.ft.specs.declared.Reaction.{Reaction}
use Rattle.ft.specs.declared.Reaction.TheVariants as A
use Rattle.sections.specs.Sections.{segments}
use Rattle.provide.specs.Record.{ended}
use Rattle.provide.specs.Requests.{stepped, answered_with, on_sc, on_ack, is_ours, on_ours, on_request, on_requested, provide_admitted, provide}
use Rattle.provide.specs.Replies.{Packet, bare, octets_of, limit_of, segment_packet, file_ready, close_frame, replies, frame_of, announced}
use Rattle.provide.specs.declared.Provider.{Provider}
use Rattle.provide.specs.declared.ProviderStep.{ProviderStep}
use Rattle.requests.specs.Answers.{sc_answer, ack_answer}
use Rattle.requests.specs.declared.Reply.{Reply}
use Rattle.requests.specs.declared.Reply.TheVariants.{Nothing, FileReady, SectionReady, Section, FileClose}
use Rattle.requests.specs.declared.ProviderAnswer.{ProviderAnswer}
use Rattle.requests.specs.declared.ProviderAnswer.TheVariants as P
use Rattle.exchange.specs.Exchange.{provider_sends}
use Rattle.exchange.specs.Lines.{stated_sum}
use Rattle.history.specs.Calls.{closes_file, same_file, Input, provides, frames_of, Among, AcceptedWith, ProviderCompletesOnly, ProviderClosesOnly}
use Rattle.history.specs.Events.{provider_completion, announced_frames}
use Rattle.laws.proofs.Choices.{by_test, if_so, either}
use Rattle.history.proofs.Choosing.{both_so, never}
use Rattle.asdu.specs.declared.Unspecified.{Unspecified}
use Rattle.ft.specs.declared.Asdu.{Asdu}

-- ---- what it sends

-- a file close among these frames states this sum
abbrev pub Stated : ℕ → List Frame → Type 0
Stated sum fs = (object : ℕ) (name : Nof) (f : Frame) → Among f fs → closes_file object name f ≡ true → stated_sum f ≡ sum

-- of one frame: it states the sum, or it is no file close
states_sum : (sum : ℕ) (g : Frame) → stated_sum g ≡ sum → Stated sum (g ∷ [])
states_sum sum g states object name f (inl is) e = rw is states
states_sum sum g states object name f (inr m) e = absurd m

pub no_close : (sum : ℕ) (g : Frame) (gs : List Frame) → ((object : ℕ) (name : Nof) → closes_file object name g ≡ false) → Stated sum gs → Stated sum (g ∷ gs)
no_close sum g gs none rest object name f (inl is) e = absurd (never _ (none object name) (rw is at e))
no_close sum g gs none rest object name f (inr m) e = rest object name f m e

pub none_states : (sum : ℕ) → Stated sum []
none_states sum object name f m e = absurd m

-- a section's close is none
section_close : (p : Provider) (nos : Nos) (o : List ℕ) (object : ℕ) (name : Nof) → closes_file object name (close_frame p nos 3 o) ≡ false
unfolding when
section_close p nos o object name = refl

segments_state : (sum : ℕ) (p : Provider) (nos : Nos) (os : List (List ℕ)) (xs : List Packet)
    → Stated sum (frames_of xs) → Stated sum (frames_of (map (segment_packet p nos) os ++ xs))
segments_state sum p nos [] xs rest = rest
segments_state sum p nos (o ∷ os) xs rest = no_close sum (segment_packet p nos o).frame (frames_of (map (segment_packet p nos) os ++ xs)) (λ object name. refl) (segments_state sum p nos os xs rest)

replies_state : (p : Provider) (file : List ℕ) (r : Reply) → Stated (checksum file) (frames_of (replies p file r))
replies_state p file Nothing = none_states (checksum file)
replies_state p file FileReady = no_close (checksum file) _ [] (λ object name. refl) (none_states (checksum file))
replies_state p file (SectionReady nos) = no_close (checksum file) _ [] (λ object name. refl) (none_states (checksum file))
replies_state p file (Section nos) =
    segments_state (checksum file) p nos (segments (limit_of p) (octets_of p file nos)) (bare (close_frame p nos 3 (octets_of p file nos)) ∷ [])
    (no_close (checksum file) _ [] (section_close p nos (octets_of p file nos)) (none_states (checksum file)))
replies_state p file (FileClose nos) = states_sum (checksum file) (close_frame p nos 1 file) refl

answers_state : (p : Provider) (file : List ℕ) (a : ProviderAnswer) → Stated (checksum file) (frames_of (provider_sends p file a))
answers_state p file (P.Running r) = replies_state p file r
answers_state p file P.Complete = none_states (checksum file)
answers_state p file (P.Deactivated q) = none_states (checksum file)
answers_state p file (P.FileRejected q) = none_states (checksum file)
answers_state p file (P.Refused cause mirror) = none_states (checksum file)
answers_state p file (P.Err e) = none_states (checksum file)

-- an announcement is none either
record FrameStates (sum : ℕ) (a : Result Frame FtError) : Type 0 where
  states : Stated sum (announced_frames a)

record BuiltStates (sum : ℕ) (a : Result Asdu FtError) : Type 0 where
  built : FrameStates sum (frame_of a)

refused : (sum : ℕ) (e : FtError) → FrameStates sum (Err e)
refused sum e = record { states = none_states sum }

not_built : (sum : ℕ) (e : FtError) → BuiltStates sum (Err e)
not_built sum e = record { built = refused sum e }

framed_states : (sum : ℕ) (p : Provider) → BuiltStates sum (framed p.procedure.sizes p.procedure.ca p.procedure.org (file_ready p) [])
unfolding framed
framed_states sum p =
    either (BuiltStates sum) _ _ _
    (either (BuiltStates sum) _ _ _
    (either (BuiltStates sum) _ _ _ (record { built = record { states = no_close sum (file_ready p) [] (λ object name. refl) (none_states sum) } }) (not_built sum _))
    (not_built sum _)) (not_built sum _)

built_states : (sum : ℕ) (p : Provider) → BuiltStates sum (built p.procedure (file_ready p) [])
unfolding built
built_states sum p =
    either (BuiltStates sum) _ _ _ (either (BuiltStates sum) _ _ _ (either (BuiltStates sum) _ _ _ (framed_states sum p) (not_built sum _)) (not_built sum _)) (not_built sum _)

pub announced_states : (sum : ℕ) (p : Provider) (file : List ℕ) → Stated sum (announced_frames (announced p file))
unfolding announced
announced_states sum p file =
    let t : FrameStates sum (announced p file) = either (FrameStates sum) _ _ _ (built_states sum p).built (refused sum _) in
    t.states

-- ---- one call

module _ (p : Provider) (received : Received) where
  -- by its answer
  abbrev pub AsAnswered : ProviderStep → ProviderAnswer → Type 0
  AsAnswered t (P.Running r) = Unit {0}
  AsAnswered t P.Complete = AcceptedWith p received t
  AsAnswered t (P.Deactivated q) = Unit {0}
  AsAnswered t (P.FileRejected q) = Unit {0}
  AsAnswered t (P.Refused cause mirror) = Unit {0}
  AsAnswered t (P.Err e) = Unit {0}

  pub record Right (t : ProviderStep) : Type 0 where
    pub object : t.provider.ioa ≡ p.ioa
    pub name : t.provider.nof ≡ p.nof
    pub right : AsAnswered t t.answer

  is_right : (t : ProviderStep) → t.provider.ioa ≡ p.ioa → t.provider.nof ≡ p.nof → AsAnswered t t.answer → Right t
  is_right t i n a = record { object = i; name = n; right = a }

  -- an answer beside the record
  abbrev RightAnswer : ProviderAnswer → Type 0
  RightAnswer a = Right (answered_with p a)

  sc_right : (nos : Nos) (q : Scq) → Right (on_sc p nos q)
  unfolding on_sc sc_answer
  sc_right nos q =
      either RightAnswer _ _ _ (is_right _ refl refl tt)
      (either RightAnswer _ _ _ (is_right _ refl refl tt)
      (either RightAnswer _ _ _ (is_right _ refl refl tt) (either RightAnswer _ _ _ (is_right _ refl refl tt) (is_right _ refl refl tt))))

  -- AFQ 1 alone completes
  ack_right : (ioa : ℕ) (nof : Nof) (nos : Nos) (q : Afq) → received ≡ D.Frame (F.Ack ioa nof nos q) → same_file p.ioa p.nof ioa nof ≡ true
      → Right (on_ack p nos q)
  unfolding on_ack ack_answer
  ack_right ioa nof nos q is ours =
      either RightAnswer _ _ _ (is_right _ refl refl tt)
      (either RightAnswer _ _ _ (is_right _ refl refl tt)
      (if_so RightAnswer _ _ _
      (λ e.
      is_right (stepped (ended p) P.Complete) refl refl
      (record { frame = F.Ack ioa nof nos q; handed = is; acknowledgement = both_so _ _ e ours; done = refl }))
      (is_right _ refl refl tt)))

  ours_right : (f : Frame) → received ≡ D.Frame f → is_ours p f ≡ true → Right (on_ours p f)
  unfolding is_ours
  ours_right (F.FileReady ioa nof lof frq) is e = is_right _ refl refl tt
  ours_right (F.SectionReady ioa nof nos lof srq) is e = is_right _ refl refl tt
  ours_right (F.Sc ioa nof nos scq) is e = sc_right nos scq
  ours_right (F.LastSection ioa nof nos lsq chs) is e = is_right _ refl refl tt
  ours_right (F.Ack ioa nof nos afq) is e = ack_right ioa nof nos afq is e
  ours_right (F.Segment ioa nof nos los) is e = is_right _ refl refl tt
  ours_right (F.Directory ioa cause) is e = is_right _ refl refl tt
  ours_right (F.QueryLog ioa nof start stop) is e = is_right _ refl refl tt

  requested_right : (y : Received) → received ≡ y → Right (on_requested p y)
  unfolding on_request
  requested_right (D.Frame f) is = if_so Right _ _ _ (λ e. ours_right f is e) (is_right _ refl refl tt)
  requested_right D.Undecodable is = is_right _ refl refl tt

  admitted_right : (a : Result Reaction FtError) → Right (provide_admitted p received a)
  admitted_right (Ok A.Requested) = requested_right received refl
  admitted_right (Ok A.Answered) = is_right _ refl refl tt
  admitted_right (Ok (A.Refused cause mirror)) = is_right _ refl refl tt
  admitted_right (Ok (A.Discard why)) = is_right _ refl refl tt
  admitted_right (Ok A.Other) = is_right _ refl refl tt
  admitted_right (Err e) = is_right _ refl refl tt

provide_right : (p : Provider) (file : List ℕ) (h : Header) (unknown : Option Unspecified) (received : Received) (beside : List ℕ)
    → Right p received (provide p file h unknown received beside)
unfolding provide
provide_right p file h unknown received beside =
    either (Right p received) _ _ _
    (either (Right p received) _ _ _ (is_right p received _ refl refl tt) (admitted_right p received (on_asdu p.procedure h unknown received beside)))
    (is_right p received _ refl refl tt)

pub provides_right : (p : Provider) (file : List ℕ) (x : Input) → Right p x.received (provides p file x)
provides_right p file x = provide_right p file x.header x.unknown x.received x.beside

-- ---- a Provider that is done stays so, and completes no more

pub record Still (t : ProviderStep) : Type 0 where
  pub done : t.provider.done ≡ true
  pub none : provider_completion t.answer ≡ []

provide_still : (p : Provider) (file : List ℕ) (h : Header) (unknown : Option Unspecified) (received : Received) (beside : List ℕ) → p.done ≡ true
    → Still (provide p file h unknown received beside)
unfolding provide
provide_still p file h unknown received beside over =
    either Still _ _ _
    (by_test Still _ _ _ (λ e. record { done = over; none = refl }) (λ e. absurd (never p.done e over)))
    (record { done = over; none = refl })

pub provides_still : (p : Provider) (file : List ℕ) (x : Input) → p.done ≡ true → Still (provides p file x)
provides_still p file x = provide_still p file x.header x.unknown x.received x.beside

-- ---- the statements

pub provider_completes_only : ProviderCompletesOnly
provider_completes_only p file x e =
    subst (λ (a : ProviderAnswer). AsAnswered p x.received (provides p file x) a) e (provides_right p file x).right

pub provider_closes_only : ProviderClosesOnly
provider_closes_only p file x = answers_state (provides p file x).provider file (provides p file x).answer
