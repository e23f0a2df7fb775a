-- What no frame changes of either machine, its agreement with the lent file or store among it; and that a segment is answered with no frame.
use Prim.Native.Nat.{ℕ, ◌+◌, ◌≤◌}
use mathlib.Core.Path.{◌≡◌, refl, sym, subst}
use mathlib.Core.Bool.{true, false}
use mathlib.Core.List.{List, ◌++◌}
use native.Mathlib.Nat.{le_trans}
use native.Mathlib.Omega.{arith}
use lib.Dec.{leb}
use lib.ListN.{length, take, drop, length-append, length-drop, take-append-drop}
use lib.Seq.{length-take-le}
use borrow.Author.Tests.{leb-true, le-leb}
use Rattle.std.specs.Prelude.{None, Option, Result, Ok, Err}
use Rattle.laws.specs.When.{when}
use Rattle.laws.proofs.Choices.{if_so, either}
use Rattle.asdu.specs.declared.Nof.{Nof}
use Rattle.asdu.specs.declared.Nos.{Nos}
use Rattle.asdu.specs.declared.Lof.{Lof}
use Rattle.asdu.specs.declared.Los.{Los}
use Rattle.asdu.specs.declared.Frq.{Frq}
use Rattle.asdu.specs.declared.Srq.{Srq}
use Rattle.asdu.specs.declared.Lsq.{Lsq}
use Rattle.asdu.specs.declared.Chs.{Chs}
use Rattle.asdu.specs.declared.Scq.{Scq}
use Rattle.asdu.specs.declared.Afq.{Afq}
use Rattle.asdu.specs.declared.Header.{Header}
use Rattle.asdu.specs.declared.Unspecified.{Unspecified}
use Rattle.frame.specs.declared.Frame.{Frame}
use Rattle.frame.specs.declared.Frame.TheVariants as F
use Rattle.ft.specs.Admission.{unspecified, mirrored, not_served, unserved_by, unserved, admit_frame, admit_known, on_asdu, matched, answering, on_answer}
use Rattle.ft.specs.declared.Role.{Role}
use Rattle.ft.specs.declared.Role.TheVariants.{Controlling, Controlled}
use Rattle.ft.specs.declared.Selection.{Selection}
use Rattle.ft.specs.declared.FileTransferProcedure.{FileTransferProcedure}
use Rattle.ft.specs.declared.Received.{Received}
use Rattle.ft.specs.declared.Received.TheVariants as D
use Rattle.ft.specs.declared.Reaction.{Reaction}
use Rattle.ft.specs.declared.Reaction.TheVariants as A
use Rattle.provide.specs.Record.{file_agrees, ended, counted}
use Rattle.provide.specs.Requests.{answered_with, on_sc, on_ack, on_ours, on_request, on_requested, provide_admitted, provide}
use Rattle.provide.specs.declared.Provider.{Provider}
use Rattle.requests.specs.declared.ProviderAnswer.{ProviderAnswer}
use Rattle.requests.specs.declared.ProviderAnswer.TheVariants as PA
use Rattle.provide.specs.declared.ProviderStep.{ProviderStep}
use Rattle.acceptance.specs.Closed.{section_closed, file_closed}
use Rattle.acceptance.specs.declared.SectionClosed.{SectionClosed}
use Rattle.acceptance.specs.declared.FileClosed.{FileClosed}
use Rattle.receive.specs.Record.{store_agrees, awaited, stepped}
use Rattle.receive.proofs.Facts as R
use Rattle.receive.proofs.Starting.{agrees, agrees_held}
use Rattle.receive.specs.Answers.{Outcome, leaving, on_file_ready, on_section_ready, after_section_close, on_section_close, after_file_close, on_file_close, on_close, on_segment, on_answered, on_received, receive_admitted, receive, sends}
use Rattle.receive.specs.declared.Receiver.{Receiver}
use Rattle.receive.specs.declared.ReceiverAnswer.{ReceiverAnswer}
use Rattle.receive.specs.declared.ReceiverStep.{ReceiverStep}
use Rattle.asdu.specs.declared.FtError.{FtError}

-- ---- the Provider: what ending and counting leave as it is, every frame does

module _ {B : Type 0} (g : Provider → B) (p : Provider) (over : g (ended p) ≡ g p) (more : g (counted p) ≡ g p) where
  record Same (s : ProviderStep) : Type 0 where
    same : g s.provider ≡ g p

  kept : (s : ProviderStep) → g s.provider ≡ g p → Same s
  kept s e = record { same = e }

  answer_same : (a : ProviderAnswer) → Same (answered_with p a)
  answer_same (PA.Running r) = kept _ refl
  answer_same PA.Complete = kept _ over
  answer_same (PA.Deactivated q) = kept _ over
  answer_same (PA.FileRejected q) = kept _ over
  answer_same (PA.Refused cause mirror) = kept _ over
  answer_same (PA.Err e) = kept _ refl

  sc_same : (nos : Nos) (q : Scq) → Same (on_sc p nos q)
  unfolding on_sc
  sc_same nos q = answer_same _

  ack_same : (nos : Nos) (q : Afq) → Same (on_ack p nos q)
  unfolding on_ack
  ack_same nos q = answer_same _

  ours_same : (f : Frame) → Same (on_ours p f)
  ours_same (F.FileReady ioa nof lof frq) = kept _ refl
  ours_same (F.SectionReady ioa nof nos lof srq) = kept _ refl
  ours_same (F.Sc ioa nof nos scq) = sc_same nos scq
  ours_same (F.LastSection ioa nof nos lsq chs) = kept _ refl
  ours_same (F.Ack ioa nof nos afq) = ack_same nos afq
  ours_same (F.Segment ioa nof nos los) = kept _ refl
  ours_same (F.Directory ioa cause) = kept _ refl
  ours_same (F.QueryLog ioa nof start stop) = kept _ refl

  requested_same : (x : Received) → Same (on_requested p x)
  unfolding on_request
  requested_same (D.Frame f) = either Same _ _ _ (ours_same f) (kept _ more)
  requested_same D.Undecodable = kept _ refl

  admitted_same : (received : Received) (x : Result Reaction FtError) → Same (provide_admitted p received x)
  admitted_same received (Ok A.Requested) = requested_same received
  admitted_same received (Ok A.Answered) = kept _ refl
  admitted_same received (Ok (A.Refused cause mirror)) = kept _ over
  admitted_same received (Ok (A.Discard why)) = kept _ refl
  admitted_same received (Ok A.Other) = kept _ refl
  admitted_same received (Err e) = kept _ refl

  pub provide_same : (file : List ℕ) (h : Header) (unknown : Option Unspecified) (received : Received) (beside : List ℕ)
      → g (provide p file h unknown received beside).provider ≡ g p
  unfolding provide
  provide_same file h unknown received beside =
      let s : Same (provide p file h unknown received beside) =
      either Same _ _ _ (either Same _ _ _ (kept _ refl) (admitted_same received (on_asdu p.procedure h unknown received beside))) (kept _ refl) in
      s.same

-- the station, and the agreement with the file
pub station_same : (p : Provider) (file : List ℕ) (h : Header) (unknown : Option Unspecified) (received : Received) (beside : List ℕ)
    → (provide p file h unknown received beside).provider.procedure ≡ p.procedure
station_same p = provide_same (λ (q : Provider). q.procedure) p refl refl

pub agreement_same : (p : Provider) (file : List ℕ) (h : Header) (unknown : Option Unspecified) (received : Received) (beside : List ℕ)
    → file_agrees (provide p file h unknown received beside).provider file ≡ file_agrees p file
unfolding file_agrees
agreement_same p file = provide_same (λ (q : Provider). file_agrees q file) p refl refl file

-- ---- the Receiver: its station stays, and the store still holds its octets

module _ (r : Receiver) where
  pub record Stays (o : Outcome) : Type 0 where
    pub station : o.step.receiver.procedure ≡ r.procedure
    pub object : o.step.receiver.ioa ≡ r.ioa
    pub within : o.step.receiver.kept + o.step.receiver.staged ≤ length o.store

  -- a segment, of a store told as what is accepted, what is under way and the rest
  segment_within : (acc sec rest o : List ℕ) → r.kept ≡ length acc → r.staged ≡ length sec → Stays (on_segment r (acc ++ (sec ++ rest)) o)
  segment_within acc sec rest o kept staged =
      rw (R.segment r acc sec rest kept staged o)
      (if_so Stays (leb (length o) (length rest)) _ _
      (λ e.
      record {
        station = refl;
        object = refl;
        within = simp (length-append, length-drop) (omega (arith, leb-true (length o) (length rest) e));
      })
      (record { station = refl; object = refl; within = simp length-append (omega (arith, kept, staged)) }))

  segment_stays : (store o : List ℕ) → r.kept + r.staged ≤ length store → Stays (on_segment r store o)
  segment_stays store o held =
      let behind : List ℕ = drop r.kept store in
      let whole : take r.kept store ++ (take r.staged behind ++ drop r.staged behind) ≡ store =
      rw (take-append-drop r.staged (drop r.kept store)) (take-append-drop r.kept store) in
      let kept : r.kept ≡ length (take r.kept store) = sym (length-take-le r.kept store (omega arith)) in
      let staged : r.staged ≡ length (take r.staged behind) = sym (length-take-le r.staged behind (simp length-drop (omega arith))) in
      subst (λ (z : List ℕ). Stays (on_segment r z o)) whole (segment_within (take r.kept store) (take r.staged behind) (drop r.staged behind) o kept staged)

module _ (r : Receiver) (store : List ℕ) (agreed : store_agrees r store ≡ true) where
  -- no more octets are held than before
  no_more : (s : ReceiverStep) → s.receiver.procedure ≡ r.procedure → s.receiver.ioa ≡ r.ioa
      → s.receiver.kept + s.receiver.staged ≤ r.kept + r.staged → Stays r (leaving store s)
  no_more s p i fewer = record { station = p; object = i; within = le_trans fewer (agrees_held r store agreed) }

  same : (a : ReceiverAnswer) → Stays r (leaving store (stepped r a))
  same a = no_more _ refl refl (omega arith)

  -- a step that leaves the store as it is
  record StaysAt (s : ReceiverStep) : Type 0 where
    at : Stays r (leaving store s)

  kept_at : (s : ReceiverStep) → s.receiver.procedure ≡ r.procedure → s.receiver.ioa ≡ r.ioa
      → s.receiver.kept + s.receiver.staged ≤ r.kept + r.staged → StaysAt s
  kept_at s p i fewer = record { at = no_more s p i fewer }

  file_ready_stays : (lof : Lof) (frq : Frq) → StaysAt (on_file_ready r lof frq)
  unfolding on_file_ready
  file_ready_stays lof frq = either StaysAt _ _ _ (kept_at _ refl refl (omega arith)) (kept_at _ refl refl (omega arith))

  section_ready_stays : (nos : Nos) (srq : Srq) → StaysAt (on_section_ready r nos srq)
  unfolding on_section_ready
  section_ready_stays nos srq = either StaysAt _ _ _ (kept_at _ refl refl (omega arith)) (kept_at _ refl refl (omega arith))

  close_stays : (nos : Nos) (lsq : Lsq) (chs : Chs) → StaysAt (on_close r store nos lsq chs)
  unfolding on_close on_section_close section_closed on_file_close file_closed
  close_stays nos lsq chs =
      either StaysAt _ _ _
      (either (λ (x : SectionClosed). StaysAt (after_section_close r nos x)) _ _ _ (kept_at _ refl refl (omega arith)) (kept_at _ refl refl (omega arith)))
      (either StaysAt _ _ _
      (either (λ (x : FileClosed). StaysAt (after_file_close r nos chs x)) _ _ _ (kept_at _ refl refl (omega arith)) (kept_at _ refl refl (omega arith)))
      (kept_at _ refl refl (omega arith)))

  answered_stays : (payload : List ℕ) (f : Frame) → Stays r (on_answered r store payload f)
  answered_stays payload (F.FileReady ioa nof lof frq) = (file_ready_stays lof frq).at
  answered_stays payload (F.SectionReady ioa nof nos lof srq) = (section_ready_stays nos srq).at
  answered_stays payload (F.Sc ioa nof nos scq) = same _
  answered_stays payload (F.LastSection ioa nof nos lsq chs) = (close_stays nos lsq chs).at
  answered_stays payload (F.Ack ioa nof nos afq) = same _
  answered_stays payload (F.Segment ioa nof nos los) = segment_stays r store payload (agrees_held r store agreed)
  answered_stays payload (F.Directory ioa cause) = same _
  answered_stays payload (F.QueryLog ioa nof start stop) = same _

  received_stays : (payload : List ℕ) (x : Received) → Stays r (on_received r store payload x)
  received_stays payload (D.Frame f) = answered_stays payload f
  received_stays payload D.Undecodable = same _

  reaction_stays : (payload : List ℕ) (received : Received) (x : Result Reaction FtError) → Stays r (receive_admitted r store payload received x)
  reaction_stays payload received (Ok A.Requested) = same _
  reaction_stays payload received (Ok A.Answered) = received_stays payload received
  reaction_stays payload received (Ok (A.Refused cause mirror)) = no_more _ refl refl (omega arith)
  reaction_stays payload received (Ok (A.Discard why)) = same _
  reaction_stays payload received (Ok A.Other) = same _
  reaction_stays payload received (Err e) = same _

  pub receive_stays : (h : Header) (unknown : Option Unspecified) (received : Received) (beside : List ℕ) → Stays r (receive r store h unknown received beside)
  unfolding receive
  receive_stays h unknown received beside =
      either (Stays r) _ _ _ (either (Stays r) _ _ _ (same _) (reaction_stays beside received (on_answer r.procedure h unknown received beside (awaited r)))) (same _)

  -- so they agree again
  pub agreement_stays : (o : Outcome) → Stays r o → store_agrees o.step.receiver o.store ≡ true
  unfolding store_agrees when
  agreement_stays o s = let g = agrees r store agreed in rw (s.station, s.object) (simp (g.settings, g.object, le-leb _ _ s.within))

-- ---- a segment is answered with no frame

module _ (r : Receiver) (store beside : List ℕ) (ioa : ℕ) (nof : Nof) (nos : Nos) (los : Los) where
  abbrev segment : Received
  segment = D.Frame (F.Segment ioa nof nos los)

  record Silent (o : Outcome) : Type 0 where
    silent : sends o.step.answer ≡ false

  says_nothing : (o : Outcome) → sends o.step.answer ≡ false → Silent o
  says_nothing o e = record { silent = e }

  -- a reaction after which the Receiver sends nothing
  record Quiet (x : Result Reaction FtError) : Type 0 where
    quiet : Silent (receive_admitted r store beside segment x)

  leaves : (x : Result Reaction FtError) → sends (receive_admitted r store beside segment x).step.answer ≡ false → Quiet x
  leaves x e = record { quiet = says_nothing _ e }

  unspecified_quiet : (role : Role) (which : Unspecified) → Quiet (unspecified role which)
  unspecified_quiet Controlled which = leaves _ refl
  unspecified_quiet Controlling which = leaves _ refl

  unserved_quiet : (role : Role) (s : Selection) → Quiet (unserved_by role s)
  unfolding not_served
  unserved_quiet Controlled s = leaves _ refl
  unserved_quiet Controlling s = either Quiet _ _ _ (leaves _ refl) (leaves _ refl)

  segment_quiet : Quiet (Ok A.Answered)
  unfolding on_segment
  segment_quiet = record { quiet = either Silent _ _ _ (says_nothing _ refl) (says_nothing _ refl) }

  answering_quiet : (sent : Frame) (x : Result Reaction FtError) → Quiet x → Quiet (answering sent segment x)
  unfolding matched
  answering_quiet sent (Ok A.Answered) q = either Quiet _ _ _ segment_quiet (leaves _ refl)
  answering_quiet sent (Ok A.Requested) q = q
  answering_quiet sent (Ok (A.Refused cause mirror)) q = q
  answering_quiet sent (Ok (A.Discard why)) q = q
  answering_quiet sent (Ok A.Other) q = q
  answering_quiet sent (Err e) q = q

  module _ (h : Header) where
    frame_quiet : (p : FileTransferProcedure) → Quiet (admit_frame p h (F.Segment ioa nof nos los) beside)
    unfolding admit_frame unserved
    frame_quiet p =
        either Quiet _ _ _ (either Quiet _ _ _ (either Quiet _ _ _ (leaves _ refl) segment_quiet) (unserved_quiet p.role p.selection)) (leaves _ refl)

    known_quiet : (p : FileTransferProcedure) → Quiet (admit_known p h None segment beside)
    unfolding admit_known
    known_quiet p =
        let no_field : (which : Unspecified) → Quiet (unspecified p.role which) = unspecified_quiet p.role in
        either Quiet _ _ _ (no_field _) (either Quiet _ _ _ (no_field _) (either Quiet _ _ _ (no_field _) (either Quiet _ _ _ (no_field _) (frame_quiet p))))

    admission_quiet : (p : FileTransferProcedure) → Quiet (on_asdu p h None segment beside)
    unfolding on_asdu mirrored
    admission_quiet p =
        either Quiet _ _ _ (either Quiet _ _ _ (either Quiet _ _ _ (either Quiet _ _ _ (either Quiet _ _ _ (leaves _ refl) (leaves _ refl))
        (known_quiet p)) (leaves _ refl)) (leaves _ refl)) (leaves _ refl)

    pub segment_silent : sends (receive r store h None segment beside).step.answer ≡ false
    unfolding receive on_answer
    segment_silent =
        let o : Silent (receive r store h None segment beside) =
        either Silent _ _ _ (either Silent _ _ _ (says_nothing _ refl) (answering_quiet (awaited r) _ (admission_quiet r.procedure)).quiet) (says_nothing _ refl) in
        o.silent
