-- Whatever is handed to a Receiver: it completes, and so sends AFQ 1, only on a file close that states the sum of what it holds.
use Prim.Native.Nat.{ℕ}
use mathlib.Core.Path.{◌≡◌, refl, sym, ◌∙◌, subst}
use mathlib.Core.Logic.{◌⊎◌, inl, inr}
use mathlib.Core.Bool.{Bool, true, false}
use mathlib.Core.List.{List, []}
use native.Mathlib.Omega.{arith}
use lib.Dec.{eqb}
use borrow.Author.Tests.{eqb-true, eq-eqb}
use Rattle.std.specs.Prelude.{Err, Ok, Option, Result}
use Rattle.laws.specs.When.{when, ◌and◌}
use Rattle.asdu.proofs.Range.{both}
use Rattle.asdu.specs.declared.Nof.{Nof}
use Rattle.asdu.specs.declared.Nos.{Nos}
use Rattle.asdu.specs.declared.Lof.{Lof}
use Rattle.asdu.specs.declared.Frq.{Frq}
use Rattle.asdu.specs.declared.Srq.{Srq}
use Rattle.asdu.specs.declared.Lsq.{Lsq}
use Rattle.asdu.specs.declared.Chs.{Chs}
use Rattle.asdu.specs.declared.Header.{Header}
use Rattle.asdu.specs.declared.FtError.TheVariants as E
use Rattle.frame.specs.declared.Frame.{Frame}
use Rattle.frame.specs.declared.Frame.TheVariants as F
use Rattle.frame.specs.Answers.{names_agree, answers_to}
use Rattle.ft.specs.Admission.{on_asdu, matched, answering, on_answer}
use Rattle.ft.specs.Building.{built}
use Rattle.ft.specs.declared.Received.{Received}
use Rattle.ft.specs.declared.Received.TheVariants as D
use Rattle.ft.specs.declared.Reaction.{Reaction}
use Rattle.ft.specs.declared.Reaction.TheVariants as A
use Rattle.acceptance.specs.Closed.{holds, section_closed, file_closed}
use Rattle.acceptance.specs.declared.SectionClosed.{SectionClosed}
use Rattle.acceptance.specs.declared.SectionClosed.TheVariants as T
use Rattle.acceptance.specs.declared.FileClosed.{FileClosed}
use Rattle.receive.specs.Record.{store_agrees, held_by, frame_of, awaited, select, stepped, started_with, started}
use Rattle.receive.specs.Answers.{Outcome, closing, leaving, on_file_ready, on_section_ready, after_section_close, on_section_close, after_file_close, on_file_close, on_close, on_segment, on_answered, on_received, receive_admitted, receive, sends, to_send}
use Rattle.receive.specs.declared.Sent.{Sent}
use Rattle.receive.specs.declared.Sent.TheVariants as S
use Rattle.receive.specs.declared.Receiver.{Receiver}
use Rattle.receive.specs.declared.ReceiverStep.{ReceiverStep}
use Rattle.receive.specs.declared.ReceiverAnswer.{ReceiverAnswer}
use Rattle.receive.specs.declared.ReceiverAnswer.TheVariants as R
use Rattle.receive.proofs.Starting.{agrees_held}
use Rattle.exchange.specs.Lines.{stated_sum}
use Rattle.history.specs.Calls.{accepts_file, closes_file, same_file, Input, receives, frames_by_receiver, Among, ClosedWith, ReceiverCompletesOnly, ReceiverAcceptsOnly}
use Rattle.history.specs.Events.{receiver_completion}
use Rattle.laws.proofs.Choices.{by_test, if_so, either}
use Rattle.history.proofs.Choosing.{both_so, never}
use Rattle.asdu.specs.declared.FtError.{FtError}
use Rattle.asdu.specs.declared.Unspecified.{Unspecified}
use Rattle.ft.specs.declared.Asdu.{Asdu}

-- ---- what a step sends that does not complete

-- no AFQ 1
abbrev pub NoAcceptance : List Frame → Type 0
NoAcceptance fs = (object : ℕ) (name : Nof) (f : Frame) → Among f fs → accepts_file object name f ≡ true → ⊥

-- a step that sends nothing, and one whose frame is no AFQ 1
sends_nothing : (t : ReceiverStep) → sends t.answer ≡ false → NoAcceptance (frames_by_receiver t)
unfolding to_send when
sends_nothing t quiet object name f = rw quiet (λ m e. m)

sends_other : (t : ReceiverStep) → sends t.answer ≡ true
    → ((object : ℕ) (name : Nof) → accepts_file object name (awaited t.receiver) ≡ false) → NoAcceptance (frames_by_receiver t)
unfolding to_send when
sends_other t says other object name f = rw says by_place
  where
    by_place : (f ≡ awaited t.receiver) ⊎ ⊥ → accepts_file object name f ≡ true → ⊥
    by_place (inl is) e = never _ (rw is (other object name)) e
    by_place (inr m) e = m

-- a request is none, and neither is an acknowledgement of another action
sends_request : (t : ReceiverStep) (action : ℕ) (nos : Nos) → sends t.answer ≡ true → t.receiver.sent ≡ S.Request action nos
    → NoAcceptance (frames_by_receiver t)
unfolding awaited
sends_request t action nos says is = sends_other t says (λ object name. rw is)

sends_acknowledgement : (t : ReceiverStep) (action : ℕ) (nos : Nos) → sends t.answer ≡ true → t.receiver.sent ≡ S.Acknowledgement action nos
    → eqb action 1 ≡ false → NoAcceptance (frames_by_receiver t)
unfolding awaited when
sends_acknowledgement t action nos says is differs = sends_other t says (λ object name. rw is (rw differs))

-- ---- a frame that answers what was sent is for the same file

answers_file : (r : Receiver) (s : Sent) (ioa : ℕ) (nof : Nof) (nos : Nos) (lsq : Lsq) (chs : Chs)
    → answers_to (frame_of r.ioa r.nof s) (F.LastSection ioa nof nos lsq chs) ≡ true → same_file r.ioa r.nof ioa nof ≡ true
unfolding answers_to names_agree
answers_file r s ioa nof nos lsq chs e = by_sent s e
  where
    same : (b d : Bool) → (eqb r.ioa ioa and b and eqb r.nof.value nof.value and d) ≡ true → same_file r.ioa r.nof ioa nof ≡ true
    same b d h =
        let o = both (eqb r.ioa ioa) (b and eqb r.nof.value nof.value and d) h in
        let t = both b (eqb r.nof.value nof.value and d) o.1 in
        let n = both (eqb r.nof.value nof.value) d t.1 in
        both_so (eqb ioa r.ioa) (eqb nof.value r.nof.value) (eq-eqb ioa r.ioa (sym (eqb-true r.ioa ioa o.0)))
        (eq-eqb nof.value r.nof.value (sym (eqb-true r.nof.value nof.value n.0)))

    by_sent : (z : Sent) → answers_to (frame_of r.ioa r.nof z) (F.LastSection ioa nof nos lsq chs) ≡ true → same_file r.ioa r.nof ioa nof ≡ true
    by_sent S.Nothing h = same _ _ h
    by_sent (S.Request action nos) h = same _ _ h
    by_sent (S.Acknowledgement action nos) h = same _ _ h

-- an answer that is admitted
was_answered : (b : Bool) → when b (Ok A.Answered) (Err E.EchoMismatch) ≡ (Ok A.Answered) → b ≡ true
unfolding when
was_answered true e = refl
was_answered false e = cc

answers_sent : (sent f : Frame) (x : Result Reaction FtError) → answering sent (D.Frame f) x ≡ (Ok A.Answered) → answers_to sent f ≡ true
unfolding matched
answers_sent sent f (Ok A.Answered) e = was_answered (answers_to sent f) e
answers_sent sent f (Ok A.Requested) e = cc
answers_sent sent f (Ok (A.Refused cause mirror)) e = cc
answers_sent sent f (Ok (A.Discard why)) e = cc
answers_sent sent f (Ok A.Other) e = cc
answers_sent sent f (Err k) e = cc

-- ---- one call

module _ (r : Receiver) (store : List ℕ) (received : Received) where
  -- by its answer
  abbrev pub AsAnswered : Outcome → ReceiverAnswer → Type 0
  AsAnswered o R.Running = NoAcceptance (frames_by_receiver o.step)
  AsAnswered o R.Send = NoAcceptance (frames_by_receiver o.step)
  AsAnswered o (R.Complete n) = ClosedWith r store received n o
  AsAnswered o (R.FileNotReady frq) = NoAcceptance (frames_by_receiver o.step)
  AsAnswered o (R.SectionNotReady nos srq) = NoAcceptance (frames_by_receiver o.step)
  AsAnswered o (R.FileChecksum expected got) = NoAcceptance (frames_by_receiver o.step)
  AsAnswered o (R.UnknownLsq lsq) = NoAcceptance (frames_by_receiver o.step)
  AsAnswered o (R.Refused cause mirror) = NoAcceptance (frames_by_receiver o.step)
  AsAnswered o (R.Err e) = NoAcceptance (frames_by_receiver o.step)

  pub record Right (o : Outcome) : Type 0 where
    pub object : o.step.receiver.ioa ≡ r.ioa
    pub name : o.step.receiver.nof ≡ r.nof
    pub right : AsAnswered o o.step.answer

  is_right : (o : Outcome) → o.step.receiver.ioa ≡ r.ioa → o.step.receiver.nof ≡ r.nof → AsAnswered o o.step.answer → Right o
  is_right o i n a = record { object = i; name = n; right = a }

  -- a step that leaves the store as it is
  record RightAt (t : ReceiverStep) : Type 0 where
    at : Right (leaving store t)

  quiet : (t : ReceiverStep) → t.receiver.ioa ≡ r.ioa → t.receiver.nof ≡ r.nof → AsAnswered (leaving store t) t.answer → RightAt t
  quiet t i n a = record { at = is_right (leaving store t) i n a }

  file_ready_right : (lof : Lof) (frq : Frq) → RightAt (on_file_ready r lof frq)
  unfolding on_file_ready
  file_ready_right lof frq =
      either RightAt _ _ _ (quiet _ refl refl (sends_nothing _ refl)) (quiet _ refl refl (sends_request _ _ _ refl refl))

  section_ready_right : (nos : Nos) (srq : Srq) → RightAt (on_section_ready r nos srq)
  unfolding on_section_ready
  section_ready_right nos srq =
      either RightAt _ _ _ (quiet _ refl refl (sends_nothing _ refl)) (quiet _ refl refl (sends_request _ _ _ refl refl))

  section_closed_right : (nos : Nos) (x : SectionClosed) → RightAt (after_section_close r nos x)
  section_closed_right nos (T.Accepted h) = quiet _ refl refl (sends_acknowledgement _ _ _ refl refl refl)
  section_closed_right nos (T.Dropped h) = quiet _ refl refl (sends_acknowledgement _ _ _ refl refl refl)

  section_close_right : (nos : Nos) (chs : Chs) → RightAt (on_section_close r store nos chs)
  unfolding on_section_close
  section_close_right nos chs = section_closed_right nos (section_closed (held_by r) store chs)

  module _ (agreed : store_agrees r store ≡ true) where
    file_close_right : (f : Frame) (nos : Nos) (chs : Chs) → received ≡ D.Frame f → closes_file r.ioa r.nof f ≡ true → stated_sum f ≡ chs.value
        → RightAt (on_file_close r store nos chs)
    unfolding on_file_close file_closed
    file_close_right f nos chs is close states =
        if_so (λ (x : FileClosed). RightAt (after_file_close r nos chs x)) _ _ _
        (λ e.
        quiet (stepped (closing r (holds r.kept 0) (S.Acknowledgement 1 nos)) (R.Complete r.kept)) refl refl
        (record {
          frame = f;
          handed = is;
          close = close;
          sum = rw states (eqb-true _ _ (both _ _ e).1);
          named = refl;
          whole = omega (arith, agrees_held r store agreed);
          stored = refl;
          done = refl;
          kept = refl;
        }))
        (quiet _ refl refl (sends_acknowledgement _ _ _ refl refl refl))

    close_right : (ioa : ℕ) (nof : Nof) (nos : Nos) (lsq : Lsq) (chs : Chs) → received ≡ D.Frame (F.LastSection ioa nof nos lsq chs)
        → answers_to (awaited r) (F.LastSection ioa nof nos lsq chs) ≡ true → RightAt (on_close r store nos lsq chs)
    unfolding on_close awaited
    close_right ioa nof nos lsq chs is answer =
        either RightAt _ _ _ (section_close_right nos chs)
        (if_so RightAt _ _ _
        (λ e. file_close_right (F.LastSection ioa nof nos lsq chs) nos chs is (both_so _ _ e (answers_file r r.sent ioa nof nos lsq chs answer)) refl)
        (quiet _ refl refl (sends_nothing _ refl)))

    segment_right : (payload : List ℕ) → Right (on_segment r store payload)
    unfolding on_segment
    segment_right payload = either Right _ _ _ (is_right _ refl refl (sends_nothing _ refl)) (is_right _ refl refl (sends_nothing _ refl))

    answered_right : (payload : List ℕ) (f : Frame) → received ≡ D.Frame f → answers_to (awaited r) f ≡ true → Right (on_answered r store payload f)
    answered_right payload (F.FileReady ioa nof lof frq) is e = (file_ready_right lof frq).at
    answered_right payload (F.SectionReady ioa nof nos lof srq) is e = (section_ready_right nos srq).at
    answered_right payload (F.Sc ioa nof nos scq) is e = is_right _ refl refl (sends_nothing _ refl)
    answered_right payload (F.LastSection ioa nof nos lsq chs) is e = (close_right ioa nof nos lsq chs is e).at
    answered_right payload (F.Ack ioa nof nos afq) is e = is_right _ refl refl (sends_nothing _ refl)
    answered_right payload (F.Segment ioa nof nos los) is e = segment_right payload
    answered_right payload (F.Directory ioa cause) is e = is_right _ refl refl (sends_nothing _ refl)
    answered_right payload (F.QueryLog ioa nof start stop) is e = is_right _ refl refl (sends_nothing _ refl)

    received_right : (payload : List ℕ) (y : Received) (a : Result Reaction FtError) → received ≡ y → answering (awaited r) y a ≡ Ok A.Answered
        → Right (on_received r store payload y)
    received_right payload (D.Frame f) a is e = answered_right payload f is (answers_sent (awaited r) f a e)
    received_right payload D.Undecodable a is e = is_right _ refl refl (sends_nothing _ refl)

    admitted_right : (payload : List ℕ) (a b : Result Reaction FtError) → answering (awaited r) received a ≡ b → Right (receive_admitted r store payload received b)
    admitted_right payload a (Ok A.Requested) e = is_right _ refl refl (sends_nothing _ refl)
    admitted_right payload a (Ok A.Answered) e = received_right payload received a refl e
    admitted_right payload a (Ok (A.Refused cause mirror)) e = is_right _ refl refl (sends_nothing _ refl)
    admitted_right payload a (Ok (A.Discard why)) e = is_right _ refl refl (sends_nothing _ refl)
    admitted_right payload a (Ok A.Other) e = is_right _ refl refl (sends_nothing _ refl)
    admitted_right payload a (Err k) e = is_right _ refl refl (sends_nothing _ refl)

receive_right : (r : Receiver) (store : List ℕ) (h : Header) (unknown : Option Unspecified) (received : Received) (beside : List ℕ)
    → Right r store received (receive r store h unknown received beside)
unfolding receive on_answer
receive_right r store h unknown received beside =
    if_so (Right r store received) _ _ _
    (λ agreed.
    either (Right r store received) _ _ _ (is_right r store received _ refl refl (sends_nothing _ refl))
    (admitted_right r store received agreed beside (on_asdu r.procedure h unknown received beside) _ refl))
    (is_right r store received _ refl refl (sends_nothing _ refl))

pub receives_right : (r : Receiver) (store : List ℕ) (x : Input) → Right r store x.received (receives r store x)
receives_right r store x = receive_right r store x.header x.unknown x.received x.beside

-- the start likewise, which completes nothing
starts_with_right : (r : Receiver) (store : List ℕ) (received : Received) (a : Result Asdu FtError) → RightAt r store received (started_with r a)
starts_with_right r store received (Ok a) = quiet r store received _ refl refl (sends_request _ _ _ refl refl)
starts_with_right r store received (Err e) = quiet r store received _ refl refl (sends_nothing _ refl)

pub starts_right : (r : Receiver) (store : List ℕ) (received : Received) → Right r store received (leaving store (started r store))
unfolding started
starts_right r store received =
    let t : RightAt r store received (started r store) =
    either (RightAt r store received) _ _ _ (starts_with_right r store received (built r.procedure (select r) [])) (quiet r store received _ refl refl (sends_nothing _ refl)) in
    t.at

-- ---- a Receiver that is done

-- it stays so, and the store and what it holds as accepted stay; it completes no more
pub record Still (r : Receiver) (store : List ℕ) (o : Outcome) : Type 0 where
  pub done : o.step.receiver.done ≡ true
  pub kept : o.step.receiver.kept ≡ r.kept
  pub stored : o.store ≡ store
  pub none : receiver_completion o.step.answer ≡ []

module _ (r : Receiver) (store : List ℕ) (over : r.done ≡ true) where
  is_still : (o : Outcome) → o.step.receiver.done ≡ r.done → o.step.receiver.kept ≡ r.kept → o.store ≡ store
      → receiver_completion o.step.answer ≡ [] → Still r store o
  is_still o d k s n = record { done = d ∙ over; kept = k; stored = s; none = n }

  receive_still : (h : Header) (unknown : Option Unspecified) (received : Received) (beside : List ℕ) → Still r store (receive r store h unknown received beside)
  unfolding receive
  receive_still h unknown received beside =
      either (Still r store) _ _ _
      (by_test (Still r store) _ _ _ (λ e. is_still _ refl refl refl refl) (λ e. absurd (never r.done e over)))
      (is_still _ refl refl refl refl)

  pub receives_still : (x : Input) → Still r store (receives r store x)
  receives_still x = receive_still x.header x.unknown x.received x.beside

  record StillAt (t : ReceiverStep) : Type 0 where
    at : Still r store (leaving store t)

  start_with_still : (a : Result Asdu FtError) → StillAt (started_with r a)
  start_with_still (Ok a) = record { at = is_still _ refl refl refl refl }
  start_with_still (Err e) = record { at = is_still _ refl refl refl refl }

  pub starts_still : Still r store (leaving store (started r store))
  unfolding started
  starts_still =
      let t : StillAt (started r store) =
      either StillAt _ _ _ (start_with_still (built r.procedure (select r) [])) (record { at = is_still _ refl refl refl refl }) in
      t.at

-- ---- the statements

pub receiver_completes_only : ReceiverCompletesOnly
receiver_completes_only r store x n e =
    subst (λ (a : ReceiverAnswer). AsAnswered r store x.received (receives r store x) a) e (receives_right r store x).right

module _ (r : Receiver) (store : List ℕ) (received : Received) (o : Outcome) (object : ℕ) (name : Nof) (f : Frame)
    (sent : Among f (frames_by_receiver o.step)) (accepts : accepts_file object name f ≡ true) where
  completes_by : (a : ReceiverAnswer) → o.step.answer ≡ a → AsAnswered r store received o a → (n : ℕ) × (o.step.answer ≡ R.Complete n)
  completes_by R.Running is h = absurd (h object name f sent accepts)
  completes_by R.Send is h = absurd (h object name f sent accepts)
  completes_by (R.Complete n) is h = (n, is)
  completes_by (R.FileNotReady frq) is h = absurd (h object name f sent accepts)
  completes_by (R.SectionNotReady nos srq) is h = absurd (h object name f sent accepts)
  completes_by (R.FileChecksum expected got) is h = absurd (h object name f sent accepts)
  completes_by (R.UnknownLsq lsq) is h = absurd (h object name f sent accepts)
  completes_by (R.Refused cause mirror) is h = absurd (h object name f sent accepts)
  completes_by (R.Err k) is h = absurd (h object name f sent accepts)

pub receiver_accepts_only : ReceiverAcceptsOnly
receiver_accepts_only r store x object name f sent accepts =
    completes_by r store x.received (receives r store x) object name f sent accepts _ refl (receives_right r store x).right
