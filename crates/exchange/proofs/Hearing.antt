-- What each machine makes of a frame of the other's under a sound header.
use Prim.Native.Nat.{ℕ, ◌+◌, ◌≤◌, ◌<◌}
use mathlib.Core.Path.{◌≡◌, refl, sym, ap, ◌∙◌}
use mathlib.Core.Bool.{Bool, true, false, not}
use mathlib.Core.List.{List, []}
use native.Mathlib.Omega.{arith}
use lib.Dec.{leb}
use lib.ListN.{length}
use borrow.Author.Tests.{le-leb, eq-eqb, ne_eqb}
use Rattle.std.specs.Prelude.{None, Option, Ok}
use Rattle.laws.specs.When.{when}
use Rattle.asdu.specs.Sizes.{max_ioa, max_common_address}
use Rattle.asdu.specs.Elements.{scq_in_range, afq_in_range}
use Rattle.asdu.specs.Header.{is_mirror}
use Rattle.asdu.specs.declared.Nos.{Nos}
use Rattle.asdu.specs.declared.Header.{Header}
use Rattle.asdu.specs.declared.Cause.{Cause}
use Rattle.frame.specs.declared.Frame.{Frame}
use Rattle.frame.specs.declared.Frame.TheVariants as F
use Rattle.frame.specs.Frames.{type_of, cause_of, receiver_side, ioa_of, is_file_type}
use Rattle.frame.specs.Ranges.{values_in_range}
use Rattle.frame.specs.Answers.{answers_to}
use Rattle.ft.specs.Directions.{other_role}
use Rattle.ft.specs.Procedure.{settled}
use Rattle.ft.specs.Admission.{serves, frame_agrees, admit_frame, admit_known, on_asdu, matched, on_answer}
use Rattle.ft.specs.declared.Role.{Role}
use Rattle.ft.specs.declared.Role.TheVariants.{Controlling, Controlled}
use Rattle.ft.specs.declared.FileTransferProcedure.{FileTransferProcedure}
use Rattle.ft.specs.declared.Received.TheVariants as D
use Rattle.ft.specs.declared.Reaction.TheVariants.{Requested, Answered}
use Rattle.provide.specs.Record.{fresh_provider, file_agrees}
use Rattle.provide.specs.Requests.{on_sc, on_ack, is_ours, on_request, provide}
use Rattle.provide.specs.declared.Provider.{Provider}
use Rattle.provide.proofs.Building.{uses}
use Rattle.provide.proofs.Facts.{request_heard, ours_heard}
use Rattle.provide.proofs.Making as PM
use Rattle.receive.specs.Record.{store_agrees, opening, frame_of, awaited, stepped, started}
use Rattle.receive.specs.declared.ReceiverAnswer.TheVariants as Ra
use Rattle.receive.specs.Answers.{on_answered, receive}
use Rattle.receive.specs.declared.Receiver.{Receiver}
use Rattle.receive.specs.declared.Sent.{Sent}
use Rattle.receive.specs.declared.Sent.TheVariants as S
use Rattle.receive.proofs.Facts.{answer_heard}
use Rattle.receive.proofs.Making as RM
use Rattle.receive.proofs.Starting.{started_is}
use Rattle.exchange.specs.Transfer.{Sound, Transfer}

file_type : (f : Frame) → is_file_type (type_of f) ≡ true
unfolding is_file_type when
file_type (F.FileReady ioa nof lof frq) = refl
file_type (F.SectionReady ioa nof nos lof srq) = refl
file_type (F.Sc ioa nof nos scq) = refl
file_type (F.LastSection ioa nof nos lsq chs) = refl
file_type (F.Ack ioa nof nos afq) = refl
file_type (F.Segment ioa nof nos los) = refl
file_type (F.Directory ioa cause) = refl
file_type (F.QueryLog ioa nof start stop) = refl

-- a frame in range, under a sound header of a sender with the same widths, in a direction that is used, is admitted
admits : (s o : FileTransferProcedure) (f : Frame) (h : Header) (beside : List ℕ) → Sound o f h → s.sizes ≡ o.sizes → settled s ≡ true
    → leb (ioa_of f) (max_ioa s.sizes) ≡ true → values_in_range s.sizes f beside ≡ true → serves s (other_role s.role) (receiver_side f) ≡ true
    → on_asdu s h None (D.Frame f) beside ≡ when (receiver_side f) (Ok Requested) (Ok Answered)
unfolding on_asdu admit_known is_mirror admit_frame frame_agrees when
admits s o f h beside sound same right within fits dir =
    let below : h.common_address < max_common_address s.sizes = rw same sound.common in
    simp (
      right,
      le-leb h.common_address (max_common_address s.sizes) (omega arith),
      sound.type,
      file_type f,
      sound.positive,
      ne_eqb h.common_address (max_common_address s.sizes) (λ e. omega arith),
      within,
      fits,
      eq-eqb (type_of f) (type_of f) refl,
      ap (λ (c : Cause). c.value) sound.cause,
      eq-eqb (cause_of f).value (cause_of f).value refl,
      dir,
    )

-- what the other role sends from the other side is in the same direction
swap : (p : FileTransferProcedure) (r : Role) (b : Bool) → serves p (other_role r) (not b) ≡ serves p r b
unfolding serves when
swap p Controlling true = refl
swap p Controlling false = refl
swap p Controlled true = refl
swap p Controlled false = refl

module _ (m : Transfer) where
  provider_facts : PM.Made m.provider_station m.object m.name (length m.file) m.provider
  provider_facts = PM.made m.provider_station m.object m.name (length m.file) m.provider m.provider_is_made

  receiver_facts : RM.Made m.receiver_station m.object m.name m.receiver
  receiver_facts = RM.made m.receiver_station m.object m.name m.receiver m.receiver_is_made

  pub object_fits : leb m.object (max_ioa m.provider_station.sizes) ≡ true
  object_fits = provider_facts.object

  pub short : length m.file ≤ 0xFFFFFF
  short = provider_facts.short

  pub settings : settled m.provider_station ≡ true
  settings = provider_facts.settings

  -- the Provider, until it has ended
  abbrev pub P : Provider
  P = fresh_provider m.provider_station m.object m.name (length m.file)

  pub provider_fresh : m.provider ≡ P
  provider_fresh = provider_facts.fresh

  agrees : file_agrees P m.file ≡ true
  agrees = rw provider_fresh at (PM.made_agrees m.provider_station m.object m.name m.file m.provider provider_facts)

  provider_hears : (f : Frame) (h : Header) → Sound m.receiver_station f h → receiver_side f ≡ true → ioa_of f ≡ m.object
      → values_in_range m.provider_station.sizes f [] ≡ true → provide P m.file h None (D.Frame f) [] ≡ on_request P f
  unfolding when
  provider_hears f h sound side object fits =
      request_heard P m.file h None f [] agrees refl
      (admits m.provider_station m.receiver_station f h [] sound (sym m.widths) settings (rw object object_fits) fits
      (rw side (swap m.provider_station m.provider_station.role false ∙ m.provider_serves)) ∙ rw side)

  -- a request of the Receiver's
  pub hears_sc : (h : Header) (nos : Nos) (action : ℕ) → leb action 15 ≡ true
      → Sound m.receiver_station (F.Sc m.object m.name nos (record { action = action; error = 0 })) h
      → provide P m.file h None (D.Frame (F.Sc m.object m.name nos (record { action = action; error = 0 }))) [] ≡ on_sc P nos (record { action = action; error = 0 })
  unfolding scq_in_range is_ours when
  hears_sc h nos action small sound =
      provider_hears (F.Sc m.object m.name nos (record { action = action; error = 0 })) h sound refl refl (simp small)
      ∙ ours_heard P _ (simp (eq-eqb m.object m.object refl, eq-eqb m.name.value m.name.value refl))

  -- an acknowledgement
  pub hears_ack : (h : Header) (nos : Nos) (action : ℕ) → leb action 15 ≡ true
      → Sound m.receiver_station (F.Ack m.object m.name nos (record { action = action; error = 0 })) h
      → provide P m.file h None (D.Frame (F.Ack m.object m.name nos (record { action = action; error = 0 }))) [] ≡ on_ack P nos (record { action = action; error = 0 })
  unfolding afq_in_range is_ours when
  hears_ack h nos action small sound =
      provider_hears (F.Ack m.object m.name nos (record { action = action; error = 0 })) h sound refl refl (simp small)
      ∙ ours_heard P _ (simp (eq-eqb m.object m.object refl, eq-eqb m.name.value m.name.value refl))

  -- the Receiver, until it has ended
  abbrev pub R : Sent → Option ℕ → ℕ → ℕ → Receiver
  R s l kept staged =
      record { procedure = m.receiver_station; ioa = m.object; nof = m.name; sent = s; length = l; kept = kept; staged = staged; done = false }

  pub receiver_fresh : m.receiver ≡ R S.Nothing None 0 0
  receiver_fresh = receiver_facts.fresh

  pub holds : (s : Sent) (l : Option ℕ) (kept staged : ℕ) (store : List ℕ) → kept + staged ≤ length store → store_agrees (R s l kept staged) store ≡ true
  unfolding store_agrees when
  holds s l kept staged store room = simp (receiver_facts.settings, receiver_facts.object, le-leb (kept + staged) (length store) room)

  -- an answer of the Provider's
  pub receiver_hears : (s : Sent) (l : Option ℕ) (kept staged : ℕ) (store payload : List ℕ) (f : Frame) (h : Header) → kept + staged ≤ length store
      → Sound m.provider_station f h → receiver_side f ≡ false → ioa_of f ≡ m.object → values_in_range m.provider_station.sizes f payload ≡ true
      → answers_to (frame_of m.object m.name s) f ≡ true
      → receive (R s l kept staged) store h None (D.Frame f) payload ≡ on_answered (R s l kept staged) store payload f
  unfolding on_answer matched awaited when
  receiver_hears s l kept staged store payload f h room sound side object fits right =
      answer_heard (R s l kept staged) store h None f payload (holds s l kept staged store room) refl
      (simp (
        admits m.receiver_station m.provider_station f h payload sound m.widths receiver_facts.settings (rw object receiver_facts.object)
            (rw m.widths fits) (rw side (swap m.receiver_station m.receiver_station.role true ∙ m.receiver_serves)),
        side,
        right,
      ))

  -- the Receiver's start
  pub starts : started (R S.Nothing None 0 0) m.store
      ≡ stepped (R opening None 0 0) Ra.Send
  unfolding when
  starts =
      started_is (R S.Nothing None 0 0) m.store (holds S.Nothing None 0 0 m.store (omega arith))
      ∙ simp (uses m.receiver_station m.receiver_station.role true m.receiver_serves, m.receiver_serves)
