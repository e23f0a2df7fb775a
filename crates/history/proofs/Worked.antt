-- The three short histories: each premise is needed, and the sum is all that is promised.
use Prim.Native.Nat.{ℕ}
use mathlib.Core.Path.{◌≡◌, refl}
use mathlib.Core.Logic.{inl, inr}
use mathlib.Core.Bool.{Bool, true, false, true≢false}
use mathlib.Core.List.{List, [], ◌∷◌}
use native.Mathlib.Omega.{arith}
use Rattle.laws.specs.When.{when}
use Rattle.lists.specs.Parts.{div_ceil}
use Rattle.asdu.specs.Elements.{afq_in_range}
use Rattle.asdu.specs.Header.{is_mirror}
use Rattle.asdu.specs.Sizes.{within, sizes_right, max_ioa, max_common_address}
use Rattle.frame.specs.declared.Frame.{Frame}
use Rattle.frame.specs.Frames.{is_file_type}
use Rattle.frame.specs.Answers.{called_section, one_of, file_answered, section_answered, sc_answered, ack_answered, names_agree, answers_to}
use Rattle.checksum.specs.Checksum.{octet_sum, sum_after}
use Rattle.ft.specs.Procedure.{address_right, settled, addressed}
use Rattle.ft.specs.Admission.{serves, frame_agrees, admit_frame, admit_known, on_asdu, matched, on_answer}
use Rattle.ft.specs.declared.Role.TheVariants.{Controlling, Controlled}
use Rattle.ft.specs.declared.Received.TheVariants as D
use Rattle.sections.specs.Sections.{section_length, section_count}
use Rattle.provide.specs.Record.{fresh_provider, provider_made, file_agrees}
use Rattle.provide.specs.Requests.{on_ack, is_ours, on_request, provide}
use Rattle.requests.specs.Answers.{after_section, ack_answer}
use Rattle.receive.specs.Record.{fresh_receiver, receiver_made, store_agrees, awaited}
use Rattle.acceptance.specs.Closed.{file_closed}
use Rattle.receive.specs.Answers.{on_file_ready, on_section_ready, on_file_close, on_close, receive, to_send}
use Rattle.exchange.specs.Script.{station}
use Rattle.history.specs.Calls.{accepts_file, closes_file}
use Rattle.history.specs.Events.{Event}
use Rattle.history.specs.Held.{History}
use Rattle.history.specs.Worked.{worked_name, offered_file, offered_section, acknowledgement, zero_close, forged_acceptance, FreedUnheld, forged_close, SumsDiffer, closed_unsent, OctetsDiffer}
use Rattle.history.proofs.Choosing.{never}

-- a file of two octets between document 01's worked stations
unfoldable pub worked : ℕ → ℕ → List Event → History
unfolding provider_made receiver_made sizes_right within addressed address_right max_ioa max_common_address when
worked a b events =
    record {
      provider_station = station Controlled;
      receiver_station = station Controlling;
      object = 100;
      name = worked_name;
      file = a ∷ b ∷ [];
      store = 0 ∷ 0 ∷ 9 ∷ [];
      provider = fresh_provider (station Controlled) 100 worked_name 2;
      provider_is_made = refl;
      receiver = fresh_receiver (station Controlling) 100 worked_name;
      receiver_is_made = refl;
      events = events;
    }

-- a frame of which a test fails is none of which it holds
unlike : (test : Frame → Bool) (g f : Frame) → D.Frame g ≡ D.Frame f → test g ≡ false → test f ≡ true → ⊥
unlike test g f is fails e = let z : f ≡ g = cc in never (test g) fails (rw z at e)

-- a forged AFQ 1: the Provider has completed, and the Receiver holds nothing
pub forged_acceptance_lem : FreedUnheld (worked 200 100 forged_acceptance)
unfolding worked when div_ceil afq_in_range is_mirror within sizes_right max_ioa max_common_address is_file_type address_right settled serves frame_agrees admit_frame admit_known on_asdu section_length file_agrees ack_answer on_ack is_ours on_request provide
forged_acceptance_lem = record { closes = (tt, tt); order = refl; kept = refl }

-- a forged file close: both have completed, and the sums, 0 and 44, differ
pub forged_close_lem : SumsDiffer (worked 200 100 forged_close)
unfolding worked when div_ceil afq_in_range is_mirror within sizes_right max_ioa max_common_address is_file_type called_section one_of file_answered section_answered sc_answered ack_answered names_agree answers_to octet_sum sum_after address_right settled serves frame_agrees admit_frame admit_known on_asdu matched on_answer section_length file_agrees ack_answer on_ack is_ours on_request provide store_agrees awaited on_file_ready on_section_ready file_closed on_file_close on_close receive to_send
forged_close_lem =
    record {
      acceptances = (tt, (tt, (tt, (λ f is e. let z : f ≡ acknowledgement 1 = cc in inr (inr (inl z)), tt))));
      octets = 0;
      order = refl;
      sums = λ e. omega arith;
    }

-- a file of the octets 128 and 128, whose sum is 0: neither frame is forged, and the Receiver has completed with no octet
pub sum_alone : OctetsDiffer (worked 128 128 closed_unsent)
unfolding worked when div_ceil afq_in_range is_mirror within sizes_right max_ioa max_common_address is_file_type called_section one_of file_answered section_answered sc_answered ack_answered names_agree answers_to octet_sum sum_after address_right settled serves frame_agrees admit_frame admit_known on_asdu matched on_answer section_length section_count file_agrees after_section ack_answer on_ack is_ours on_request provide store_agrees awaited on_file_ready on_section_ready file_closed on_file_close on_close receive to_send
sum_alone =
    record {
      unforged =
          record {
            acceptances = (λ f is e. unlike (accepts_file 100 worked_name) (acknowledgement 3) f is refl e, (tt, (tt, (tt, (λ f is e. let z : f ≡ acknowledgement 1 = cc in inr (inr (inl z)), tt)))));
            closes = (tt, (λ f is e. absurd (unlike (closes_file 100 worked_name) offered_file f is refl e), (λ f is e. absurd (unlike (closes_file 100 worked_name) offered_section f is refl e), (λ f is e. let z : f ≡ zero_close = cc in inl z, (tt, tt)))));
          };
      octets = 0;
      order = refl;
      differ = λ e. let z : true ≡ false = cc in true≢false z;
    }
