-- Document 01's worked script meets the theorem's premises, and its 13 frames are those of the exchange.
use mathlib.Core.Path.{◌≡◌, refl}
use mathlib.Core.List.{List, [], ◌∷◌, map}
use lib.Dec.{lit<, lit≤}
use Rattle.laws.specs.When.{when}
use Rattle.lists.specs.Parts.{div_ceil}
use Rattle.asdu.specs.Elements.{scq_in_range, afq_in_range, los_in_range}
use Rattle.asdu.specs.Header.{is_mirror}
use Rattle.asdu.specs.Sizes.{within, sizes_right, header_len, max_ioa, max_common_address, element_room, segment_limit}
use Rattle.frame.specs.Frames.{sc_cause, is_file_type}
use Rattle.frame.specs.Ranges.{segment_in_range}
use Rattle.frame.specs.Answers.{called_section, one_of, file_answered, section_answered, sc_answered, ack_answered, names_agree, answers_to}
use Rattle.checksum.specs.Checksum.{octet_sum, sum_after}
use Rattle.ft.specs.Directions.{uses_function}
use Rattle.ft.specs.Procedure.{conventional, address_right, settled, addressed}
use Rattle.ft.specs.Admission.{serves, frame_agrees, admit_frame, admit_known, on_asdu, matched, on_answer}
use Rattle.ft.specs.Building.{framed, built}
use Rattle.ft.specs.declared.Role.TheVariants.{Controlling, Controlled}
use Rattle.sections.specs.Sections.{section_length, section_count, sections, section_octets, segments}
use Rattle.provide.specs.Record.{fresh_provider, provider_made, file_agrees}
use Rattle.provide.specs.Requests.{on_sc, on_ack, is_ours, on_request, provide}
use Rattle.requests.specs.Answers.{sc_answer, after_section, ack_answer}
use Rattle.receive.specs.Record.{fresh_receiver, receiver_made, store_agrees, awaited, started}
use Rattle.store.specs.Store.{written}
use Rattle.acceptance.specs.Closed.{section_closed, file_closed}
use Rattle.receive.specs.Answers.{on_file_ready, on_section_ready, on_section_close, on_file_close, on_close, on_segment, receive, to_send}
use Rattle.exchange.specs.Exchange.{Side, by_provider, by_receiver, Passing, own_headers}
use Rattle.exchange.specs.Transfer.{Sound, sender_of, DamagedThenIntact, Transfer, Transferred, provider_frames, receiver_frames, exchanged}
use Rattle.exchange.specs.Lines.{line_of}
use Rattle.exchange.specs.Script.{station, script_file, damaged_once, script_lines}
use Rattle.exchange.proofs.Damaging.{script_sendings}
use Rattle.exchange.proofs.Theorem.{two_party_transfer}

pub script_sound : (before : List Passing) (x : Passing) (s : Side) → Sound (sender_of (station Controlled) (station Controlling) s) x.packet.frame (own_headers 1 before x)
unfolding max_common_address when
script_sound before x by_provider = record { type = refl; cause = refl; originator = refl; positive = refl; common = lit< tt }
script_sound before x by_receiver = record { type = refl; cause = refl; originator = refl; positive = refl; common = lit< tt }

pub limit_is : segment_limit conventional ≡ 236
unfolding segment_limit element_room header_len
limit_is = refl

pub script_damage : DamagedThenIntact (segment_limit conventional) (sections script_file) damaged_once
unfolding sections section_length section_count div_ceil when
script_damage = script_sendings (segment_limit conventional) (rw limit_is (lit< tt)) (1 ∷ []) script_file (λ h. lit< tt, tt)

-- the premises are met: a Provider that is controlled, a store of three octets
unfoldable pub script : Transfer
unfolding provider_made receiver_made sizes_right within addressed address_right max_ioa max_common_address serves when
script =
    record {
      provider_station = station Controlled;
      receiver_station = station Controlling;
      object = 100;
      name = record { value = 7 };
      file = script_file;
      store = 0 ∷ 0 ∷ 9 ∷ [];
      provider = fresh_provider (station Controlled) 100 (record { value = 7 }) 2;
      provider_is_made = refl;
      receiver = fresh_receiver (station Controlling) 100 (record { value = 7 });
      receiver_is_made = refl;
      roles = refl;
      widths = refl;
      provider_serves = refl;
      receiver_serves = refl;
      room = lit≤ tt;
      headers = own_headers 1;
      sound = λ before x. script_sound before x x.sender;
      radio = damaged_once;
      damage = script_damage;
    }

-- 7 frames of the Provider's and 6 of the Receiver's
pub script_counts : (provider_frames script ≡ 7) × (receiver_frames script ≡ 6)
unfolding script sections section_length section_count segments div_ceil segment_limit element_room header_len when
script_counts = (refl, refl)

-- the theorem at the script
pub script_transferred : Transferred script (exchanged script 13)
unfolding script sections section_length section_count segments div_ceil segment_limit element_room header_len when
script_transferred = two_party_transfer script

-- its output, line by line
pub script_output : map line_of (exchanged script 13).passed ≡ script_lines
unfolding script when div_ceil scq_in_range afq_in_range los_in_range is_mirror within sizes_right header_len max_ioa max_common_address element_room segment_limit sc_cause is_file_type segment_in_range called_section one_of file_answered section_answered sc_answered ack_answered names_agree answers_to octet_sum sum_after uses_function address_right settled serves frame_agrees admit_frame admit_known on_asdu matched on_answer addressed framed built section_length section_count sections section_octets segments file_agrees sc_answer on_sc after_section ack_answer on_ack is_ours on_request provide store_agrees written awaited started on_file_ready on_section_ready section_closed on_section_close file_closed on_file_close on_close on_segment receive to_send
script_output = refl
