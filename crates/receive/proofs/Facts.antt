-- What the Receiver does, told of a store as what is accepted, what is under way and the rest: the facts that the exchange cites.
use Prim.Native.Nat.{ℕ, ◌+◌, ◌≤◌, ◌<◌}
use mathlib.Core.Path.{◌≡◌, refl, sym, ◌∙◌}
use mathlib.Core.Logic.{◌≢◌}
use mathlib.Core.Bool.{true, false}
use mathlib.Core.List.{List, ◌++◌}
use native.Mathlib.Omega.{arith}
use native.Mathlib.Decide.{dec_le}
use lib.Dec.{leb}
use lib.ListN.{length, drop, length-append}
use borrow.Author.Tests.{eq-eqb, ne_eqb, le-leb, lt-leb}
use Rattle.std.specs.Prelude.{Option, Some, Ok}
use Rattle.laws.specs.When.{when, unless}
use Rattle.laws.proofs.Decide.{when_true}
use Rattle.asdu.specs.declared.Nos.{Nos}
use Rattle.asdu.specs.declared.Chs.{Chs}
use Rattle.asdu.specs.declared.Header.{Header}
use Rattle.asdu.specs.declared.FtError.TheVariants as E
use Rattle.frame.specs.declared.Frame.{Frame}
use Rattle.checksum.specs.Checksum.{checksum}
use Rattle.ft.specs.Admission.{on_answer}
use Rattle.ft.specs.declared.Received.TheVariants as D
use Rattle.ft.specs.declared.Reaction.TheVariants as A
use Rattle.acceptance.specs.Closed.{holds, section_closed, file_closed}
use Rattle.acceptance.specs.declared.Held.{Held}
use Rattle.receive.specs.Record.{store_agrees, holding, acknowledge, awaited, stepped}
use Rattle.receive.specs.Answers.{asks, closing, leaving, on_section_close, on_file_close, on_segment, on_answered, receive, to_send}
use Rattle.receive.specs.declared.Sent.TheVariants.{Acknowledgement}
use Rattle.receive.specs.declared.Receiver.{Receiver}
use Rattle.receive.specs.declared.ReceiverAnswer.TheVariants.{Running, Complete, FileChecksum, Err}
use Rattle.receive.proofs.StoreLaws.{written_after, staged_part, kept_part}
use Rattle.asdu.specs.declared.Unspecified.{Unspecified}

-- an answer to what was asked is acted upon
pub answer_heard : (r : Receiver) (store : List ℕ) (h : Header) (unknown : Option Unspecified) (f : Frame) (beside : List ℕ)
    → store_agrees r store ≡ true → r.done ≡ false → on_answer r.procedure h unknown (D.Frame f) beside (awaited r) ≡ Ok A.Answered
    → receive r store h unknown (D.Frame f) beside ≡ on_answered r store beside f
unfolding receive when
answer_heard r store h unknown f beside agrees goes admitted = simp (agrees, goes, admitted)

-- a whole file is acknowledged, and so is one whose sum differs
pub completion_sends : (r : Receiver) (h : Held) (nos : Nos) (n : ℕ) → to_send (stepped (closing r h (Acknowledgement 1 nos)) (Complete n)) ≡ Some (acknowledge r 1 nos)
unfolding to_send awaited when
completion_sends r h nos n = refl

pub rejection_sends : (r : Receiver) (h : Held) (nos : Nos) (expected got : Chs)
    → to_send (stepped (closing r h (Acknowledgement 2 nos)) (FileChecksum expected got)) ≡ Some (acknowledge r 2 nos)
unfolding to_send awaited when
rejection_sends r h nos expected got = refl

module _ (r : Receiver) (acc sec rest : List ℕ) (kept : r.kept ≡ length acc) (staged : r.staged ≡ length sec) where
  abbrev store : List ℕ
  store = acc ++ (sec ++ rest)

  -- the store holds them
  all_held : leb (length acc + length sec) (length store) ≡ true
  all_held =
      let whole : length acc + length sec ≤ length store = simp length-append (omega arith) in
      le-leb _ _ whole

  -- a section's close: the sum of what is under way accepts it, any other drops it
  pub section_accepted : (nos : Nos) (chs : Chs) → checksum sec ≡ chs.value
      → on_section_close r store nos chs ≡ asks (holding r (length acc + length sec) 0) (Acknowledgement 3 nos)
  unfolding on_section_close section_closed when
  section_accepted nos chs e = simp (kept, staged, all_held, staged_part acc sec rest, eq-eqb (checksum sec) chs.value e)

  pub section_dropped : (nos : Nos) (chs : Chs) → checksum sec ≢ chs.value
      → on_section_close r store nos chs ≡ asks (holding r (length acc) 0) (Acknowledgement 4 nos)
  unfolding on_section_close section_closed when
  section_dropped nos chs e = simp (kept, staged, all_held, staged_part acc sec rest, ne_eqb (checksum sec) chs.value e)

  -- the file's close: the sum of what is accepted, whatever is under way
  pub file_accepted : (nos : Nos) (chs : Chs) → checksum acc ≡ chs.value
      → on_file_close r store nos chs ≡ stepped (closing r (holds (length acc) 0) (Acknowledgement 1 nos)) (Complete (length acc))
  unfolding on_file_close file_closed when
  file_accepted nos chs e = simp (kept, staged, all_held, kept_part acc sec rest, eq-eqb (checksum acc) chs.value e)

  -- a segment is written behind what is under way where the rest can take it, and is refused exactly where it cannot
  room_test : (o : List ℕ) → leb (length acc + length sec + length o) (length store) ≡ leb (length o) (length rest)
  room_test o = by_test (dec_le (length o) (length rest))
    where
      by_test : Dec (length o ≤ length rest) → leb (length acc + length sec + length o) (length store) ≡ leb (length o) (length rest)
      by_test (yes h) =
          let room : length acc + length sec + length o ≤ length store = simp length-append (omega arith) in
          le-leb _ _ room ∙ sym (le-leb _ _ h)
      by_test (no h) =
          let full : length rest < length o = omega arith in
          let none : length store < length acc + length sec + length o = simp length-append (omega arith) in
          lt-leb _ _ none ∙ sym (lt-leb _ _ full)

  pub segment : (o : List ℕ)
      → on_segment r store o
      ≡ unless (leb (length o) (length rest)) (leaving store (stepped r (Err E.StoreFull)))
      (leaving (acc ++ ((sec ++ o) ++ drop (length o) rest)) (stepped (holding r (length acc) (length sec + length o)) Running))
  unfolding on_segment
  segment o = simp (kept, staged, room_test o, written_after acc sec rest o)

  pub segment_taken : (o : List ℕ) → length o ≤ length rest
      → on_segment r store o
      ≡ leaving (acc ++ ((sec ++ o) ++ drop (length o) rest)) (stepped (holding r (length acc) (length sec + length o)) Running)
  segment_taken o fits = segment o ∙ when_true _ _ _ (le-leb (length o) (length rest) fits)
