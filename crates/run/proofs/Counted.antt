-- Whether a transfer is over is told by counts: a reply has a frame at an index exactly where that is below its count.
use Prim.Native.Nat.{ℕ, ◌+◌}
use mathlib.Core.Path.{◌≡◌, refl, sym}
use mathlib.Core.Bool.{Bool, true, false}
use mathlib.Core.List.{List}
use native.Mathlib.Omega.{arith}
use lib.Dec.{eqb, ltb, leb}
use borrow.Author.Tests.{eqb-true, eqb-false, ltb-true, ltb-false, le-leb, lt-leb}
use Rattle.std.specs.Prelude.{Result, Option, Err}
use Rattle.laws.specs.When.{when}
use Rattle.laws.proofs.Decide.{whens}
use Rattle.laws.proofs.Choices.{by_test}
use Rattle.frame.specs.declared.Frame.{Frame}
use Rattle.asdu.specs.declared.Nos.{Nos}
use Rattle.asdu.specs.declared.FtError.TheVariants as E
use Rattle.provide.specs.Record.{file_agrees}
use Rattle.provide.specs.Replies.{segment_count, count_of, only, section_frame, frame_at, reply_count, reply_frame}
use Rattle.provide.specs.declared.Provider.{Provider}
use Rattle.requests.specs.declared.Reply.{Reply}
use Rattle.requests.specs.declared.Reply.TheVariants.{Nothing, FileReady, SectionReady, Section, FileClose}
use Rattle.receive.specs.declared.Receiver.{Receiver}
use Rattle.twoparty.specs.Party.{from_reply, first, next_frame}
use Rattle.twoparty.specs.declared.TwoParty.{TwoParty}
use Rattle.twoparty.specs.declared.Queue.{Queue}
use Rattle.twoparty.specs.declared.Queue.TheVariants as Q
use Rattle.twoparty.specs.declared.NextFrame.{NextFrame}
use Rattle.run.specs.Loop.{is_nothing, is_over, is_past, is_over_by}
use Rattle.asdu.specs.declared.FtError.{FtError}

-- there is no such frame
abbrev no_frame : Result Frame FtError → Bool
no_frame x = is_nothing (from_reply x)

only_past : (f : Frame) (i : ℕ) → no_frame (only f i) ≡ leb 1 i
unfolding only
only_past f i =
    by_test (λ x. no_frame x ≡ leb 1 i) (eqb i 0) _ _ (λ e. sym (lt-leb 1 i (omega (arith, eqb-true i 0 e))))
    (λ e. sym (le-leb 1 i (omega (arith, eqb-false i 0 e))))

section_past : (p : Provider) (file : List ℕ) (nos : Nos) (i : ℕ) → no_frame (section_frame p file nos i) ≡ leb (segment_count p file nos + 1) i
unfolding section_frame
section_past p file nos i =
    let c = segment_count p file nos in
    by_test (λ x. no_frame x ≡ leb (c + 1) i) (ltb i c) _ _ (λ e. sym (lt-leb (c + 1) i (omega (arith, ltb-true i c e))))
    (λ e.
    by_test (λ x. no_frame x ≡ leb (c + 1) i) (eqb i c) _ _ (λ q. sym (lt-leb (c + 1) i (omega (arith, eqb-true i c q))))
    (λ q. sym (le-leb (c + 1) i (omega (arith, ltb-false i c e, eqb-false i c q)))))

frame_past : (p : Provider) (file : List ℕ) (r : Reply) (i : ℕ) → no_frame (frame_at p file r i) ≡ leb (count_of p file r) i
frame_past p file Nothing i = sym (le-leb 0 i (omega arith))
frame_past p file FileReady i = only_past _ i
frame_past p file (SectionReady nos) i = only_past _ i
frame_past p file (Section nos) i = section_past p file nos i
frame_past p file (FileClose nos) i = only_past _ i

module _ (p : Provider) (file : List ℕ) where
  reply_past : (r : Reply) (i : ℕ) → file_agrees p file ≡ true → no_frame (reply_frame p file r i) ≡ is_past (reply_count p file r) i
  unfolding reply_frame reply_count
  reply_past r i e = simp (whens, e) (frame_past p file r i)

  apart_past : (r : Reply) (i : ℕ) → file_agrees p file ≡ false → true ≡ is_past (reply_count p file r) i
  unfolding reply_count
  apart_past r i e = simp (whens, e)

  over_by : (x : Result (Option NextFrame) FtError) (q : Queue)
      → (file_agrees p file ≡ true → is_nothing x ≡ is_over_by p file q) → (file_agrees p file ≡ false → true ≡ is_over_by p file q)
      → is_nothing (when (file_agrees p file) x (Err E.RecordMismatch)) ≡ is_over_by p file q
  over_by x q h k = by_test (λ y. is_nothing y ≡ is_over_by p file q) (file_agrees p file) x (Err E.RecordMismatch) h k

  by_queue : (r : Receiver) (q : Queue) → is_nothing (when (file_agrees p file) (first p r file q) (Err E.RecordMismatch)) ≡ is_over_by p file q
  by_queue r Q.Empty = over_by _ Q.Empty (λ e. refl) (λ e. refl)
  by_queue r Q.Receiver = over_by _ Q.Receiver (λ e. rw e refl) (λ e. rw e refl)
  by_queue r (Q.Provider reply i damaged) = over_by _ (Q.Provider reply i damaged) (reply_past reply i) (apart_past reply i)

pub over_counted : (t : TwoParty) (file : List ℕ) → is_over t file ≡ is_over_by t.provider file t.queue
unfolding is_over next_frame
over_counted t file = by_queue t.provider file t.receiver t.queue
