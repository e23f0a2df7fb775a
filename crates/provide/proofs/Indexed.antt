-- A reply by count and index is the list of its frames.
use Prim.Native.Nat.{ℕ, zero, suc, ◌+◌, ◌-◌, ◌≤◌, ◌<◌}
use mathlib.Core.Path.{◌≡◌, refl, sym, ap, ◌∙◌}
use mathlib.Core.Bool.{true}
use mathlib.Core.List.{List, [], ◌∷◌, map}
use native.Mathlib.Omega.{arith}
use native.Mathlib.Decide.{dec_lt}
use lib.ListN.{length, get_or, length-append, length-map, get_or-append, get_or-map}
use lib.Seq.{get_or_at}
use borrow.Author.Tests.{lt-ltb, le-ltb, eq-eqb, ne_eqb}
use Rattle.std.specs.Prelude.{Err, Ok}
use Rattle.laws.specs.When.{when}
use Rattle.lists.proofs.Parts.{length-parts, part_at_lem}
use Rattle.asdu.specs.declared.Nos.{Nos}
use Rattle.asdu.specs.declared.FtError.TheVariants as E
use Rattle.frame.specs.declared.Frame.{Frame}
use Rattle.sections.specs.Sections.{segments, segment_octets, part_octets}
use Rattle.provide.specs.Record.{file_agrees}
use Rattle.provide.specs.Replies.{Packet, bare, octets_of, limit_of, segment_packet, close_frame, replies, segment_count, count_of, reply_count, only, segment_of, section_frame, frame_at, reply_frame, only_part, section_part, part_at, reply_payload, payload_of}
use Rattle.provide.specs.declared.Provider.{Provider}
use Rattle.requests.specs.declared.Reply.{Reply}
use Rattle.requests.specs.declared.Reply.TheVariants.{Nothing, FileReady, SectionReady, Section, FileClose}
use Rattle.sections.proofs.SectionLaws.{segment_part}

-- frame and payload of an index are those of a packet
abbrev Is : Provider → List ℕ → Reply → ℕ → Packet → Type 0
Is p file r i x = (frame_at p file r i ≡ Ok x.frame) × (payload_of file (part_at p file r i) ≡ x.payload)

pub count_is : (p : Provider) (file : List ℕ) (r : Reply) → count_of p file r ≡ length (replies p file r)
unfolding segments segment_count
count_is p file Nothing = refl
count_is p file FileReady = refl
count_is p file (SectionReady nos) = refl
count_is p file (Section nos) = simp (length-append, length-map, length-parts)
count_is p file (FileClose nos) = refl

any_default : {A : Type 0} (l : List A) (i : ℕ) (d e : A) → i < length l → get_or l i d ≡ get_or l i e
any_default [] i d e h = absurd (omega arith)
any_default (x ∷ l) zero d e h = refl
any_default (x ∷ l) (suc i) d e h = any_default l i d e (omega arith)

only_first : (f : Frame) → only f 0 ≡ Ok f
unfolding only when
only_first f = refl

only_one : (f : Frame) (i : ℕ) → 1 ≤ i → only f i ≡ Err E.IndexOutOfRange
unfolding only when
only_one f i h = simp (ne_eqb i 0 (λ e. omega arith))

-- beside the one frame of a reply
only_bare : (file : List ℕ) → payload_of file (only_part 0) ≡ []
unfolding only_part part_octets when
only_bare file = refl

only_none : (i : ℕ) → 1 ≤ i → only_part i ≡ Err E.IndexOutOfRange
unfolding only_part when
only_none i h = simp (ne_eqb i 0 (λ e. omega arith))

module _ (p : Provider) (file : List ℕ) (nos : Nos) where
  abbrev o : List ℕ
  o = octets_of p file nos

  abbrev many : ℕ
  many = segment_count p file nos

  abbrev cut : List Packet
  cut = map (segment_packet p nos) (segments (limit_of p) o)

  cut_length : length cut ≡ many
  unfolding segments segment_count
  cut_length = simp (length-map, length-parts)

  segment_at : (i : ℕ) (d : Packet) → i < many → get_or (replies p file (Section nos)) i d ≡ segment_packet p nos (segment_of p file nos i)
  unfolding segments segment_count segment_octets
  segment_at i d h =
      let within : i < length cut = rw cut_length h in
      get_or-append cut _ d i within
      ∙ any_default cut i d (segment_packet p nos []) within
      ∙ get_or-map (segment_packet p nos) (segments (limit_of p) o) i [] ∙ ap (segment_packet p nos) (part_at_lem many (limit_of p) o i h)

  close_at : (d : Packet) → get_or (replies p file (Section nos)) many d ≡ bare (close_frame p nos 3 o)
  close_at d = get_or_at cut (bare (close_frame p nos 3 o)) [] d many cut_length

  section_at : (i : ℕ) (d : Packet) → i < many + 1 → Is p file (Section nos) i (get_or (replies p file (Section nos)) i d)
  unfolding section_frame section_part part_octets when
  section_at i d h = by_test (dec_lt i many)
    where
      by_test : Dec (i < many) → Is p file (Section nos) i (get_or (replies p file (Section nos)) i d)
      by_test (yes lt) = rw (segment_at i d lt) (simp (lt-ltb i many lt), simp (lt-ltb i many lt) (sym (segment_part p.section_len (limit_of p) file nos.value i)))
      by_test (no ge) =
          let last : i ≡ many = omega arith in
          let first : many - many ≡ 0 = omega arith in
          rw last (rw (close_at d) (simp (le-ltb many many (omega arith), eq-eqb many many refl), simp (le-ltb many many (omega arith), first) (only_bare file)))

  section_past : (i : ℕ) → many + 1 ≤ i → section_frame p file nos i ≡ Err E.IndexOutOfRange
  unfolding section_frame when
  section_past i h = simp (le-ltb i many (omega arith), ne_eqb i many (λ e. omega arith))

  none_past : (i : ℕ) → many + 1 ≤ i → section_part p file nos i ≡ Err E.IndexOutOfRange
  unfolding section_part when
  none_past i h = simp (le-ltb i many (omega arith)) (only_none (i - many) (omega arith))

frame_is : (p : Provider) (file : List ℕ) (r : Reply) (i : ℕ) (d : Packet) → i < count_of p file r → Is p file r i (get_or (replies p file r) i d)
frame_is p file Nothing i d h = absurd (omega arith)
frame_is p file FileReady zero d h = (only_first _, only_bare file)
frame_is p file FileReady (suc i) d h = absurd (omega arith)
frame_is p file (SectionReady nos) zero d h = (only_first _, only_bare file)
frame_is p file (SectionReady nos) (suc i) d h = absurd (omega arith)
frame_is p file (Section nos) i d h = section_at p file nos i d h
frame_is p file (FileClose nos) zero d h = (only_first _, only_bare file)
frame_is p file (FileClose nos) (suc i) d h = absurd (omega arith)

frame_past : (p : Provider) (file : List ℕ) (r : Reply) (i : ℕ) → count_of p file r ≤ i → frame_at p file r i ≡ Err E.IndexOutOfRange
frame_past p file Nothing i h = refl
frame_past p file FileReady i h = only_one _ i h
frame_past p file (SectionReady nos) i h = only_one _ i h
frame_past p file (Section nos) i h = section_past p file nos i h
frame_past p file (FileClose nos) i h = only_one _ i h

part_past : (p : Provider) (file : List ℕ) (r : Reply) (i : ℕ) → count_of p file r ≤ i → part_at p file r i ≡ Err E.IndexOutOfRange
part_past p file Nothing i h = refl
part_past p file FileReady i h = only_none i h
part_past p file (SectionReady nos) i h = only_none i h
part_past p file (Section nos) i h = none_past p file nos i h
part_past p file (FileClose nos) i h = only_none i h

-- of a record and file that agree: the count is the list's length; the frame and payload of an index below it are those of the list; any other index is 9
pub record Agree (p : Provider) (file : List ℕ) (r : Reply) : Type 0 where
  pub count : reply_count p file r ≡ Ok (length (replies p file r))
  pub frame : (i : ℕ) (d : Packet) → i < length (replies p file r) → reply_frame p file r i ≡ Ok (get_or (replies p file r) i d).frame
  pub payload : (i : ℕ) (d : Packet) → i < length (replies p file r) → payload_of file (reply_payload p file r i) ≡ (get_or (replies p file r) i d).payload
  pub past : (i : ℕ) → length (replies p file r) ≤ i → reply_frame p file r i ≡ Err E.IndexOutOfRange
  pub payload_past : (i : ℕ) → length (replies p file r) ≤ i → reply_payload p file r i ≡ Err E.IndexOutOfRange

pub replies_agree : (p : Provider) (file : List ℕ) (r : Reply) → file_agrees p file ≡ true → Agree p file r
unfolding reply_count reply_frame reply_payload when
replies_agree p file r e =
    record {
      count = simp (e, count_is p file r);
      frame = λ i d h. simp e (frame_is p file r i d (rw (count_is p file r) h)).0;
      payload = λ i d h. simp e (frame_is p file r i d (rw (count_is p file r) h)).1;
      past = λ i h. simp e (frame_past p file r i (rw (count_is p file r) h));
      payload_past = λ i h. simp e (part_past p file r i (rw (count_is p file r) h));
    }
