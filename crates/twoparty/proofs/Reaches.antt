-- How far a Provider's replies reach, on every record: no frame is found past index 0xFFFFFF, nor where record and file disagree.
use Prim.Native.Nat.{ℕ, ◌≤◌}
use mathlib.Core.Path.{◌≡◌, refl}
use mathlib.Core.Bool.{Bool, true, false}
use mathlib.Core.List.{List}
use native.Mathlib.Omega.{arith}
use lib.Dec.{eqb, ltb}
use lib.ListN.{length}
use borrow.Author.Tests.{eqb-true, ltb-true, leb-true}
use Rattle.std.specs.Prelude.{Err, Ok, Result}
use Rattle.laws.specs.When.{when}
use Rattle.asdu.specs.declared.Nos.{Nos}
use Rattle.asdu.specs.declared.FtError.{FtError}
use Rattle.frame.specs.declared.Frame.{Frame}
use Rattle.provide.specs.Record.{file_agrees}
use Rattle.provide.specs.Replies.{octets_of, limit_of, segment_count, only, section_frame, frame_at, reply_frame}
use Rattle.provide.specs.declared.Provider.{Provider}
use Rattle.requests.specs.declared.Reply.{Reply}
use Rattle.requests.specs.declared.Reply.TheVariants.{Nothing, FileReady, SectionReady, Section, FileClose}
use Rattle.provide.proofs.Making.{agrees}
use Rattle.sections.proofs.SectionLaws.{section_within}
use Rattle.sections.proofs.Cuts.{ceil_most}

-- a frame that is found past a test
found : (b : Bool) (e : FtError) (x : Result Frame FtError) (f : Frame) → when b x (Err e) ≡ Ok f → (b ≡ true) × (x ≡ Ok f)
unfolding when
found true e x f h = (refl, h)
found false e x f h = (cc, cc)

only_below : (g : Frame) (i : ℕ) (f : Frame) → only g i ≡ Ok f → i ≤ 0xFFFFFF
unfolding only
only_below g i f h = omega (arith, eqb-true i 0 (found (eqb i 0) _ (Ok g) f h).0)

either_below : (i n : ℕ) (a : Bool) (x : Result Frame FtError) (g f : Frame)
    → (a ≡ true → i ≤ n) → (x ≡ Ok f → i ≤ n) → when a (Ok g) x ≡ Ok f → i ≤ n
unfolding when
either_below i n true x g f h k q = h refl
either_below i n false x g f h k q = k q

module _ (p : Provider) (file : List ℕ) (agreed : file_agrees p file ≡ true) where
  count_most : (nos : Nos) → segment_count p file nos ≤ 0xFFFFFF
  unfolding segment_count
  count_most nos =
      let g = agrees p file agreed in
      omega (
        arith,
        ceil_most (length (octets_of p file nos)) (limit_of p),
        section_within p.section_len file nos.value,
        leb-true p.length 0xFFFFFF g.short,
        g.length,
      )

  section_below : (nos : Nos) (i : ℕ) (f : Frame) → section_frame p file nos i ≡ Ok f → i ≤ 0xFFFFFF
  unfolding section_frame
  section_below nos i f h =
      let most = count_most nos in
      either_below i 0xFFFFFF (ltb i (segment_count p file nos)) _ _ f
      (λ e. omega (arith, ltb-true i (segment_count p file nos) e))
      (λ q. omega (arith, eqb-true i (segment_count p file nos) (found (eqb i (segment_count p file nos)) _ _ f q).0))
      h

  frame_at_below : (r : Reply) (i : ℕ) (f : Frame) → frame_at p file r i ≡ Ok f → i ≤ 0xFFFFFF
  frame_at_below Nothing i f h = let z : ◌≡◌ {A = ℕ} 0 1 = cc in absurd (omega arith)
  frame_at_below FileReady i f h = only_below _ i f h
  frame_at_below (SectionReady nos) i f h = only_below _ i f h
  frame_at_below (Section nos) i f h = section_below nos i f h
  frame_at_below (FileClose nos) i f h = only_below _ i f h

pub frame_below : (p : Provider) (file : List ℕ) (r : Reply) (i : ℕ) (f : Frame) → reply_frame p file r i ≡ Ok f → i ≤ 0xFFFFFF
unfolding reply_frame
frame_below p file r i f h = let q = found (file_agrees p file) _ (frame_at p file r i) f h in frame_at_below p file q.0 r i f q.1

-- a frame is found only where the record and the file agree
pub frame_agreed : (p : Provider) (file : List ℕ) (r : Reply) (i : ℕ) (f : Frame) → reply_frame p file r i ≡ Ok f → file_agrees p file ≡ true
unfolding reply_frame
frame_agreed p file r i f h = (found (file_agrees p file) _ (frame_at p file r i) f h).0
