-- What writing a page answers and leaves in the buffer, test by test.
use Prim.Native.Nat.{ℕ, ◌*◌, ◌/◌, ◌≤◌, ◌<◌}
use mathlib.Core.Bool.{true}
use mathlib.Core.Path.{◌≡◌}
use mathlib.Core.List.{List}
use native.Mathlib.Omega.{arith}
use lib.ListN.{length}
use borrow.Author.Tests.{le-leb, lt-leb}
use Rattle.std.specs.Prelude.{Err, Ok}
use Rattle.laws.proofs.Decide.{whens}
use Rattle.asdu.specs.declared.FtError.{FtError}
use Rattle.asdu.specs.declared.FtError.TheVariants.{ValueOutOfRange, NotPrintable, PageTooShort}
use Rattle.script.specs.Answers.{over}
use Rattle.script.proofs.Decimals.{either}
use Rattle.directory_page.specs.Page.{all_right, all_printable, page_text, page_fits, print_answer, page_after}
use Rattle.directory_page.specs.Judging.{judged_as}
use Rattle.directory_page.proofs.Pages.{page_long}

module _ (o : List ℕ) where
  -- the entries are refused
  pub told_refused : (x : FtError) (buffer : List ℕ) → Err x ≡ judged_as o → (Err x ≡ print_answer o (length buffer)) × (buffer ≡ page_after o buffer)
  unfolding judged_as print_answer page_after
  told_refused x buffer told =
      either (all_right o)
      (λ right.
      either (all_printable o)
      (λ fine. let other : Err x ≡ (Ok tt) = simp (whens, right, fine) at told in let z : ◌≡◌ {A = ℕ} 0 1 = cc in absurd (omega arith))
      (λ large. let same : Err x ≡ Err NotPrintable = simp (whens, right, large) at told in let e : x ≡ NotPrintable = cc in (simp (whens, right, large, e), simp (whens, right, large))))
      (λ wrong. let same : Err x ≡ Err ValueOutOfRange = simp (whens, wrong) at told in let e : x ≡ ValueOutOfRange = cc in (simp (whens, wrong, e), simp (whens, wrong)))

  -- the entries can be printed
  pub told_fine : (Ok tt) ≡ judged_as o → (all_right o ≡ true) × (all_printable o ≡ true)
  unfolding judged_as
  told_fine told =
      either (all_right o)
      (λ right.
      either (all_printable o) (λ fine. (right, fine))
      (λ large. let other : (Ok tt) ≡ Err NotPrintable = simp (whens, right, large) at told in let z : ◌≡◌ {A = ℕ} 0 1 = cc in absurd (omega arith)))
      (λ wrong. let other : (Ok tt) ≡ Err ValueOutOfRange = simp (whens, wrong) at told in let z : ◌≡◌ {A = ℕ} 0 1 = cc in absurd (omega arith))

  module _ (fine : (all_right o ≡ true) × (all_printable o ≡ true)) (buffer : List ℕ) where
    -- and have no room in the buffer
    pub told_short : length buffer < 53 * (length o / 17) → (Err PageTooShort ≡ print_answer o (length buffer)) × (buffer ≡ page_after o buffer)
    unfolding print_answer page_after page_fits
    told_short h =
        let short = lt-leb (length (page_text o)) (length buffer) (rw (page_long o) h) in
        (simp (whens, fine.0, fine.1, short), simp (whens, fine.0, fine.1, short))

    -- or have it
    pub told_written : 53 * (length o / 17) ≤ length buffer
        → (Ok (53 * (length o / 17)) ≡ print_answer o (length buffer)) × (over (page_text o) buffer ≡ page_after o buffer)
    unfolding print_answer page_after page_fits
    told_written h =
        let room = le-leb (length (page_text o)) (length buffer) (rw (page_long o) h) in
        (simp (whens, fine.0, fine.1, room) (rw (page_long o)), simp (whens, fine.0, fine.1, room))

-- a refusal leaves the buffer as it came in
pub refusal_keeps : (o buffer : List ℕ) (x : FtError) → print_answer o (length buffer) ≡ Err x → page_after o buffer ≡ buffer
unfolding print_answer page_after
refusal_keeps o buffer x refused =
    either (all_right o)
    (λ right.
    either (all_printable o)
    (λ fine.
    either (page_fits o (length buffer))
    (λ room. let other : Ok (length (page_text o)) ≡ Err x = simp (whens, right, fine, room) at refused in let z : ◌≡◌ {A = ℕ} 0 1 = cc in absurd (omega arith))
    (λ short. simp (whens, right, fine, short)))
    (λ large. simp (whens, right, large)))
    (λ wrong. simp (whens, wrong))
