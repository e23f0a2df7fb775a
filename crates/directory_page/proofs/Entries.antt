-- Entries judged one after the other: what unpacking tells of one, and of those that are left.
use Prim.Native.Nat.{ℕ, zero, suc, ◌+◌, ◌*◌, ◌-◌, ◌/◌, ◌%◌, ◌<◌}
use mathlib.Core.Bool.{Bool, true, false}
use mathlib.Core.Path.{◌≡◌, ◌∙◌}
use mathlib.Core.List.{List, ◌++◌}
use native.Mathlib.Omega.{arith}
use lib.Dec.{eqb}
use lib.ListN.{length, take, drop, length-append, length-drop}
use lib.Seq.{drop-drop, take_at, drop_at}
use borrow.Author.Tests.{eq-eqb, ne_eqb}
use Rattle.std.specs.Prelude.{Err, Ok}
use Rattle.laws.specs.When.{when, ◌and◌}
use Rattle.laws.proofs.Decide.{whens}
use Rattle.lists.specs.Parts.{parts}
use Rattle.asdu.specs.Entry.{entry_of, reserved_clear, unpacked}
use Rattle.asdu.specs.declared.DirectoryEntry.{DirectoryEntry}
use Rattle.asdu.specs.declared.FtError.{FtError}
use Rattle.asdu.specs.declared.FtError.TheVariants.{ValueOutOfRange}
use Rattle.asdu.proofs.Page.{to_the_end}
use Rattle.asdu.proofs.Range.{both}
use Rattle.script.proofs.Decimals.{either}
use Rattle.directory_page.specs.Judging.{judged_as}
use Rattle.directory_page.specs.Page.{stored_entries, every, is_clear, all_right, is_printable, all_printable}

-- ---- one entry of 17 octets, unpacked from its fifth on

module _ (s : List ℕ) (long : length s ≡ 17) where
  thirteen : eqb (length (drop 4 s)) 13 ≡ true
  thirteen = eq-eqb (length (drop 4 s)) 13 (rw (length-drop, long))

  pub entry_told : (e : DirectoryEntry) → Ok e ≡ unpacked (take (length s - 4) (drop 4 s)) → (is_clear s ≡ true) × (e ≡ entry_of (drop 4 s))
  unfolding is_clear unpacked
  entry_told e told =
      let h = rw (to_the_end s 4) at told in
      either (reserved_clear (drop 4 s))
      (λ b. let same : Ok e ≡ Ok (entry_of (drop 4 s)) = simp (whens, thirteen, b) at h in (b, cc))
      (λ b. let other : Ok e ≡ Err ValueOutOfRange = simp (whens, thirteen, b) at h in let z : ◌≡◌ {A = ℕ} 0 1 = cc in absurd (omega arith))

  pub entry_refused : (x : FtError) → Err x ≡ unpacked (take (length s - 4) (drop 4 s)) → is_clear s ≡ false
  unfolding is_clear unpacked
  entry_refused x told =
      let h = rw (to_the_end s 4) at told in
      either (reserved_clear (drop 4 s))
      (λ b. let other : Err x ≡ Ok (entry_of (drop 4 s)) = simp (whens, thirteen, b) at h in let z : ◌≡◌ {A = ℕ} 0 1 = cc in absurd (omega arith))
      (λ b. b)

-- and a refusal is always 4
pub refused_by : (o : List ℕ) (x : FtError) → Err x ≡ unpacked o → x ≡ ValueOutOfRange
unfolding unpacked
refused_by o x told =
    either (eqb (length o) 13 and reserved_clear o)
    (λ b. let other : Err x ≡ Ok (entry_of o) = simp (whens, b) at told in let z : ◌≡◌ {A = ℕ} 0 1 = cc in absurd (omega arith))
    (λ b. let same : Err x ≡ Err ValueOutOfRange = simp (whens, b) at told in cc)

-- for the proof of the function that prints one
pub ruleset unpacking = (entry_told, entry_refused)

-- ---- the entries that are left

-- one entry, and those after it
pub every_next : (p : List ℕ → Bool) (o : List ℕ) (at n : ℕ) → 0 < n
    → every p (parts n 17 (drop at o)) ≡ (p (take 17 (drop at o)) and every p (parts (n - 1) 17 (drop (at + 17) o)))
every_next p o at zero h = absurd (omega arith)
every_next p o at (suc n) h = let e : suc n - 1 ≡ n = omega arith in rw (drop-drop 17 at o, e)

-- each of them, where all are right
every_at : (p : List ℕ → Bool) (n : ℕ) (o : List ℕ) → every p (parts n 17 o) ≡ true → (i : ℕ) → i < n → p (take 17 (drop (17 * i) o)) ≡ true
every_at p zero o h i less = absurd (omega arith)
every_at p (suc n) o h zero less = (both _ _ h).0
every_at p (suc n) o h (suc i) less =
    let place : 17 + 17 * i ≡ 17 * suc i = omega arith in
    rw (drop-drop (17 * i) 17 o, place) at (every_at p n (drop 17 o) (both _ _ h).1 i (omega arith))

pub clear_at : (o : List ℕ) (i : ℕ) → i < length o / 17 → all_right o ≡ true → is_clear (take 17 (drop (17 * i) o)) ≡ true
unfolding all_right stored_entries
clear_at o i less right = every_at is_clear (length o / 17) o (both _ _ right).1 i less

-- ---- entries judged one after the other

pub right_odd : (o : List ℕ) → (length o % 17 ≡ 0 → ⊥) → all_right o ≡ false
unfolding all_right
right_odd o h = simp (whens, ne_eqb _ _ h)

-- none is left
module _ (o : List ℕ) (none : length o < 17) where
  pub right_none : length o % 17 ≡ 0 → all_right o ≡ true
  unfolding all_right stored_entries
  right_none whole = let n : length o / 17 ≡ 0 = omega arith in simp (whens, eq-eqb _ _ whole, n)

  pub fine_none : all_printable o ≡ true
  unfolding all_printable stored_entries
  fine_none = let n : length o / 17 ≡ 0 = omega arith in rw n

-- one entry, and those after it
module _ (s rest : List ℕ) (long : length s ≡ 17) where
  pub rest_whole : length (s ++ rest) % 17 ≡ 0 → length rest % 17 ≡ 0
  rest_whole h = let n : (17 + length rest) % 17 ≡ 0 = rw (length-append, long) at h in omega arith

  pub right_next : length rest % 17 ≡ 0 → all_right (s ++ rest) ≡ (is_clear s and all_right rest)
  unfolding all_right stored_entries
  right_next whole =
      let n : (17 + length rest) / 17 ≡ suc (length rest / 17) = omega arith in
      let m : (17 + length rest) % 17 ≡ 0 = omega arith in
      rw (length-append, long, n) (simp (whens, eq-eqb _ _ whole, eq-eqb _ _ m, take_at s rest 17 long, drop_at s rest 17 long))

  pub fine_next : all_printable (s ++ rest) ≡ (is_printable s and all_printable rest)
  unfolding all_printable stored_entries
  fine_next =
      let n : (17 + length rest) / 17 ≡ suc (length rest / 17) = omega arith in
      rw (length-append, long, n, take_at s rest 17 long, drop_at s rest 17 long)

-- the next entry has a reserved bit set
pub judged_set : (o left s rest : List ℕ) (x : FtError) → all_right o ≡ all_right left → left ≡ s ++ rest → length s ≡ 17 → length left % 17 ≡ 0
    → Err x ≡ unpacked (take (length s - 4) (drop 4 s)) → Err x ≡ judged_as o
unfolding judged_as
judged_set o left s rest x right e long whole told =
    let rest_too = rest_whole s rest long (rw e at whole) in
    let set : all_right o ≡ false = right ∙ rw (e, right_next s rest long rest_too) (simp (whens, entry_refused s long x told)) in
    rw (refused_by _ x told) (simp (whens, set))

-- a test more
pub and_then : (a b c d : Bool) → d ≡ (a and b) → (a and (b and c)) ≡ (d and c)
unfolding when
and_then true b c d e = rw e
and_then false b c d e = rw e

-- for the proof of the function that judges
pub ruleset judging = (right_odd, right_none, fine_none, rest_whole, right_next, fine_next, entry_told, entry_refused, refused_by, whens)
