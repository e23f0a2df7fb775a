-- A page line by line: how long it is, one line more, and the page of joined entries.
use Prim.Native.Nat.{ℕ, zero, suc, ◌+◌, ◌*◌, ◌/◌, ◌%◌, ◌≤◌, ◌<◌}
use mathlib.Core.Bool.{true}
use mathlib.Core.Path.{◌≡◌, refl, ◌∙◌}
use mathlib.Core.List.{List, ◌++◌, map, append_assoc, append-nil}
use native.Mathlib.Nat.{suc-add, zero-add}
use native.Mathlib.Omega.{arith}
use borrow.Rule.Slice.PartMut.{put_mid}
use lib.ListN.{length, take, drop, length-append, length-drop}
use lib.Seq.{drop-drop, take_at, drop_at, take-append-le, drop-append-le}
use Rattle.lists.specs.Parts.{parts, joined}
use Rattle.store.specs.Store.{written}
use Rattle.store.proofs.Written.{written_lent, written_twice}
use Rattle.script.specs.Answers.{over}
use Rattle.directory_page.specs.Page.{stored_entries, is_clear, all_right, entry_line, page_text}
use Rattle.directory_page.proofs.Lines.{line_long}
use Rattle.directory_page.proofs.Entries.{clear_at}

-- the lines of the first n entries
abbrev pub lines_of : ℕ → List ℕ → List ℕ
lines_of n o = joined (map entry_line (parts n 17 o))

pub entry_line_long : (s : List ℕ) → length (entry_line s) ≡ 53
unfolding entry_line
entry_line_long s = line_long _ _

pub lines_long : (n : ℕ) (o : List ℕ) → length (lines_of n o) ≡ 53 * n
lines_long zero o = refl
lines_long (suc n) o = rw (length-append, entry_line_long (take 17 o), lines_long n (drop 17 o)) (omega arith)

-- a page has 53 octets for each entry
pub page_long : (o : List ℕ) → length (page_text o) ≡ 53 * (length o / 17)
unfolding page_text stored_entries
page_long o = lines_long (length o / 17) o

-- lines, and those behind them
lines_split : (m n : ℕ) (o : List ℕ) → lines_of (m + n) o ≡ lines_of m o ++ lines_of n (drop (17 * m) o)
lines_split zero n o = rw zero-add
lines_split (suc m) n o =
    let place : 17 + 17 * m ≡ 17 * suc m = omega arith in
    rw (suc-add, lines_split m n (drop 17 o), drop-drop (17 * m) 17 o, place, append_assoc)

pub lines_next : (i : ℕ) (o : List ℕ) → lines_of (i + 1) o ≡ lines_of i o ++ entry_line (take 17 (drop (17 * i) o))
lines_next i o = lines_split i 1 o ∙ rw append-nil

-- what stands behind the entries does not matter
lines_front : (m : ℕ) (o q : List ℕ) → 17 * m ≤ length o → lines_of m (o ++ q) ≡ lines_of m o
lines_front zero o q h = refl
lines_front (suc m) o q h =
    let here : 17 ≤ length o = omega arith in
    let rest : 17 * m ≤ length (drop 17 o) = rw length-drop (omega arith) in
    rw (take-append-le 17 o q here, drop-append-le 17 o q here, lines_front m (drop 17 o) q rest)

-- the page of joined entries is the joined pages
pub page_joined : (o q : List ℕ) → length o % 17 ≡ 0 → page_text (o ++ q) ≡ page_text o ++ page_text q
unfolding page_text stored_entries
page_joined o q whole =
    let m = length o / 17 in
    let n = length q / 17 in
    let all : length o ≡ 17 * m = omega arith in
    let count : length (o ++ q) / 17 ≡ m + n = rw length-append (omega arith) in
    rw (count, lines_split m n (o ++ q), lines_front m o q (omega arith), drop_at o q (17 * m) all)

-- ---- lines written over the front of a page

over_written : (p was : List ℕ) → over p was ≡ written was 0 p
unfolding written
over_written p was = rw zero-add

-- one line more, where the entries that are left are told
module _ (o e rest : List ℕ) (i : ℕ) (left : drop (17 * i) o ≡ e ++ rest) (long : length e ≡ 17) where
  entry_is : take 17 (drop (17 * i) o) ≡ e
  entry_is = rw (left) (take_at e rest 17 long)

  pub left_whole : 17 * (i + 1) ≤ length o
  left_whole = let n : length (drop (17 * i) o) ≡ 17 + length rest = rw (left, length-append, long) in omega (arith, rw length-drop at n)

  pub left_next : rest ≡ drop (17 * (i + 1)) o
  left_next =
      let place : 17 * (i + 1) ≡ 17 * i + 17 = omega arith in
      rw (place, ← (drop-drop 17 (17 * i) o), left, drop_at e rest 17 long)

  pub left_clear : all_right o ≡ true → is_clear e ≡ true
  left_clear right = rw entry_is at (clear_at o i (omega (arith, left_whole)) right)

  pub line_next : (was page line : List ℕ) (n : ℕ) → page ≡ over (lines_of i o) was → line ≡ entry_line e → n ≡ 53 → 53 * (i + 1) ≤ length was
      → put_mid (53 * i) n page line ≡ over (lines_of (i + 1) o) was
  line_next was page line n text entry size room =
      let before : 0 + length (lines_of i o) ≡ 53 * i = rw (lines_long i o) (omega arith) in
      let own : length line ≡ n = rw (entry, size) (entry_line_long e) in
      let all : lines_of (i + 1) o ≡ lines_of i o ++ line = rw (lines_next i o, entry_is, entry) in
      let same : page ≡ written was 0 (lines_of i o) = text ∙ over_written (lines_of i o) was in
      rw (written_lent page (53 * i) n line own, all, over_written (lines_of i o ++ line) was, same, ← before)
      (written_twice was 0 (lines_of i o) line (omega arith))

-- none is left
pub lines_end : (o : List ℕ) (i : ℕ) → 17 * i ≤ length o → length (drop (17 * i) o) < 17 → lines_of i o ≡ page_text o
unfolding page_text stored_entries
lines_end o i whole none = let n : length o / 17 ≡ i = omega (arith, rw length-drop at none) in rw n

-- for the proof of the function that writes them
pub ruleset lines = (left_whole, left_next, left_clear, line_next, lines_end)
