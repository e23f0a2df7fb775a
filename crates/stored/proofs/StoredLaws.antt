-- Entries written into a store one after the other, and the last-file flag read at a place.
use Prim.Native.Nat.{ℕ, zero, suc, ◌+◌, ◌*◌, ◌/◌, ◌≤◌, ◌<◌}
use mathlib.Core.Path.{◌≡◌, refl, ◌∙◌}
use mathlib.Core.Bool.{true, false}
use mathlib.Core.List.{List, ◌++◌, append_assoc, append-nil}
use native.Mathlib.Nat.{add-zero, zero-add, suc-add}
use native.Mathlib.Omega.{arith}
use borrow.Rule.Slice.PartMut.{put_mid}
use lib.ListN.{length, take, drop, get_or, length-append, length-drop}
use lib.Seq.{length-take-le, drop-drop, take_at, drop_at}
use borrow.Author.Tests.{leb-true, eq-eqb, ne_eqb}
use Rattle.laws.proofs.Decide.{whens}
use Rattle.laws.specs.When.{◌or◌}
use Rattle.store.specs.Store.{written}
use Rattle.store.proofs.Written.{written_none, written_twice, written_lent}
use Rattle.asdu.specs.Entry.{bit_of, sof_of, entry_of, entry_address}
use Rattle.stored.specs.Stored.{entries_in, has_last, address_octets, stored_entry, stored_from, page_stored, room_for}

-- where there is room, the octets of all entries are within the store
pub room_is : (held more len : ℕ) → room_for held more len ≡ true → 17 * (held + more) ≤ len
unfolding room_for
room_is held more len e = leb-true _ _ e

-- ---- entries in the store

pub stored_split : (m n k base : ℕ) (o : List ℕ)
    → stored_from (m + n) k base o ≡ stored_from m k base o ++ stored_from n (k + m) base (drop (13 * m) o)
stored_split zero n k base o = rw (zero-add, add-zero)
stored_split (suc m) n k base o =
    let number : suc k + m ≡ k + suc m = omega arith in
    let place : 13 + 13 * m ≡ 13 * suc m = omega arith in
    rw (suc-add, stored_split m n (suc k) base (drop 13 o), drop-drop (13 * m) 13 o, place, number, append_assoc)

pub entry_long : (a : ℕ) (e : List ℕ) → length (stored_entry a e) ≡ 4 + length e
unfolding stored_entry address_octets
entry_long a e = omega arith

pub stored_long : (n k base : ℕ) (o : List ℕ) → 13 * n ≤ length o → length (stored_from n k base o) ≡ 17 * n
stored_long zero k base o h = refl
stored_long (suc n) k base o h =
    let first : length (take 13 o) ≡ 13 = length-take-le 13 o (omega arith) in
    let rest : length (stored_from n (suc k) base (drop 13 o)) ≡ 17 * n = stored_long n (suc k) base (drop 13 o) (rw length-drop (omega arith)) in
    rw (length-append, entry_long, first, rest) (omega arith)

-- one entry more, where the entries that are left are told
module _ (o e rest : List ℕ) (i : ℕ) (left : drop (13 * i) o ≡ e ++ rest) (long : length e ≡ 13) where
  pub left_whole : 13 * (i + 1) ≤ length o
  left_whole = let n : length (drop (13 * i) o) ≡ 13 + length rest = rw (left, length-append, long) in omega (arith, rw length-drop at n)

  pub left_next : rest ≡ drop (13 * (i + 1)) o
  left_next =
      let place : 13 * (i + 1) ≡ 13 * i + 13 = omega arith in
      rw (place, ← (drop-drop 13 (13 * i) o), left, drop_at e rest 13 long)

  pub page_next : (s t x : List ℕ) (place ioa n : ℕ) → t ≡ written s place (stored_from i 0 ioa o) → x ≡ stored_entry (entry_address ioa i) e → n ≡ 17
      → place + 17 * (i + 1) ≤ length s → put_mid (place + 17 * i) n t x ≡ written s place (stored_from (i + 1) 0 ioa o)
  page_next s t x place ioa n text entry size room =
      let before : length (stored_from i 0 ioa o) ≡ 17 * i = stored_long i 0 ioa o (omega (arith, left_whole)) in
      let own : take 13 (drop (13 * i) o) ≡ e = rw (left) (take_at e rest 13 long) in
      let all : stored_from (i + 1) 0 ioa o ≡ stored_from i 0 ioa o ++ x = stored_split i 1 0 ioa o ∙ rw (zero-add, append-nil, own, entry) in
      let lent : length x ≡ n = rw (entry, entry_long) (omega arith) in
      rw (written_lent t (place + 17 * i) n x lent, text, all, ← before) (written_twice s place (stored_from i 0 ioa o) x (omega arith))

-- all of them
pub page_whole : (o : List ℕ) (ioa i : ℕ) → 13 * i ≤ length o → length (drop (13 * i) o) < 13 → stored_from i 0 ioa o ≡ page_stored ioa o
unfolding page_stored entries_in
page_whole o ioa i whole none =
    let n : length o / 13 ≡ i = omega (arith, rw length-drop at none) in rw n

-- for the proof of the function that writes a page
pub ruleset pages = (left_whole, left_next, page_next, page_whole, written_none)

-- ---- the last-file flag

-- one entry, and those after it
pub last_next : (e rest : List ℕ) → length e ≡ 13 → has_last (e ++ rest) ≡ (bit_of 32 (get_or e 5 0) or has_last rest)
unfolding has_last entries_in entry_of sof_of
last_next e rest h =
    let n : (13 + length rest) / 13 ≡ suc (length rest / 13) = omega arith in
    rw (length-append, h, n, take_at e rest 13 h, drop_at e rest 13 h)

-- no whole entry
pub last_none : (o : List ℕ) → length o < 13 → has_last o ≡ false
unfolding has_last entries_in
last_none o h = let n : length o / 13 ≡ 0 = omega arith in rw n

-- for the proof of the function that looks for the flag
pub ruleset flags = (last_next, last_none, whens, eq-eqb, ne_eqb)

-- for the proof of the function that writes a page where it has room
pub ruleset written_pages = (room_is, whens)
