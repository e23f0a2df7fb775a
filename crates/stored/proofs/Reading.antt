-- The 17 octets of an entry that was written into a store read back as its address and its entry.
use Prim.Native.Nat.{ℕ, zero, suc, ◌+◌, ◌*◌, ◌/◌, ◌≤◌, ◌<◌}
use mathlib.Core.Path.{◌≡◌, refl, ap, subst, ◌∙◌}
use mathlib.Core.List.{List, ◌++◌}
use native.Mathlib.Nat.{add-zero, zero-add}
use native.Mathlib.Omega.{arith}
use lib.ListN.{length, take, drop, length-drop}
use lib.Seq.{take_at, drop-drop, take-append-le, drop-append-le, drop-append-add, length-take-le}
use Rattle.store.specs.Store.{written}
use Rattle.asdu.specs.Entry.{unpacked, entry_address}
use Rattle.stored.specs.Stored.{entries_in, address_octets, stored_entry, stored_from, page_stored, octets_at, address_in, entry_in}
use Rattle.stored.proofs.StoredLaws.{entry_long, stored_long}

-- ---- one entry

pub address_back : (a : ℕ) (e : List ℕ) → a ≤ 0xFFFFFFFF → address_in (stored_entry a e) ≡ a
unfolding address_in stored_entry address_octets
address_back a e h = omega arith

pub entry_back : (a : ℕ) (e : List ℕ) → drop 4 (stored_entry a e) ≡ e
unfolding stored_entry address_octets
entry_back a e = refl

-- an entry's address is always one of 32 bits
pub address_small : (ioa k : ℕ) → entry_address ioa k ≤ 0xFFFFFFFF
unfolding entry_address
address_small ioa k = omega arith

-- ---- an entry among others

-- a part of what was written, read where it was written
part_front : (a n : ℕ) (x r : List ℕ) → a + n ≤ length x → take n (drop a (x ++ r)) ≡ take n (drop a x)
part_front a n x r h = rw (drop-append-le a x r (omega arith)) (take-append-le n (drop a x) r (rw length-drop (omega arith)))

drop_behind : (x y : List ℕ) (p a : ℕ) → length x ≡ p → drop (p + a) (x ++ y) ≡ drop a y
drop_behind x y p a e = subst (λ (k : ℕ). drop (k + a) (x ++ y) ≡ drop a y) e (drop-append-add x y a)

read_written : (s : List ℕ) (p : ℕ) (x : List ℕ) (a n : ℕ) → p + length x ≤ length s → a + n ≤ length x → take n (drop (p + a) (written s p x)) ≡ take n (drop a x)
unfolding written
read_written s p x a n h k =
    ap (take n) (drop_behind (take p s) (x ++ drop (p + length x) s) p a (length-take-le p s (omega arith)))
    ∙ part_front a n x (drop (p + length x) s) k

-- an entry of 17 octets, and those after it
pub first_of : (x y : List ℕ) → length x ≡ 17 → take 17 (x ++ y) ≡ x
first_of x y e = take_at x y 17 e

pub rest_of : (x y : List ℕ) (k : ℕ) → length x ≡ 17 → drop (17 * suc k) (x ++ y) ≡ drop (17 * k) y
rest_of x y k e = let place : 17 * suc k ≡ 17 + 17 * k = omega arith in rw place (drop_behind x y 17 (17 * k) e)

-- entry k of those that were stored of a page
stored_at : (n j base : ℕ) (o : List ℕ) (k : ℕ) → k < n → 13 * n ≤ length o
    → take 17 (drop (17 * k) (stored_from n j base o)) ≡ stored_entry (entry_address base (j + k)) (take 13 (drop (13 * k) o))
stored_at zero j base o k h w = absurd (omega arith)
stored_at (suc n) j base o zero h w =
    let x = stored_entry (entry_address base j) (take 13 o) in
    let long : length x ≡ 17 = rw (entry_long, length-take-le 13 o (omega arith)) in
    rw add-zero (first_of x (stored_from n (suc j) base (drop 13 o)) long)
stored_at (suc n) j base o (suc k) h w =
    let x = stored_entry (entry_address base j) (take 13 o) in
    let long : length x ≡ 17 = rw (entry_long, length-take-le 13 o (omega arith)) in
    let number : suc j + k ≡ j + suc k = omega arith in
    let place : 13 + 13 * k ≡ 13 * suc k = omega arith in
    ap (take 17) (rest_of x (stored_from n (suc j) base (drop 13 o)) k long)
    ∙ stored_at n (suc j) base (drop 13 o) k (omega arith) (rw length-drop (omega arith))
    ∙ rw (number, drop-drop (13 * k) 13 o, place)

-- entry k of what was written behind the entries held
pub behind_held : (store : List ℕ) (held : ℕ) (x : List ℕ) (k : ℕ) → 17 * held + length x ≤ length store → 17 * k + 17 ≤ length x
    → octets_at (held + k) (written store (17 * held) x) ≡ take 17 (drop (17 * k) x)
unfolding octets_at
behind_held store held x k room within =
    let place : 17 * (held + k) ≡ 17 * held + 17 * k = omega arith in rw place (read_written store (17 * held) x (17 * k) 17 room within)

-- ---- a page

-- entry k of a page that was written, from whichever station
pub page_reads_back : (store : List ℕ) (held ioa : ℕ) (o : List ℕ) (k : ℕ) → 17 * (held + entries_in o) ≤ length store → k < entries_in o
    → (address_in (octets_at (held + k) (written store (17 * held) (page_stored ioa o))) ≡ entry_address ioa k)
    × (entry_in (octets_at (held + k) (written store (17 * held) (page_stored ioa o))) ≡ unpacked (take 13 (drop (13 * k) o)))
unfolding entry_in entries_in page_stored
page_reads_back store held ioa o k room h =
    let n = length o / 13 in
    let e = take 13 (drop (13 * k) o) in
    let whole : 13 * n ≤ length o = omega arith in
    let long = stored_long n 0 ioa o whole in
    let is : octets_at (held + k) (written store (17 * held) (stored_from n 0 ioa o)) ≡ stored_entry (entry_address ioa k) e =
    behind_held store held (stored_from n 0 ioa o) k (omega arith) (omega arith) ∙ stored_at n 0 ioa o k h whole ∙ rw zero-add in
    (rw is (address_back (entry_address ioa k) e (address_small ioa k)), rw (is, entry_back))
