-- Entries in a list of them: each is in range where all are, and a page starts within the list.
use Prim.Native.Nat.{ℕ, zero, suc, ◌+◌, ◌-◌, ◌*◌, ◌/◌, ◌%◌, ◌≤◌, ◌<◌}
use mathlib.Core.Path.{◌≡◌, refl}
use mathlib.Core.Bool.{Bool, true, false}
use mathlib.Core.List.{List, ◌∷◌, ◌++◌}
use native.Mathlib.Omega.{arith}
use lib.Dec.{eqb}
use lib.ListN.{length, take, drop, length-take, length-drop, length-append}
use lib.Seq.{drop-drop, take_all, take_at, drop_at}
use borrow.Author.Tests.{eqb-true}
use Rattle.std.specs.Prelude.{Ok}
use Rattle.std.specs.Prelude.{◌&&◌, false}
use Rattle.std.specs.declared.slice.ChunksExact.{ChunksExact}
use Rattle.std.specs.List.{list_all}
use Rattle.std.specs.Slice.Iter.{chunks_exact_rest, chunks_exact_size, chunks_exact_steps}
use Rattle.std.proofs.lemmas.Iterator.{YieldsList}
use Rattle.std.proofs.lemmas.Iterator.Splits.{YieldsList-from_shown_while}
use Rattle.lists.specs.Parts.{parts}
use Rattle.laws.specs.When.{when, ◌and◌}
use Rattle.laws.proofs.Decide.{whens}
use Rattle.lists.proofs.Parts.{ceil_enough, ceil_least}
use Rattle.asdu.specs.Sizes.{within}
use Rattle.asdu.specs.Entry.{entry_of, reserved_clear, unpacked, all_clear, page_right}
use Rattle.asdu.proofs.Range.{both}
use Rattle.pager.specs.Pages.{entries_of, entries_right, packed_entry, page_count, entry_count}

-- a page starts within the list
pub page_starts : (o : List ℕ) (i : ℕ) → i < page_count o → i * 18 < length o / 13
unfolding page_count entries_of
page_starts o i h = omega (arith, ceil_least (length o / 13) 18 (omega arith))

-- so does each of its entries
pub entry_within : (o : List ℕ) (i j : ℕ) → j < entry_count o i → i * 18 + j < entries_of o
unfolding entry_count
entry_within o i j h = omega arith

-- every page but the last is full, and the last has the rest
pub page_full : (o : List ℕ) (i : ℕ) → suc i < page_count o → (entry_count o i ≡ 18) × (i * 18 + 18 < entries_of o)
unfolding entry_count entries_of
page_full o i h = let starts = page_starts o (suc i) h in (omega arith, omega arith)

pub page_ends : (o : List ℕ) (i : ℕ) → suc i ≡ page_count o → i * 18 + entry_count o i ≡ entries_of o
unfolding entry_count page_count
page_ends o i h =
    let starts = ceil_least (entries_of o) 18 (omega arith) in
    let enough : entries_of o ≤ suc i * 18 = rw h (ceil_enough (entries_of o) 18 (omega arith)) in
    omega arith

-- ---- one entry and those after it

and_true : (b : Bool) → (b and true) ≡ b
unfolding when
and_true true = refl
and_true false = refl

-- a page of one entry
page_of_one : (o : List ℕ) → length o ≡ 13 → page_right o ≡ reserved_clear o
unfolding page_right within when
page_of_one o h = simp (h, take_all 13 o (omega arith)) (and_true (reserved_clear o))

-- the entries from a place on: the first is a page by itself, then come the others
pub right_next : (o : List ℕ) (at : ℕ) → at + 13 ≤ length o
    → all_clear ((length o - at) / 13) (drop at o) ≡ (page_right (take 13 (drop at o)) and all_clear ((length o - (at + 13)) / 13) (drop (at + 13) o))
right_next o at h =
    let n : (length o - at) / 13 ≡ suc ((length o - (at + 13)) / 13) = omega arith in
    let whole : length (take 13 (drop at o)) ≡ 13 = simp (length-take, length-drop) (omega arith) in
    rw (n, page_of_one (take 13 (drop at o)) whole, drop-drop 13 at o)

-- ---- an entry by its number

entry_clear : (n : ℕ) (o : List ℕ) (k : ℕ) → all_clear n o ≡ true → k < n → reserved_clear (take 13 (drop (13 * k) o)) ≡ true
entry_clear zero o k e h = absurd (omega arith)
entry_clear (suc n) o zero e h = (both _ _ e).0
entry_clear (suc n) o (suc k) e h =
    let place : 13 * suc k ≡ 13 + 13 * k = omega arith in
    rw (place, ← (drop-drop (13 * k) 13 o)) (entry_clear n (drop 13 o) k (both _ _ e).1 (omega arith))

module _ (o : List ℕ) (right : entries_right o ≡ true) where
  pub whole_entries : length o ≡ 13 * entries_of o
  unfolding entries_right entries_of
  whole_entries =
      let rest : length o % 13 ≡ 0 = eqb-true (length o % 13) 0 (both (eqb (length o % 13) 0) (all_clear (length o / 13) o) right).0 in
      omega arith

  module _ (k : ℕ) (h : k < entries_of o) where
    pub packed_long : length (packed_entry o k) ≡ 13
    unfolding packed_entry
    packed_long = let w = whole_entries in simp (length-take, length-drop) (omega arith)

    pub packed_clear : reserved_clear (packed_entry o k) ≡ true
    unfolding entries_right packed_entry
    packed_clear = entry_clear (entries_of o) o k (both _ _ right).1 h

    pub packed_unpacks : unpacked (packed_entry o k) ≡ Ok (entry_of (packed_entry o k))
    unfolding unpacked
    packed_unpacks = simp (packed_long, packed_clear, whens)

-- ---- all entries, one after the other

-- the whole entries that lie in these octets
abbrev pub cut : List ℕ → List (List ℕ)
cut o = parts (length o / 13) 13 o

-- each is a page by itself
pub each_right : (n : ℕ) (o : List ℕ) → 13 * n ≤ length o → list_all page_right (parts n 13 o) ≡ all_clear n o
unfolding when
each_right zero o h = refl
each_right (suc n) o h =
    let whole : length (take 13 o) ≡ 13 = simp length-take (omega arith) in
    rw (page_of_one (take 13 o) whole, each_right n (drop 13 o) (simp length-drop (omega arith))) (same (reserved_clear (take 13 o)) (all_clear n (drop 13 o)))
  where
    same : (a b : Bool) → (a && b) ≡ when a b false
    same true b = refl
    same false b = refl

-- the library's iterator over them gives them
pub entries_yielded : (s : ChunksExact ℕ) → chunks_exact_size s ≡ 13 → YieldsList chunks_exact_steps (λ x. x.now) s (cut (chunks_exact_rest s))
entries_yielded s h =
    YieldsList-from_shown_while chunks_exact_steps (λ x. x.now) (λ t. cut (chunks_exact_rest t)) (λ t. chunks_exact_size t ≡ 13)
    (λ t u p k. none (chunks_exact_rest t) (omega arith))
    (λ t x u p k. (omega arith, rw k.1.0 (more x.now (chunks_exact_rest u) (omega arith))))
    s h
  where
    none : (o : List ℕ) → length o < 13 → length (cut o) ≡ 0
    none o q = let z : length o / 13 ≡ 0 = omega arith in rw z

    more : (x o : List ℕ) → length x ≡ 13 → cut (x ++ o) ≡ x ∷ cut o
    more x o q =
        let z : length (x ++ o) / 13 ≡ suc (length o / 13) = rw length-append (omega arith) in
        rw (z, take_at x o 13 q, drop_at x o 13 q)
