-- The entries as they are sent: each is in range, and so many of them, packed and joined, are as many whole entries.
use Prim.Native.Nat.{ℕ, zero, suc, ◌+◌, ◌*◌, ◌/◌, ◌%◌, ◌≤◌, ◌<◌}
use mathlib.Core.Path.{◌≡◌, refl, ◌∙◌}
use mathlib.Core.Bool.{Bool, true, false}
use mathlib.Core.List.{List, [], ◌∷◌}
use native.Mathlib.Omega.{arith}
use lib.Dec.{eqb, lit<}
use lib.ListN.{length, take, drop, get_or, length-append}
use lib.Seq.{get_or-drop, take_at, drop_at}
use borrow.Author.Tests.{le-leb}
use Rattle.std.specs.Prelude.{Err, Ok}
use Rattle.laws.specs.When.{◌and◌}
use Rattle.laws.proofs.Decide.{whens}
use Rattle.asdu.specs.Sizes.{within}
use Rattle.asdu.specs.Entry.{entry_in_range, entry_octets, entry_of, reserved_clear, unpacked, all_clear, page_right}
use Rattle.asdu.specs.declared.DirectoryEntry.{DirectoryEntry}
use Rattle.asdu.specs.declared.FtError.TheVariants.{ValueOutOfRange}
use Rattle.asdu.proofs.Octets.{thirteen}
use Rattle.asdu.proofs.Range.{both}
use Rattle.asdu.proofs.EntryLaws.{unpack-pack, pack-unpack}
use Rattle.pager.specs.Pages.{entries_of, entries_right, packed_entry, flagged, sent_entry, page_count, entry_count, sent_octets, page_octets}
use Rattle.pager.proofs.Entries.{page_starts, packed_unpacks}

-- what unpacks has its reserved bits 0
clear_where : (o : List ℕ) (e : DirectoryEntry) → unpacked o ≡ Ok e → reserved_clear o ≡ true
unfolding unpacked
clear_where o e h = go (eqb (length o) 13 and reserved_clear o) refl
  where
    go : (b : Bool) → (eqb (length o) 13 and reserved_clear o) ≡ b → reserved_clear o ≡ true
    go true p = (both (eqb (length o) 13) (reserved_clear o) p).1
    go false p = let u : Err ValueOutOfRange ≡ Ok e = simp (whens, p) at h in let z : ◌≡◌ {A = ℕ} 0 1 = cc in absurd (omega arith)

-- the flag is in range, whichever it is
flagged_range : (b : Bool) (e : DirectoryEntry) → entry_in_range (flagged b e) ≡ entry_in_range e
unfolding entry_in_range
flagged_range b e = refl

-- octets are numbers below 256, in a part of a list too
small_front : (n : ℕ) (o : List ℕ) (i : ℕ) → ((j : ℕ) → get_or o j 0 < 256) → get_or (take n o) i 0 < 256
small_front zero o i small = lit< tt
small_front (suc n) [] i small = lit< tt
small_front (suc n) (x ∷ o) zero small = small 0
small_front (suc n) (x ∷ o) (suc i) small = small_front n o i (λ j. small (suc j))

small_part : (o : List ℕ) → ((i : ℕ) → get_or o i 0 < 256) → (at n i : ℕ) → get_or (take n (drop at o)) i 0 < 256
small_part o small at n i = small_front n (drop at o) i (λ j. rw (get_or-drop at o j 0) (small (at + j)))

module _ (o : List ℕ) (right : entries_right o ≡ true) (small : (i : ℕ) → get_or o i 0 < 256) where
  pub sent_range : (k : ℕ) → k < entries_of o → entry_in_range (sent_entry o k) ≡ true
  unfolding sent_entry packed_entry
  sent_range k h =
      flagged_range _ (entry_of (packed_entry o k))
      ∙ (pack-unpack (packed_entry o k) (entry_of (packed_entry o k)) (small_part o small (13 * k) 13) (packed_unpacks o right k h)).1

  pub sent_unpacks : (k : ℕ) → k < entries_of o → unpacked (entry_octets (sent_entry o k)) ≡ Ok (sent_entry o k)
  sent_unpacks k h = unpack-pack (sent_entry o k) (sent_range k h)

  sent_is_clear : (k : ℕ) → k < entries_of o → reserved_clear (entry_octets (sent_entry o k)) ≡ true
  sent_is_clear k h = clear_where (entry_octets (sent_entry o k)) (sent_entry o k) (sent_unpacks k h)

  -- each comes back from its octets
  pub sent_back : (k : ℕ) → k < entries_of o → entry_of (entry_octets (sent_entry o k)) ≡ sent_entry o k
  unfolding unpacked
  sent_back k h =
      let e = sent_entry o k in
      let same : Ok (entry_of (entry_octets e)) ≡ Ok e = simp (thirteen e, sent_is_clear k h, whens) at (sent_unpacks k h) in
      cc

  -- packed and joined
  pub sent_long : (n k : ℕ) → length (sent_octets o n k) ≡ 13 * n
  sent_long zero k = refl
  sent_long (suc n) k = rw (length-append, thirteen (sent_entry o k), sent_long n (suc k)) (omega arith)

  pub sent_first : (n k : ℕ) → take 13 (sent_octets o (suc n) k) ≡ entry_octets (sent_entry o k)
  sent_first n k = take_at (entry_octets (sent_entry o k)) (sent_octets o n (suc k)) 13 (thirteen (sent_entry o k))

  pub sent_rest : (n k : ℕ) → drop 13 (sent_octets o (suc n) k) ≡ sent_octets o n (suc k)
  sent_rest n k = drop_at (entry_octets (sent_entry o k)) (sent_octets o n (suc k)) 13 (thirteen (sent_entry o k))

  pub sent_clear : (n k : ℕ) → k + n ≤ entries_of o → all_clear n (sent_octets o n k) ≡ true
  sent_clear zero k h = refl
  sent_clear (suc n) k h =
      simp (sent_first n k, sent_rest n k, sent_is_clear k (omega arith), whens, sent_clear n (suc k) (omega arith))

  -- a page has 1 to 18 entries, all of the list
  pub entries_of_page : (i : ℕ) → i < page_count o → (1 ≤ entry_count o i) × (entry_count o i ≤ 18) × (i * 18 + entry_count o i ≤ entries_of o)
  unfolding entry_count entries_of
  entries_of_page i h = let starts = page_starts o i h in (omega arith, omega arith, omega arith)

  -- a page's entries, joined, are those of a directory page
  pub page_right_lem : (i : ℕ) → i < page_count o → page_right (page_octets o i) ≡ true
  unfolding page_right page_octets within
  page_right_lem i h =
      let n = entry_count o i in
      let count = entries_of_page i h in
      let whole : 13 * n % 13 ≡ 0 = omega arith in
      let many : 13 * n / 13 ≡ n = omega arith in
      simp (
        sent_long n (i * 18),
        whole,
        many,
        le-leb 1 n count.0,
        le-leb n 18 count.1,
        whens,
        sent_clear n (i * 18) count.2,
      )
