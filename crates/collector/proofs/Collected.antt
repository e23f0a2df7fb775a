-- The pages of any list of entries, handed in order to a started call with room for all, leave exactly those entries in its store, and the call completes on the last page and not before.
use Prim.Native.Nat.{ℕ, zero, suc, ◌+◌, ◌*◌, ◌/◌, ◌≤◌, ◌<◌}
use mathlib.Core.Path.{◌≡◌, refl, ap, ◌∙◌}
use mathlib.Core.Bool.{true, false}
use mathlib.Core.List.{List, ◌++◌, append_assoc}
use native.Mathlib.Nat.{add_assoc, add-zero, zero-add, suc-add}
use native.Mathlib.Omega.{arith}
use lib.Dec.{eqb}
use lib.ListN.{length, get_or, length-append}
use borrow.Author.Tests.{le-leb, eq-eqb, ne_eqb}
use Rattle.std.specs.Prelude.{None, Ok}
use Rattle.laws.specs.When.{when}
use Rattle.laws.proofs.Decide.{whens}
use Rattle.store.specs.Store.{written}
use Rattle.asdu.specs.Sizes.{max_ioa, max_common_address}
use Rattle.asdu.specs.Header.{is_mirror}
use Rattle.asdu.specs.Entry.{entry_of, entry_octets, entry_address}
use Rattle.asdu.specs.declared.Cause.{Cause}
use Rattle.asdu.specs.declared.Header.{Header}
use Rattle.asdu.proofs.Octets.{thirteen}
use Rattle.stored.specs.Stored.{entries_in, any_last, has_last, stored_from, page_stored, room_for}
use Rattle.store.proofs.Written.{written_none, written_twice, written_long}
use Rattle.stored.proofs.StoredLaws.{entry_long}
use Rattle.frame.specs.Frames.{is_file_type}
use Rattle.frame.specs.Ranges.{values_in_range}
use Rattle.ft.specs.Directions.{other_role}
use Rattle.ft.specs.Procedure.{settled}
use Rattle.ft.specs.Admission.{serves, frame_agrees, admit_frame, admit_known, on_asdu}
use Rattle.ft.specs.declared.FileTransferProcedure.{FileTransferProcedure}
use Rattle.ft.specs.declared.Received.TheVariants as D
use Rattle.ft.specs.declared.Reaction.TheVariants.{Answered}
use Rattle.pager.specs.Pages.{entries_of, entries_right, sent_entry, page_count, entry_count, page_address, sent_octets, page_octets, page_frame}
use Rattle.pager.proofs.Entries.{page_full, page_ends}
use Rattle.pager.proofs.Sent.{sent_back, sent_long, sent_first, sent_rest, entries_of_page}
use Rattle.pager.proofs.Frames.{page_in_range}
use Rattle.collector.specs.Record.{call_agrees}
use Rattle.collector.specs.Collecting.{Outcome, stepped, holding, ended, leaving, on_held, on_page, collect}
use Rattle.collector.specs.Handed.{Sound, Directory, hand_over, handed, sent_stored, all_held, DirectoryCollected}
use Rattle.collector.specs.declared.DirectoryCall.{DirectoryCall}
use Rattle.collector.specs.declared.DirectoryAnswer.TheVariants.{Running, Complete}

-- ---- a page under a sound header is an answer

page_heard : (p : FileTransferProcedure) (h : Header) (ioa i : ℕ) (beside : List ℕ) → Sound p.sizes (page_frame ioa i) h → settled p ≡ true
    → page_address ioa i ≤ max_ioa p.sizes → values_in_range p.sizes (page_frame ioa i) beside ≡ true → serves p (other_role p.role) false ≡ true
    → on_asdu p h None (D.Frame (page_frame ioa i)) beside ≡ Ok Answered
unfolding on_asdu admit_known is_file_type is_mirror admit_frame frame_agrees when
page_heard p h ioa i beside sound right fits values direction =
    let below : h.common_address < max_common_address p.sizes = sound.common in
    simp (
      right,
      le-leb h.common_address (max_common_address p.sizes) (omega arith),
      sound.type,
      sound.positive,
      ne_eqb h.common_address (max_common_address p.sizes) (λ e. omega arith),
      le-leb (page_address ioa i) (max_ioa p.sizes) fits,
      values,
      ap (λ (c : Cause). c.value) sound.cause,
      direction,
    )

-- an answer to a call that waits for one is a page to it
page_answers : (c : DirectoryCall) (store : List ℕ) (h : Header) (ioa i : ℕ) (beside : List ℕ) → call_agrees c store ≡ true → c.started ≡ true → c.done ≡ false
    → on_asdu c.procedure h None (D.Frame (page_frame ioa i)) beside ≡ Ok Answered
    → collect c store h None (D.Frame (page_frame ioa i)) beside ≡ on_page c store (page_address ioa i) beside
unfolding collect when
page_answers c store h ioa i beside agrees started running heard = simp (agrees, started, running, heard)

-- ---- the entries that were sent, in the store

stored_join : (o : List ℕ) (ioa m n k : ℕ) → sent_stored o ioa (m + n) k ≡ sent_stored o ioa m k ++ sent_stored o ioa n (k + m)
stored_join o ioa zero n k = rw (zero-add, add-zero)
stored_join o ioa (suc m) n k = let number : suc k + m ≡ k + suc m = omega arith in rw (suc-add, stored_join o ioa m n (suc k), number, append_assoc)

pub stored_size : (o : List ℕ) (ioa n k : ℕ) → length (sent_stored o ioa n k) ≡ 17 * n
stored_size o ioa zero k = refl
stored_size o ioa (suc n) k = rw (length-append, entry_long, thirteen (sent_entry o k), stored_size o ioa n (suc k)) (omega arith)

-- an address counted from another entry's
address_from : (ioa b j : ℕ) → entry_address (entry_address ioa b) j ≡ entry_address ioa (b + j)
unfolding entry_address
address_from ioa b j = omega arith

module _ (o : List ℕ) (right : entries_right o ≡ true) (small : (i : ℕ) → get_or o i 0 < 256) where
  stored_sent : (ioa b n j : ℕ) → stored_from n j (entry_address ioa b) (sent_octets o n (b + j)) ≡ sent_stored o ioa n (b + j)
  stored_sent ioa b zero j = refl
  stored_sent ioa b (suc n) j =
      let number : suc (b + j) ≡ b + suc j = omega arith in
      rw (sent_first o right small n (b + j), sent_rest o right small n (b + j), address_from ioa b j, number, stored_sent ioa b n (suc j))

  -- the flag stands in the last entry of all and nowhere else
  flag_of : (k : ℕ) → k < entries_of o → (entry_of (entry_octets (sent_entry o k))).sof.last_file_of_directory ≡ eqb (k + 1) (entries_of o)
  unfolding sent_entry
  flag_of k h = rw (sent_back o right small k h)

  none_last : (n k : ℕ) → k + n < entries_of o → any_last n (sent_octets o n k) ≡ false
  none_last zero k h = refl
  none_last (suc n) k h =
      simp (
        sent_first o right small n k,
        sent_rest o right small n k,
        flag_of k (omega arith),
        ne_eqb (k + 1) (entries_of o) (λ e. omega arith),
        none_last n (suc k) (omega arith),
        whens,
      )

  one_last : (n k : ℕ) → k + suc n ≡ entries_of o → any_last (suc n) (sent_octets o (suc n) k) ≡ true
  one_last zero k h =
      simp (sent_first o right small zero k, flag_of k (omega arith), eq-eqb (k + 1) (entries_of o) (omega arith), whens)
  one_last (suc n) k h =
      simp (
        sent_first o right small (suc n) k,
        sent_rest o right small (suc n) k,
        flag_of k (omega arith),
        ne_eqb (k + 1) (entries_of o) (λ e. omega arith),
        one_last n (suc k) (omega arith),
        whens,
      )

  last_of : (n k : ℕ) → 1 ≤ n → k + n ≡ entries_of o → any_last n (sent_octets o n k) ≡ true
  last_of zero k some h = absurd (omega arith)
  last_of (suc n) k some h = one_last n k h

-- ---- page after page

module _ (d : Directory) where
  abbrev o : List ℕ
  o = d.entries

  abbrev c : DirectoryCall
  c = d.call

  -- the store and the call with the first m entries held
  abbrev store_with : ℕ → List ℕ
  store_with m = written d.store (17 * c.held) (sent_stored o d.first m 0)

  abbrev call_with : ℕ → DirectoryCall
  call_with m = holding c (c.held + m)

  store_size : (m : ℕ) → m ≤ entries_of o → length (store_with m) ≡ length d.store
  store_size m h =
      let size = stored_size o d.first m 0 in
      let room = d.room in
      written_long d.store (17 * c.held) (sent_stored o d.first m 0) (omega arith)

  with_agrees : (m : ℕ) → m ≤ entries_of o → call_agrees (call_with m) (store_with m) ≡ true
  unfolding call_agrees
  with_agrees m h =
      let room = d.room in
      simp (d.settings, store_size m h, le-leb (17 * (c.held + m)) (length d.store) (omega arith), whens)

  -- entries behind those that are held
  store_more : (m n : ℕ) → m + n ≤ entries_of o → written (store_with m) (17 * (c.held + m)) (sent_stored o d.first n m) ≡ store_with (m + n)
  store_more m n h =
      let size = stored_size o d.first m 0 in
      let room = d.room in
      let place : 17 * (c.held + m) ≡ 17 * c.held + length (sent_stored o d.first m 0) = omega arith in
      rw (place, stored_join o d.first m n 0, zero-add) (written_twice d.store (17 * c.held) (sent_stored o d.first m 0) (sent_stored o d.first n m) (omega arith))

  module _ (i : ℕ) (h : i < page_count o) where
    abbrev n : ℕ
    n = entry_count o i

    page_entries_lem : entries_in (page_octets o i) ≡ n
    unfolding entries_in page_octets
    page_entries_lem = let many : 13 * n / 13 ≡ n = omega arith in rw (sent_long o d.right d.octets n (i * 18)) many

    page_stored_lem : page_stored (page_address d.first i) (page_octets o i) ≡ sent_stored o d.first n (i * 18)
    unfolding page_stored page_address page_octets
    page_stored_lem = rw page_entries_lem (rw add-zero at (stored_sent o d.right d.octets d.first (i * 18) n 0))

    heard : on_asdu c.procedure (d.headers i) None (D.Frame (page_frame d.first i)) (page_octets o i) ≡ Ok Answered
    heard =
        page_heard c.procedure (d.headers i) d.first i (page_octets o i) (d.sound i) d.settings (d.within i h)
        (page_in_range o d.right d.octets i h c.procedure.sizes d.first) d.direction

    page_taken : hand_over d i (leaving (store_with (i * 18)) (stepped (call_with (i * 18)) Running))
        ≡ leaving (store_with (i * 18 + n)) (on_held (call_with (i * 18)) (c.held + i * 18 + n) (page_octets o i))
    unfolding on_page room_for
    page_taken =
        let counts = entries_of_page o d.right d.octets i h in
        let room = d.room in
        let fits : 17 * (c.held + i * 18 + n) ≤ length d.store = omega arith in
        page_answers (call_with (i * 18)) (store_with (i * 18)) (d.headers i) d.first i (page_octets o i) (with_agrees (i * 18) (omega arith)) d.started d.running heard
        ∙ simp (
          page_entries_lem,
          page_stored_lem,
          store_size (i * 18) (omega arith),
          le-leb (17 * (c.held + i * 18 + n)) (length d.store) fits,
          store_more (i * 18) n counts.2,
          whens,
        )

    -- a page has the flag where it is the last
    page_last : suc i ≡ page_count o → has_last (page_octets o i) ≡ true
    unfolding has_last page_octets
    page_last last = rw page_entries_lem (last_of o d.right d.octets n (i * 18) (entries_of_page o d.right d.octets i h).0 (page_ends o i last))

    page_not_last : suc i < page_count o → has_last (page_octets o i) ≡ false
    unfolding has_last page_octets
    page_not_last more =
        let full = page_full o i more in
        rw page_entries_lem (none_last o d.right d.octets n (i * 18) (omega arith))

    -- every page but the last leaves the call running, and the last completes it
    page_runs : suc i < page_count o → on_held (call_with (i * 18)) (c.held + i * 18 + n) (page_octets o i) ≡ stepped (call_with (i * 18 + n)) Running
    unfolding on_held
    page_runs more =
        simp (page_not_last more, whens, add_assoc)

    page_completes : suc i ≡ page_count o → on_held (call_with (i * 18)) (c.held + i * 18 + n) (page_octets o i) ≡ stepped (ended (call_with (entries_of o))) (Complete (all_held d))
    unfolding on_held
    page_completes last =
        let all : c.held + i * 18 + n ≡ c.held + entries_of o = omega (arith, page_ends o i last) in
        simp (page_last last, whens, all)

  handed_before : (i : ℕ) → i < page_count o → handed d i ≡ leaving (store_with (i * 18)) (stepped (call_with (i * 18)) Running)
  handed_before zero h = simp (written_none, add-zero)
  handed_before (suc i) h =
      let now : i < page_count o = omega arith in
      let more : i * 18 + entry_count o i ≡ suc i * 18 = omega (arith, (page_full o i h).0) in
      ap (hand_over d i) (handed_before i now) ∙ page_taken i now ∙ rw (page_runs i now h, more)

  -- after the last page
  handed_all : (i : ℕ) → suc i ≡ page_count o → handed d (suc i) ≡ leaving (store_with (entries_of o)) (stepped (ended (call_with (entries_of o))) (Complete (all_held d)))
  handed_all i last =
      let now : i < page_count o = omega arith in
      ap (hand_over d i) (handed_before i now) ∙ page_taken i now ∙ rw (page_completes i now last, page_ends o i last)

  at_end : (n : ℕ) → 0 < n → n ≡ page_count o → handed d n ≡ leaving (store_with (entries_of o)) (stepped (ended (call_with (entries_of o))) (Complete (all_held d)))
  at_end zero some e = absurd (omega arith)
  at_end (suc i) some e = handed_all i e

pub directory_collected : DirectoryCollected
directory_collected d some =
    let end = at_end d (page_count d.entries) some refl in
    record {
      before = λ i h. ap (λ (x : Outcome). x.step.answer) (handed_before d i h);
      completes = ap (λ (x : Outcome). x.step) end;
      leaves = ap (λ (x : Outcome). x.store) end;
    }
