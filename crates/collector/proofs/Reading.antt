-- Each entry's 17 octets in the store that a call collected read back as its address and its entry.
use Prim.Native.Nat.{ℕ, zero, suc, ◌+◌, ◌*◌, ◌<◌}
use mathlib.Core.Path.{◌≡◌, ap, ◌∙◌}
use mathlib.Core.List.{List}
use native.Mathlib.Nat.{add-zero, zero-add}
use native.Mathlib.Omega.{arith}
use lib.ListN.{length, take, drop}
use Rattle.std.specs.Prelude.{Ok}
use Rattle.asdu.specs.Entry.{entry_octets, entry_address}
use Rattle.asdu.proofs.Octets.{thirteen}
use Rattle.stored.specs.Stored.{stored_entry, octets_at, address_in, entry_in}
use Rattle.stored.proofs.StoredLaws.{entry_long}
use Rattle.stored.proofs.Reading.{address_back, entry_back, address_small, first_of, rest_of, behind_held}
use Rattle.pager.specs.Pages.{entries_of, sent_entry, page_count}
use Rattle.pager.proofs.Sent.{sent_unpacks}
use Rattle.collector.specs.Handed.{Directory, handed, sent_stored}
use Rattle.collector.proofs.Collected.{stored_size, directory_collected}

-- entry k of those that were sent
sent_at : (o : List ℕ) (ioa n j k : ℕ) → k < n → take 17 (drop (17 * k) (sent_stored o ioa n j)) ≡ stored_entry (entry_address ioa (j + k)) (entry_octets (sent_entry o (j + k)))
sent_at o ioa zero j k h = absurd (omega arith)
sent_at o ioa (suc n) j zero h =
    let x = stored_entry (entry_address ioa j) (entry_octets (sent_entry o j)) in
    let long : length x ≡ 17 = rw (entry_long, thirteen (sent_entry o j)) in
    rw add-zero (first_of x (sent_stored o ioa n (suc j)) long)
sent_at o ioa (suc n) j (suc k) h =
    let x = stored_entry (entry_address ioa j) (entry_octets (sent_entry o j)) in
    let long : length x ≡ 17 = rw (entry_long, thirteen (sent_entry o j)) in
    let number : suc j + k ≡ j + suc k = omega arith in
    ap (take 17) (rest_of x (sent_stored o ioa n (suc j)) k long) ∙ sent_at o ioa n (suc j) k (omega arith) ∙ rw number

-- the pages of a list of entries that a call collected: entry k of all, with its flag as the pager sets it
pub directory_reads_back : (d : Directory) → 0 < page_count d.entries → (k : ℕ) → k < entries_of d.entries
    → (address_in (octets_at (d.call.held + k) (handed d (page_count d.entries)).store) ≡ entry_address d.first k)
    × (entry_in (octets_at (d.call.held + k) (handed d (page_count d.entries)).store) ≡ Ok (sent_entry d.entries k))
unfolding entry_in
directory_reads_back d some k h =
    let o = d.entries in
    let n = entries_of o in
    let e = entry_octets (sent_entry o k) in
    let long = stored_size o d.first n 0 in
    let room = d.room in
    let is : octets_at (d.call.held + k) (handed d (page_count o)).store ≡ stored_entry (entry_address d.first k) e =
    ap (octets_at (d.call.held + k)) (directory_collected d some).leaves
    ∙ behind_held d.store d.call.held (sent_stored o d.first n 0) k (omega arith) (omega arith)
    ∙ sent_at o d.first n 0 k h
    ∙ rw zero-add in
    (rw is (address_back (entry_address d.first k) e (address_small d.first k)), rw (is, entry_back) (sent_unpacks o d.right d.octets k h))
