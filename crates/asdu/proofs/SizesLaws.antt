-- What the widths leave: 18 entries of a page at each width that a making gives, and the two limits of a segment that document 01 names.
use mathlib.Core.Bool.{true}
use mathlib.Core.Path.{◌≡◌}
use Prim.Native.Nat.{ℕ, ◌≤◌}
use native.Mathlib.Omega.{arith}
use borrow.Author.Tests.{leb-true}
use Rattle.asdu.specs.Sizes.{within, sizes_right, header_len, element_room, page_entries}
use Rattle.asdu.specs.declared.AddressSizes.{AddressSizes}
use Rattle.asdu.proofs.Range.{both}

bounds : (low high x : ℕ) → within low high x ≡ true → (low ≤ x) × (x ≤ high)
unfolding within
bounds low high x h = let b = both _ _ h in (leb-true _ _ b.0, leb-true _ _ b.1)

pub page_entries_lem : (z : AddressSizes) → sizes_right z ≡ true → page_entries z ≡ 18
unfolding sizes_right header_len element_room page_entries
page_entries_lem z h =
    let rest = (both _ _ h).1 in
    let c = bounds 1 2 z.cause_octets (both _ _ h).0 in
    let a = bounds 1 2 z.common_address_octets (both _ _ rest).0 in
    let o = bounds 1 3 z.information_object_address_octets (both _ _ rest).1 in
    omega arith
