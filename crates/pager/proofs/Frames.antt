-- A page of the pager is a directory frame: its entries, joined, are right beside it, and a station that sends it gets it from `build`.
use Prim.Native.Nat.{ℕ, ◌+◌, ◌-◌, ◌*◌, ◌/◌, ◌≤◌, ◌<◌}
use mathlib.Core.Path.{◌≡◌, refl}
use mathlib.Core.Bool.{Bool, true, false}
use mathlib.Core.List.{List}
use native.Mathlib.Omega.{arith}
use lib.ListN.{get_or}
use borrow.Author.Tests.{le-leb}
use Rattle.std.specs.Prelude.{Ok}
use Rattle.laws.specs.When.{when, ◌or◌}
use Rattle.laws.proofs.Decide.{whens}
use Rattle.asdu.specs.Sizes.{sizes_right, max_ioa}
use Rattle.asdu.specs.Entry.{entry_address}
use Rattle.asdu.specs.declared.AddressSizes.{AddressSizes}
use Rattle.asdu.proofs.Range.{both}
use Rattle.frame.specs.Frames.{last_ioa}
use Rattle.frame.specs.Ranges.{directory_cause, directory_in_range, values_in_range}
use Rattle.ft.specs.Directions.{direction_for, uses_direction, uses_function}
use Rattle.ft.specs.Procedure.{settled, address_right, addressed}
use Rattle.ft.specs.Admission.{serves}
use Rattle.ft.specs.Building.{header_of, framed, built}
use Rattle.ft.specs.declared.Role.{Role}
use Rattle.ft.specs.declared.Role.TheVariants.{Controlling, Controlled}
use Rattle.ft.specs.declared.Selection.{Selection}
use Rattle.ft.specs.declared.FileTransferProcedure.{FileTransferProcedure}
use Rattle.pager.specs.Pages.{entries_right, page_count, entry_count, page_address, page_octets, page_frame}
use Rattle.pager.proofs.Sent.{sent_long, entries_of_page, page_right_lem}

-- a station that uses a direction uses the function
uses_either : (m c : Bool) (r : Role) → uses_direction (record { monitor = m; control = c }) (direction_for r false) ≡ true → (m or c) ≡ true
unfolding when
uses_either true c r e = refl
uses_either false true r e = refl
uses_either false false Controlling e = e
uses_either false false Controlled e = e

uses : (s : Selection) (r : Role) → uses_direction s (direction_for r false) ≡ true → uses_function s ≡ true
unfolding uses_function
uses s r e = uses_either s.monitor s.control r e

module _ (o : List ℕ) (right : entries_right o ≡ true) (small : (i : ℕ) → get_or o i 0 < 256) (i : ℕ) (h : i < page_count o) where
  -- its values are in range with any widths
  pub page_in_range : (z : AddressSizes) (ioa : ℕ) → values_in_range z (page_frame ioa i) (page_octets o i) ≡ true
  unfolding directory_in_range directory_cause
  page_in_range z ioa = simp (page_right_lem o right small i h, whens)

  -- the last of its addresses is that of its last entry
  page_last : (ioa : ℕ) → last_ioa (page_frame ioa i) (page_octets o i) ≡ entry_address ioa (i * 18 + (entry_count o i - 1))
  unfolding page_octets page_address entry_address
  page_last ioa =
      let n = entry_count o i in
      let many : 13 * n / 13 ≡ n = omega arith in
      simp (sent_long o right small n (i * 18), many) (omega arith)

  -- a station's own page: it is built where the station sends such frames and every entry's address is within the width
  pub page_built : (p : FileTransferProcedure) (ioa : ℕ) → settled p ≡ true → serves p p.role false ≡ true
      → ((j : ℕ) → j < entry_count o i → entry_address ioa (i * 18 + j) ≤ max_ioa p.sizes)
      → built p (page_frame ioa i) (page_octets o i) ≡ Ok (record { header = header_of p.ca p.org (page_frame ioa i); frame = page_frame ioa i })
  unfolding built framed settled addressed serves
  page_built p ioa settings direction fits =
      let own = both (sizes_right p.sizes) (address_right p.sizes p.ca p.org) settings in
      let n = entry_count o i in
      let last : entry_address ioa (i * 18 + (n - 1)) ≤ max_ioa p.sizes = fits (n - 1) (omega (arith, (entries_of_page o right small i h).0)) in
      simp (
        own.0,
        own.1,
        uses p.selection p.role direction,
        direction,
        page_in_range p.sizes ioa,
        page_last ioa,
        le-leb (entry_address ioa (i * 18 + (n - 1))) (max_ioa p.sizes) last,
        whens,
      )
