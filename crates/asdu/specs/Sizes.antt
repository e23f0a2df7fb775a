-- The widths of a system's addresses and what they leave for a segment and a directory page (document 01, Settings).
use Rattle.std.specs.Prelude.{ℕ, ◌+◌, ◌-◌, ◌/◌, min, Bool, eqb, leb, Result, Ok, Err}
use Rattle.laws.specs.When.{when, ◌and◌}
use Rattle.asdu.specs.declared.FtError.TheVariants.{InvalidAddressSizes}
use Rattle.asdu.specs.declared.AddressSizes.{AddressSizes}
use Rattle.asdu.specs.declared.FtError.{FtError}

unfoldable pub within : ℕ → ℕ → ℕ → Bool
within low high x = leb low x and leb x high

-- a cause of 1 or 2 octets, a common address of 1 or 2, an object address of 1 to 3
unfoldable pub sizes_right : AddressSizes → Bool
sizes_right z =
    within 1 2 z.cause_octets
    and within 1 2 z.common_address_octets
    and within 1 3 z.information_object_address_octets

-- the making of widths: 2 where they are not as above
unfoldable pub sizes_made : AddressSizes → Result AddressSizes FtError
sizes_made z = when (sizes_right z) (Ok z) (Err InvalidAddressSizes)

-- a cause of two octets carries the originator in its second
abbrev pub has_originator : AddressSizes → Bool
has_originator z = eqb z.cause_octets 2

-- type 1, qualifier 1, cause, common address
unfoldable pub header_len : AddressSizes → ℕ
header_len z = 2 + z.cause_octets + z.common_address_octets

-- the largest object address; a width that is none of 1 and 2 counts as 3, as in the Rust
unfoldable pub max_ioa : AddressSizes → ℕ
max_ioa z =
    when (eqb z.information_object_address_octets 1) 0xFF
    (when (eqb z.information_object_address_octets 2) 0xFFFF
    0xFFFFFF)

-- the largest common address, which is the broadcast address; a width that is not 1 counts as 2, as in the Rust
unfoldable pub max_common_address : AddressSizes → ℕ
max_common_address z = when (eqb z.common_address_octets 1) 0xFF 0xFFFF

-- what an ASDU of 249 octets leaves for its objects' elements, after the header and one object address
unfoldable pub element_room : AddressSizes → ℕ
element_room z = 249 - (header_len z + z.information_object_address_octets)

-- a segment's payload: less its NOF, NOS and LOS, and at most LOS's 240
unfoldable pub segment_limit : AddressSizes → ℕ
segment_limit z = min (element_room z - 4) 240

-- a directory page's entries, of 13 octets each
unfoldable pub page_entries : AddressSizes → ℕ
page_entries z = element_room z / 13
