-- A station's settings and what their making accepts (document 01, Settings and refusals 2 and 3).
use Rattle.std.specs.Prelude.{ℕ, Bool, eqb, leb, ltb, Result, Ok, Err}
use Rattle.laws.specs.When.{unless, ◌and◌, ◌or◌}
use Rattle.asdu.specs.Sizes.{sizes_right, has_originator, max_ioa, max_common_address}
use Rattle.asdu.specs.declared.AddressSizes.{AddressSizes}
use Rattle.asdu.specs.declared.FtError.TheVariants.{InvalidAddressSizes, AddressOutOfRange, RecordMismatch}
use Rattle.ft.specs.declared.Role.{Role}
use Rattle.ft.specs.declared.Selection.{Selection}
use Rattle.ft.specs.declared.FileTransferProcedure.{FileTransferProcedure}
use Rattle.ft.specs.declared.Addressing.{Addressing}
use Rattle.asdu.specs.declared.FtError.{FtError}

-- the conventional widths: an originator, two octets of common address, three of object address
abbrev pub conventional : AddressSizes
conventional = record { cause_octets = 2; common_address_octets = 2; information_object_address_octets = 3 }

-- a station's own addresses: a common address that is neither 0 nor broadcast nor too wide, and no originator where the cause has one octet
unfoldable pub address_right : AddressSizes → ℕ → ℕ → Bool
address_right z ca org = leb 1 ca and ltb ca (max_common_address z) and (has_originator z or eqb org 0)

-- and an object address within its width
unfoldable pub addressed : AddressSizes → ℕ → ℕ → ℕ → Bool
addressed z ca org ioa = address_right z ca org and leb ioa (max_ioa z)

-- the making of a station: 2, then 3
unfoldable pub procedure_made : Role → Selection → ℕ → ℕ → AddressSizes → Result FileTransferProcedure FtError
procedure_made role selection ca org z =
    unless (sizes_right z) (Err InvalidAddressSizes)
    (unless (address_right z ca org) (Err AddressOutOfRange)
    (Ok (record { role = role; selection = selection; ca = ca; org = org; sizes = z })))

-- settings that a making gives
unfoldable pub settled : FileTransferProcedure → Bool
settled p = sizes_right p.sizes and address_right p.sizes p.ca p.org

-- the same station with other widths: 26 first
unfoldable pub procedure_with : FileTransferProcedure → AddressSizes → Result FileTransferProcedure FtError
procedure_with p z =
    unless (settled p) (Err RecordMismatch)
    (procedure_made p.role p.selection p.ca p.org z)

abbrev pub addressing : FileTransferProcedure → Addressing
addressing p = record { common_address = p.ca; originator = p.org }
