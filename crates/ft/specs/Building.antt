-- The frames that a station makes, with the header that they go under (document 01, refusals 2, 3, 4, 21 and 22).
use Rattle.std.specs.Prelude.{ℕ, false, List, Result, Ok, Err}
use Rattle.laws.specs.When.{unless}
use Rattle.asdu.specs.Sizes.{sizes_right}
use Rattle.asdu.specs.declared.AddressSizes.{AddressSizes}
use Rattle.asdu.specs.declared.Header.{Header}
use Rattle.asdu.specs.declared.FtError.TheVariants as E
use Rattle.frame.specs.declared.Frame.{Frame}
use Rattle.frame.specs.Frames.{type_of, cause_of, receiver_side, last_ioa}
use Rattle.frame.specs.Ranges.{values_in_range}
use Rattle.ft.specs.Directions.{uses_function}
use Rattle.ft.specs.Procedure.{addressed, settled}
use Rattle.ft.specs.Admission.{serves}
use Rattle.ft.specs.declared.FileTransferProcedure.{FileTransferProcedure}
use Rattle.asdu.specs.declared.FtError.{FtError}
use Rattle.ft.specs.declared.Asdu.{Asdu}

-- the header of a frame that goes out: its type and cause, the own addresses, not negative
abbrev pub header_of : ℕ → ℕ → Frame → Header
header_of ca org f =
    record { type_id = type_of f; cause = cause_of f; negative = false; originator = org; common_address = ca }

-- widths that no system has are 2, then a value out of range 4, then an address 3: the station's own, or the last of the frame's
unfoldable pub framed : AddressSizes → ℕ → ℕ → Frame → List ℕ → Result Asdu FtError
framed z ca org f beside =
    unless (sizes_right z) (Err E.InvalidAddressSizes)
    (unless (values_in_range z f beside) (Err E.ValueOutOfRange)
    (unless (addressed z ca org (last_ioa f beside)) (Err E.AddressOutOfRange)
    (Ok (record { header = header_of ca org f; frame = f }))))

-- a station's own frame: 26, then 21 where it uses neither direction, 22 where not the frame's, 4, 3
unfoldable pub built : FileTransferProcedure → Frame → List ℕ → Result Asdu FtError
built p f beside =
    unless (settled p) (Err E.RecordMismatch)
    (unless (uses_function p.selection) (Err E.FunctionNotUsed)
    (unless (serves p p.role (receiver_side f)) (Err E.NotSelectedDirection)
    (framed p.sizes p.ca p.org f beside)))
