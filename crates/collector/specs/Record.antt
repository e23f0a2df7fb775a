-- The record of a call of a directory: its making, when it and a lent store agree, and its start (document 01, The directory and both Refused sections).
use Rattle.std.specs.Prelude.{ℕ, ◌*◌, Bool, true, false, List, [], leb, length, Result, Ok, Err}
use Rattle.laws.specs.When.{unless, ◌and◌}
use Rattle.asdu.specs.Sizes.{sizes_right}
use Rattle.asdu.specs.declared.FtError.TheVariants as E
use Rattle.frame.specs.declared.Frame.{Frame}
use Rattle.frame.specs.declared.Frame.TheVariants as F
use Rattle.ft.specs.Procedure.{settled, address_right}
use Rattle.ft.specs.Building.{built}
use Rattle.ft.specs.declared.FileTransferProcedure.{FileTransferProcedure}
use Rattle.collector.specs.declared.DirectoryCall.{DirectoryCall}
use Rattle.collector.specs.declared.DirectoryStart.{DirectoryStart}
use Rattle.asdu.specs.declared.FtError.{FtError}
use Rattle.ft.specs.declared.Asdu.{Asdu}

-- ---- the making

abbrev pub fresh_call : FileTransferProcedure → DirectoryCall
fresh_call p = record { procedure = p; started = false; held = 0; done = false }

-- 2, then 3 for the own addresses
unfoldable pub call_made : FileTransferProcedure → Result DirectoryCall FtError
call_made p =
    unless (sizes_right p.sizes) (Err E.InvalidAddressSizes)
    (unless (address_right p.sizes p.ca p.org) (Err E.AddressOutOfRange)
    (Ok (fresh_call p)))

-- settings that a making gives, and a store that holds the entries, 17 octets each: else 26
unfoldable pub call_agrees : DirectoryCall → List ℕ → Bool
call_agrees c store = settled c.procedure and leb (17 * c.held) (length store)

-- ---- the start

-- SCQ 0, which goes with cause 5; NOF and NOS 0
abbrev pub call_frame : ℕ → Frame
call_frame ioa = F.Sc ioa (record { value = 0 }) (record { value = 0 }) (record { action = 0; error = 0 })

abbrev pub starting : DirectoryCall → DirectoryCall
starting c = record { procedure = c.procedure; started = true; held = c.held; done = c.done }

abbrev pub start_step : DirectoryCall → Result Frame FtError → DirectoryStart
start_step c a = record { call = c; answer = a }

abbrev pub started_with : DirectoryCall → Result Asdu FtError → DirectoryStart
started_with c (Ok a) = start_step (starting c) (Ok a.frame)
started_with c (Err e) = start_step c (Err e)

-- 26, then what `build` refuses of the call; a done record starts too and stays done, and nothing is cleared
unfoldable pub started : DirectoryCall → List ℕ → ℕ → DirectoryStart
started c store ioa =
    unless (call_agrees c store) (start_step c (Err E.RecordMismatch)) (started_with c (built c.procedure (call_frame ioa) []))
