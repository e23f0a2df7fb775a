-- The record of an ended two-party run (document 02, A14), from its answer and the number of damaged sendings.
use Rattle.std.specs.Prelude.{ℕ, min, Bool, true, false, Result, Ok, Err}
use Rattle.window.specs.declared.Ended.{Ended}
use Rattle.run.specs.declared.Ending.{Ending}
use Rattle.run.specs.declared.Ending.TheVariants as R
use Rattle.asdu.specs.declared.FtError.{FtError}

-- a number over 32 bits stays at their largest value
abbrev pub in32_bits : ℕ → ℕ
in32_bits n = min 4294967295 n

abbrev pub record_with : ℕ → ℕ → ℕ → Bool → Ended
record_with octets frames damaged whole = record { octets = in32_bits octets; frames = in32_bits frames; damaged = in32_bits damaged; whole = whole }

-- Whole: the octets that the Receiver accepted. Spent: the answer names no octets, and none are counted as held. A run that was refused never began, and has no record.
abbrev pub record_of : Result Ending FtError → ℕ → Result Ended FtError
record_of (Ok (R.Whole length frames)) damaged = Ok (record_with length frames damaged true)
record_of (Ok (R.Spent frames)) damaged = Ok (record_with 0 frames damaged false)
record_of (Err e) damaged = Err e
