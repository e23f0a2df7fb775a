-- The Provider's record: its making, and when it and a lent file agree (document 01, refusals 1 to 3 and 26).
use Rattle.std.specs.Prelude.{ℕ, ◌+◌, min, Bool, true, false, List, eqb, leb, length, Result, Ok, Err}
use Rattle.laws.specs.When.{unless, ◌and◌}
use Rattle.asdu.specs.Sizes.{sizes_right, max_ioa}
use Rattle.asdu.specs.declared.Nof.{Nof}
use Rattle.asdu.specs.declared.FtError.TheVariants as E
use Rattle.ft.specs.Procedure.{settled, addressed}
use Rattle.ft.specs.declared.FileTransferProcedure.{FileTransferProcedure}
use Rattle.sections.specs.Sections.{section_length}
use Rattle.provide.specs.declared.Provider.{Provider}
use Rattle.asdu.specs.declared.FtError.{FtError}

-- of a file of n octets
abbrev pub fresh_provider : FileTransferProcedure → ℕ → Nof → ℕ → Provider
fresh_provider p ioa nof n =
    record { procedure = p; ioa = ioa; nof = nof; length = n; section_len = section_length n; unmatched = 0; done = false }

-- 2, then 3 for the own addresses and the object address, then 1
unfoldable pub provider_made : FileTransferProcedure → ℕ → Nof → ℕ → Result Provider FtError
provider_made p ioa nof n =
    unless (sizes_right p.sizes) (Err E.InvalidAddressSizes)
    (unless (addressed p.sizes p.ca p.org ioa) (Err E.AddressOutOfRange)
    (unless (leb n 0xFFFFFF) (Err E.FileTooLong)
    (Ok (fresh_provider p ioa nof n))))

-- a record that a making gives, of this file: else 26
unfoldable pub file_agrees : Provider → List ℕ → Bool
file_agrees p file =
    settled p.procedure
    and leb p.ioa (max_ioa p.procedure.sizes)
    and leb p.length 0xFFFFFF
    and eqb p.length (length file)
    and eqb p.section_len (section_length p.length)

-- the transfer is over
abbrev pub ended : Provider → Provider
ended p =
    record {
      procedure = p.procedure;
      ioa = p.ioa;
      nof = p.nof;
      length = p.length;
      section_len = p.section_len;
      unmatched = p.unmatched;
      done = true;
    }

-- one request more was for another file
abbrev pub counted : Provider → Provider
counted p =
    record {
      procedure = p.procedure;
      ioa = p.ioa;
      nof = p.nof;
      length = p.length;
      section_len = p.section_len;
      unmatched = min 4294967295 (p.unmatched + 1);
      done = p.done;
    }
