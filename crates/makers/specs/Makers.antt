-- The makers of single frames, with the conventional widths (document 01, refusals 3 to 7).
use Rattle.std.specs.Prelude.{ℕ, List, [], eqb, leb, length, Result, Err}
use Rattle.laws.specs.When.{when, unless}
use Rattle.asdu.specs.declared.Nof.{Nof}
use Rattle.asdu.specs.declared.Nos.{Nos}
use Rattle.asdu.specs.declared.Scq.{Scq}
use Rattle.asdu.specs.declared.FtError.TheVariants as E
use Rattle.frame.specs.declared.Frame.{Frame}
use Rattle.frame.specs.declared.Frame.TheVariants.{Sc, Segment}
use Rattle.ft.specs.Procedure.{conventional}
use Rattle.ft.specs.Building.{framed}
use Rattle.asdu.specs.declared.FtError.{FtError}
use Rattle.ft.specs.declared.Asdu.{Asdu}

-- a frame that nothing stands beside: 4, then 3
abbrev pub made : ℕ → ℕ → Frame → Result Asdu FtError
made ca org f = framed conventional ca org f []

-- a select or call with this action and no error
abbrev pub with_action : ℕ → Scq
with_action action = record { action = action; error = 0 }

-- a request with a qualifier of the caller's: the call of a directory, action 0, is 7; then 4, 3
unfoldable pub sc_made : ℕ → ℕ → ℕ → Nof → Nos → Scq → Result Asdu FtError
sc_made ca org ioa nof nos scq =
    when (eqb scq.action 0) (Err E.CallDirectoryAction)
    (made ca org (Sc ioa nof nos scq))

-- a segment of the payload's length: none is 5, one over 236 octets is 6; then 4, 3
unfoldable pub segment_made : ℕ → ℕ → ℕ → Nof → Nos → List ℕ → Result Asdu FtError
segment_made ca org ioa nof nos payload =
    unless (leb 1 (length payload)) (Err E.EmptySegment)
    (unless (leb (length payload) 236) (Err E.SegmentTooLong)
    (framed conventional ca org (Segment ioa nof nos (record { value = length payload })) payload))
