-- The totals that a window shows (document 02, A14), over the records inside.
use Rattle.std.specs.Prelude.{ℕ, ◌+◌, Bool, true, false, List, [], ◌∷◌, Result, Ok, Err}
use Rattle.laws.specs.When.{unless}
use Rattle.asdu.specs.declared.FtError.TheVariants.{InvalidWindow}
use Rattle.window.specs.Window.{window_right, inside}
use Rattle.window.specs.declared.Ended.{Ended}
use Rattle.window.specs.declared.Window.{Window}
use Rattle.window.specs.declared.Totals.{Totals}
use Rattle.asdu.specs.declared.FtError.{FtError}

-- what a transfer adds to the count of whole ones
abbrev pub whole_count : Bool → ℕ
whole_count true = 1
whole_count false = 0

-- of no records
abbrev pub no_totals : Totals
no_totals = record { octets = 0; frames = 0; damaged = 0; whole = 0 }

-- with a record more
abbrev pub with_record : Ended → Totals → Totals
with_record e t =
    record {
      octets = t.octets + e.octets;
      frames = t.frames + e.frames;
      damaged = t.damaged + e.damaged;
      whole = t.whole + whole_count e.whole;
    }

-- the sums over records, as natural numbers, which never overflow; the fourth counts the whole ones
abbrev pub totals_of : List Ended → Totals
totals_of [] = no_totals
totals_of (e ∷ es) = with_record e (totals_of es)

-- 33, or the totals over the records inside
unfoldable pub totals_answer : Window → Result Totals FtError
totals_answer w = unless (window_right w) (Err InvalidWindow) (Ok (totals_of (inside w)))
