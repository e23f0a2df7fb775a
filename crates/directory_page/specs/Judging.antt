-- How the function that judges all entries says what it found: the first two tests of `print_answer` (Page.antt). Only it cites this.
use Rattle.std.specs.Prelude.{ℕ, List, Result, Ok, Err, ⊤}
use Rattle.laws.specs.When.{unless}
use Rattle.asdu.specs.declared.FtError.TheVariants.{ValueOutOfRange, NotPrintable}
use Rattle.directory_page.specs.Page.{all_right, all_printable}
use Rattle.asdu.specs.declared.FtError.{FtError}

unfoldable pub judged_as : List ℕ → Result ⊤ FtError
judged_as o = unless (all_right o) (Err ValueOutOfRange) (unless (all_printable o) (Err NotPrintable) (Ok tt))
