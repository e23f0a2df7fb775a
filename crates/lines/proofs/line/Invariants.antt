-- The letter and the fields so far stand over the front of the buffer.
use Rattle.std.proofs.Common.{◌∷◌, take}
use Rattle.exchange.specs.Lines.{side_of}
use Rattle.script.specs.Decimal.{spaced}
use Rattle.lines.specs.LineText.{letter_of}
use Rattle.lines.specs.Putting.{Put}
use Rattle.lines.proofs.line.Given as goal

abbrev pub invariant-loop-n : goal.invariant-loop-n
invariant-loop-n l = Put l.fn.out 0 (letter_of (side_of l.fn.sender) ∷ spaced (take l.n-index l.n-items)) l.at l.out
