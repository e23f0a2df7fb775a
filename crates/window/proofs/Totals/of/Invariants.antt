use Rattle.std.proofs.Common.{◌≡◌, map, length}
use Rattle.window.specs.Totals.{totals_of}
use Rattle.window.specs.Ranges.{WithinBy}
use Rattle.window.proofs.Totals.of.Given as goal

abbrev pub invariant-loop-ended : goal.invariant-loop-ended
invariant-loop-ended l = (l.totals ≡ totals_of (map (λ e. e.now) l.yielded)) × WithinBy (length l.yielded) l.totals
