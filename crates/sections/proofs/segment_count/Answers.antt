use mathlib.Core.Path.{sym}
use native.Mathlib.Omega.{arith}
use Rattle.sections.proofs.Cuts.{ceil_none, ceil_same}
use Rattle.sections.proofs.segment_count.Goals as goal

pub returns-then-limit-eq0 : goal.returns-then-limit-eq0
returns-then-limit-eq0 c = rw c.if-limit-eq0.true (sym (ceil_none _))

pub returns : goal.returns
returns c = rw (c.div_ceil.ensures, c.from.ensures) (ceil_same c.args.length c.args.limit (omega arith))
