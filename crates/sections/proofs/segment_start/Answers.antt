use mathlib.Core.Path.{refl}
use Rattle.sections.specs.Sections.{segment_start}
use Rattle.sections.proofs.segment_start.Goals as goal

pub returns : goal.returns
unfolding segment_start
returns c = rw (c.from-before.ensures, c.from.ensures, c.saturating_sub.ensures) refl
