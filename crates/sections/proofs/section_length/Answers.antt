use native.Mathlib.Omega.{arith}
use Rattle.sections.specs.Sections.{section_length}
use Rattle.sections.proofs.Cuts.{ceil_same}
use Rattle.sections.proofs.section_length.Goals as goal

pub returns : goal.returns
unfolding section_length
returns c = let same = ceil_same c.args.length 255 (omega arith) in omega arith
