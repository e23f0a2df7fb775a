use native.Mathlib.Omega.{arith}
use Rattle.sections.specs.Sections.{section_length, section_count}
use Rattle.sections.proofs.Cuts.{length-least, ceil_same}
use Rattle.sections.proofs.section_count.Goals as goal

pub div_ceil-requires : goal.div_ceil-requires
div_ceil-requires c = let least = length-least c.args.length in omega arith

pub returns : goal.returns
unfolding section_count
returns c =
    let least = length-least c.args.length in
    rw (c.max.ensures, c.div_ceil.ensures, c.section_length.ensures, ceil_same c.args.length (section_length c.args.length) (omega arith)) (omega arith)
