use borrow.Author.Rules.{rules}
use mathlib.Core.Path.{ap}
use lib.ListN.{length}
use Rattle.sections.proofs.Cuts.{section_most}
use Rattle.provide.specs.Replies.{segment_count}
use Rattle.provide.proofs.Provider.segment_count.Goals as goal

pub overflow_cast-octets : goal.overflow_cast-octets
unfolding segment_count
overflow_cast-octets c = let a = c.args in
    let most = section_most a.self.section_len a.file.now a.nos.value in
    let e = ap length c.octets-octets.ensures in
    search rules

pub returns : goal.returns
unfolding segment_count
returns c = simp (← c.segment_count.ensures, ← c.limit.ensures, ← c.octets-octets.ensures)
