use borrow.Author.Rules.{rules}
use mathlib.Core.Path.{ap}
use lib.ListN.{length}
use Rattle.provide.specs.Replies.{octets_of, limit_of, section_frame}
use Rattle.provide.proofs.Building.{limit_most}
use Rattle.sections.proofs.Cuts.{segment_most}
use Rattle.provide.proofs.Segments.{segments_most}
use Rattle.provide.proofs.Provider.section_frame.Goals as goal

pub overflow_cast-index : goal.overflow_cast-index
unfolding section_frame
overflow_cast-index c = let a = c.args in
    let most = segments_most a.self a.file.now a.nos in
    search rules

pub segment_frame-requires : goal.segment_frame-requires
unfolding section_frame
segment_frame-requires c = let a = c.args in
    let most = segment_most (limit_of a.self) (octets_of a.self a.file.now a.nos) a.index in
    let e = ap length c.segment-payload.ensures in
    let limit = limit_most a.self.procedure.sizes in
    search rules
