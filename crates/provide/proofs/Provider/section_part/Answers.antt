use borrow.Author.Rules.{rules}
use Rattle.provide.specs.Replies.{section_part}
use Rattle.provide.proofs.Segments.{segments_most}
use Rattle.provide.proofs.Provider.section_part.Goals as goal

pub overflow_cast-at : goal.overflow_cast-at
unfolding section_part
overflow_cast-at c = let a = c.args in
    let most = segments_most a.self a.file.now a.nos in
    search rules
