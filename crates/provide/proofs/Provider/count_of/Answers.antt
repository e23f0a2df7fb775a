use borrow.Author.Rules.{rules}
use Rattle.provide.proofs.Segments.{segments_most}
use Rattle.provide.proofs.Provider.count_of.Goals as goal

pub overflow_add-result : goal.overflow_add-result
overflow_add-result c = let most = segments_most c.args.self c.args.file.now c.in-Section.nos in
    search rules
