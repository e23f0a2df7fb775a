use borrow.Author.Rules.{rules}
use mathlib.Core.Path.{ap}
use lib.ListN.{length}
use Rattle.sections.proofs.Cuts.{section_most}
use Rattle.provide.proofs.Provider.section_ready.Goals as goal

pub overflow_cast-result : goal.overflow_cast-result
overflow_cast-result c = let a = c.args in
    let most = section_most a.self.section_len a.file.now a.nos.value in
    let e = ap length c.octets-octets.ensures in
    search rules
