use borrow.Author.Rules.{rules}
use Rattle.provide.proofs.Building.{limit_most}
use Rattle.provide.proofs.Provider.limit.Goals as goal

pub overflow_cast-result : goal.overflow_cast-result
overflow_cast-result c = let most = limit_most c.args.self.procedure.sizes in search rules
