use Rattle.std.proofs.Common.{◌∙◌}
use Rattle.std.proofs.lemmas.Result.{err_from_is_err_and}
use Rattle.directory_page.proofs.Entries.{judged_set}
use Rattle.directory_page.proofs.judge.Goals as goal

pub returns-in_err-entry : goal.returns-in_err-entry
returns-in_err-entry c =
    let p = err_from_is_err_and c.from_residual.result c.from_residual.ensures.1 in
    rw (p.1, p.2)
    (judged_set _ _ _ _ _ c.loop-octets.invariant.right c.in-Some.ensures.steps.1.0 (c.in-Some.ensures.steps.1.1 ∙ c.loop-octets.invariant.size) c.loop-octets.invariant.whole c.in_err-entry.ensures)
