use Rattle.std.proofs.Common.{◌∙◌, arith}
use Rattle.std.proofs.lemmas.Result.{err_from_is_err_and}
use Rattle.directory_page.proofs.Answers.{told_refused, told_fine, told_short, told_written}
use Rattle.directory_page.proofs.write.Goals as goal

pub returns-in_err-judge : goal.returns-in_err-judge
returns-in_err-judge c =
    let p = err_from_is_err_and c.from_residual.result c.from_residual.ensures.1 in
    let told = told_refused _ _ c.args.page.now c.in_err-judge.ensures in
    rw (p.1, p.2) (told.0, told.1, tt)

pub returns-then-page-count : goal.returns-then-page-count
returns-then-page-count c =
    let told = told_short _ (told_fine _ c.in_ok-judge.ensures) c.args.page.now (omega arith) in
    (told.0, told.1, tt)

pub returns : goal.returns
returns c =
    let told = told_written _ (told_fine _ c.in_ok-judge.ensures) c.args.page.now (omega arith) in
    (told.0, c.write_lines.ensures ∙ told.1, omega arith)
