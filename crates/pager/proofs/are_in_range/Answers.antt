use Rattle.std.proofs.Common.{◌/◌, length, ◌∙◌, arith, rules, tests}
use Rattle.std.proofs.lemmas.Iterator.Search.{all_from_yields_List}
use borrow.Author.Tests.{eq-eqb}
use Rattle.laws.proofs.Decide.{whens}
use Rattle.asdu.specs.Entry.{page_right}
use Rattle.pager.specs.Pages.{entries_right, entries_of}
use Rattle.pager.proofs.Entries.{each_right, entries_yielded}
use Rattle.pager.proofs.are_in_range.Goals as goal

pub returns-then-entries-eq0 : goal.returns-then-entries-eq0
unfolding entries_right entries_of
returns-then-entries-eq0 c =
    let o = c.args.entries.now in
    let all = all_from_yields_List page_right _ _ c.all.result c.all.ensures.ran (entries_yielded c.chunks_exact.result cc) (λ x b q k. search (rules, tests)) in
    let each = each_right (length o / 13) o (omega arith) in
    simp (whens, eq-eqb _ _ c.if-entries-eq0.true) (rw c.chunks_exact.ensures.rest at all ∙ each)
