use Rattle.std.proofs.Common.{◌∙◌, rules, tests}
use Rattle.std.proofs.lemmas.Iterator.{YieldsList-from_slice}
use Rattle.std.proofs.lemmas.Iterator.Search.{all_from_yields_List}
use Rattle.asdu.specs.Entry.{entry_in_range}
use Rattle.pager_list.proofs.Packed.{all_of_list}
use Rattle.pager_list.proofs.are_in_range.Goals as goal

pub returns : goal.returns
returns c =
    let es = c.args.entries.now in
    all_from_yields_List entry_in_range _ _ c.all.result c.all.ensures.ran (YieldsList-from_slice es cc) (λ x b q k. search (rules, tests)) ∙ all_of_list es
