use Rattle.std.proofs.Common.{◌∙◌, rules, tests}
use Rattle.std.proofs.lemmas.Iterator.{YieldsList-from_slice}
use Rattle.std.proofs.lemmas.Iterator.Search.{all_from_yields_List}
use Rattle.radio.specs.Radio.{has_octets}
use Rattle.radio.proofs.Damage.{all_named}
use Rattle.radio.proofs.all_have_octets.Goals as goal

pub returns : goal.returns
returns c =
    let a = c.args in
    all_from_yields_List (has_octets a.section_len a.file.now) _ _ c.all.result c.all.ensures.ran (YieldsList-from_slice a.damage.now cc) (λ x b q k. search (rules, tests)) ∙ all_named a.section_len a.file.now a.damage.now
