use Rattle.std.proofs.Common.{◌≡◌, length, take, arith, length-take-le}
use Rattle.generator.proofs.Answers.{list_refused, list_none, list_filled}
use Rattle.generator.proofs.Generator.fill_damage.Goals as goal

pub returns : goal.returns
returns c =
    let a = c.args in
    let n : length (take c.min-count.result a.list.now) ≡ c.min-count.result = length-take-le c.min-count.result a.list.now (omega arith) in
    list_filled a.self a.file_len a.list.now c.fill_named-generator.result c.min-count.result c.section_count-sections.result c.fill_named-generator.new.part
    (omega arith) c.if-file_len-eq0.false c.min-count.ensures c.section_count-sections.ensures (rw n at c.fill_named-generator.ensures.0) (rw n at c.fill_named-generator.ensures.1)

pub returns-then-file_len-gt-MAX_LENGTH : goal.returns-then-file_len-gt-MAX_LENGTH
returns-then-file_len-gt-MAX_LENGTH c = let a = c.args in list_refused a.self a.file_len a.list.now c.if-file_len-gt-MAX_LENGTH.true

pub returns-then-file_len-eq0 : goal.returns-then-file_len-eq0
returns-then-file_len-eq0 c = let a = c.args in list_none a.self a.file_len a.list.now c.if-file_len-eq0.true
