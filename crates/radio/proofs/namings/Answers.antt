use Rattle.std.proofs.Common.{arith, eqb, get_or}
use Rattle.radio.proofs.Damage.{added, namings_from}
use Rattle.radio.proofs.namings.Goals as goal

pub loop-entry-preserved : goal.loop-entry-preserved
loop-entry-preserved c =
    let a = c.args in
    let x = get_or a.damage.now c.loop-entry.entry-index 0 in
    let more = added (eqb x a.nos) in
    let from = namings_from a.damage.now c.loop-entry.entry-index (omega arith) a.nos in
    (omega (arith, c.from-count.ensures), omega (arith, c.from-count.ensures, more.0, from))
