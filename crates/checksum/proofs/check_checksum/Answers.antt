use Rattle.laws.proofs.Decide.{whens, differs, agrees}
use Rattle.checksum.specs.Checksum.{checksum_checked}
use Rattle.checksum.proofs.check_checksum.Goals as goal

pub returns-then-ne : goal.returns-then-ne
unfolding checksum_checked
returns-then-ne c = simp (whens, differs c.ne.ensures c.if-ne.true, ← c.checksum-expected.ensures)

pub returns : goal.returns
unfolding checksum_checked
returns c = simp (whens, agrees c.ne.ensures c.if-ne.false, ← c.checksum-expected.ensures)
