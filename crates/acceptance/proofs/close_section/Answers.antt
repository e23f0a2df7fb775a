use Rattle.laws.proofs.Decide.{whens, yes, nay}
use Rattle.acceptance.specs.Closed.{section_closed}
use Rattle.acceptance.proofs.close_section.Goals as goal
use Rattle.acceptance.proofs.close_section.Goals.{else-is_held-via-then-is_held+else-eq, else-is_held-via-else-is_held}

pub returns-then-eq : goal.returns-then-eq
unfolding section_closed
returns-then-eq c = simp (
  whens,
  yes c.is_held.ensures c.if-is_held.true,
  ← c.cut.ensures,
  ← c.checksum-sum.ensures,
  yes c.eq.ensures c.if-eq.true,
)

pub returns : goal.returns
unfolding section_closed
returns c = elim c.else-is_held.branch [
  | else-is_held-via-then-is_held+else-eq w ↦ simp (
    whens,
    yes c.is_held.ensures w.if-is_held.true,
    ← c.cut.ensures,
    ← c.checksum-sum.ensures,
    nay w.eq.ensures w.if-eq.false,
  )
  | else-is_held-via-else-is_held w ↦ simp (whens, nay c.is_held.ensures w.if-is_held.false)
]
