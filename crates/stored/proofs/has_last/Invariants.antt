-- The entries that are left decide the result.
use Rattle.std.proofs.Common.{◌≡◌}
use Rattle.std.specs.Slice.Iter.{chunks_exact_rest, chunks_exact_size}
use Rattle.stored.specs.Stored.{has_last}
use Rattle.stored.proofs.has_last.Given as goal

abbrev pub invariant-loop-entry : goal.invariant-loop-entry
invariant-loop-entry l = (chunks_exact_size l.entry-iterator ≡ 13) × (has_last l.entries ≡ has_last (chunks_exact_rest l.entry-iterator))
