-- The invariant: the entries that are left decide the result.
use Rattle.std.proofs.Common.{◌≡◌, ◌/◌, length}
use Rattle.asdu.specs.Entry.{all_clear}
use Rattle.asdu.proofs.entry.are_clear.Given as goal

abbrev pub invariant-loop-entry : goal.invariant-loop-entry
invariant-loop-entry l =
    (l.entry-iterator.size ≡ 13)
    × (all_clear (length l.octets / 13) l.octets ≡ all_clear (length l.entry-iterator.rest.now / 13) l.entry-iterator.rest.now)
