-- The entries so far are written, and the others are left.
use Rattle.std.proofs.Common.{◌≡◌, ◌*◌, ◌≤◌, length, drop}
use Rattle.std.specs.Slice.Iter.{chunks_exact_rest, chunks_exact_size}
use Rattle.store.specs.Store.{written}
use Rattle.stored.specs.Stored.{stored_from}
use Rattle.stored.proofs.write_entries.Given as goal

abbrev pub invariant-loop-i : goal.invariant-loop-i
invariant-loop-i l = record {
  size : chunks_exact_size l.i-iterator.iter ≡ 13;
  whole : 13 * l.i-iterator.count ≤ length l.entries;
  left : chunks_exact_rest l.i-iterator.iter ≡ drop (13 * l.i-iterator.count) l.entries;
  text : l.store ≡ written l.initial.store l.place (stored_from l.i-iterator.count 0 l.ioa l.entries);
}
