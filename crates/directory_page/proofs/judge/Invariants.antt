-- The entries that are left decide the rest: whether a bit of theirs is set, and whether all before them and they can be printed.
use Rattle.std.proofs.Common.{◌≡◌, ◌%◌, length}
use Rattle.std.specs.Slice.Iter.{chunks_exact_rest, chunks_exact_size}
use Rattle.laws.specs.When.{◌and◌}
use Rattle.directory_page.specs.Page.{all_right, all_printable}
use Rattle.directory_page.proofs.judge.Given as goal

abbrev pub invariant-loop-octets : goal.invariant-loop-octets
invariant-loop-octets l = record {
  size : chunks_exact_size l.octets-iterator ≡ 17;
  whole : length (chunks_exact_rest l.octets-iterator) % 17 ≡ 0;
  right : all_right l.entries ≡ all_right (chunks_exact_rest l.octets-iterator);
  fine : all_printable l.entries ≡ (l.printable and all_printable (chunks_exact_rest l.octets-iterator));
}
