-- The lines of the entries so far are written, and the other entries are left.
use Rattle.std.proofs.Common.{◌≡◌, ◌*◌, ◌≤◌, length, drop}
use Rattle.std.specs.Slice.Iter.{chunks_exact_rest, chunks_exact_size}
use Rattle.script.specs.Answers.{over}
use Rattle.directory_page.proofs.Pages.{lines_of}
use Rattle.directory_page.proofs.write_lines.Given as goal

abbrev pub invariant-loop-i : goal.invariant-loop-i
invariant-loop-i l = record {
  size : chunks_exact_size l.i-iterator.iter ≡ 17;
  whole : 17 * l.i-iterator.count ≤ length l.entries;
  left : chunks_exact_rest l.i-iterator.iter ≡ drop (17 * l.i-iterator.count) l.entries;
  text : l.page ≡ over (lines_of l.i-iterator.count l.entries) l.initial.page;
}
