-- What is left of the text means the same behind the octets that were read as the whole did.
use Rattle.std.proofs.Common.{◌≡◌, ◌-◌, ◌≤◌, length}
use Rattle.directory_text.specs.Text.{entries_of}
use Rattle.directory_text.proofs.OctetLaws.{all_of}
use Rattle.directory_text.proofs.read_entries.Given as goal

abbrev pub invariant-loop-reader : goal.invariant-loop-reader
invariant-loop-reader l = (length l.octets.items ≤ 17000) × (all_of l.octets.items l.reader.rest.now ≡ entries_of l.text)

abbrev pub decreases-loop-reader : goal.decreases-loop-reader
decreases-loop-reader l = 17000 - length l.octets.items
