-- The numbers of the octets passed stand in the text, in at most four octets each.
use Rattle.std.proofs.Common.{◌+◌, ◌*◌, ◌≤◌, take}
use Rattle.script.specs.Decimal.{spaced}
use Rattle.lines.specs.Putting.{Put}
use Rattle.load_script.proofs.put_octets.Given as goal

abbrev pub invariant-loop-octet : goal.invariant-loop-octet
invariant-loop-octet l = record {
  most : l.next ≤ l.at + 4 * l.octet-index;
  text : Put l.initial.out l.at (spaced (take l.octet-index l.octets)) l.next l.out;
}
