-- At every octet the sum is that after the octets passed.
use Rattle.std.proofs.Common.{◌≡◌, take}
use Rattle.checksum.specs.Checksum.{sum_after}
use Rattle.checksum.proofs.checksum.Given as goal

abbrev pub invariant-loop-octet : goal.invariant-loop-octet
invariant-loop-octet l = l.sum ≡ sum_after l.so_far (take l.octet-index l.octets)
