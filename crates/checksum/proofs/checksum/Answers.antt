-- At every octet the sum is that after the octets passed.
use Rattle.std.proofs.Common.{arith}
use Rattle.checksum.specs.Checksum.{octet_sum, sum_after}
use Rattle.checksum.proofs.Sums.{sum_next}
use Rattle.checksum.proofs.checksum.Goals as goal

pub loop-octet-init : goal.loop-octet-init
unfolding sum_after octet_sum
loop-octet-init c = omega arith

pub loop-octet-preserved : goal.loop-octet-preserved
loop-octet-preserved c = sum_next _ c.args.octets.now c.loop-octet.octet-index c.loop-octet.sum (omega arith) c.loop-octet.invariant
