-- What is left means the same with the digits that were taken as the whole did.
use Rattle.std.proofs.Common.{◌≡◌, length}
use Rattle.script.specs.Reader.{more, number}
use Rattle.script.proofs.read.Reader.digits.Given as goal

abbrev pub invariant-loop-value : goal.invariant-loop-value
invariant-loop-value l = more l.limit l.value l.self.rest.now ≡ number l.limit l.fn.self.rest.now

abbrev pub decreases-loop-value : goal.decreases-loop-value
decreases-loop-value l = length l.self.rest.now
