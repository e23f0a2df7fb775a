-- The octets read stand in front of the buffer.
use Rattle.std.proofs.Common.{◌≡◌, ◌-◌, length, take}
use Rattle.script.specs.Reader.{numbers}
use Rattle.script.proofs.ListLaws.{behind}
use Rattle.script.proofs.read.Reader.octets.Given as goal

abbrev pub invariant-loop-place : goal.invariant-loop-place
invariant-loop-place l =
    behind (take l.place-index l.out) (numbers (length l.initial.out - l.place-index) l.self.rest.now)
    ≡ numbers (length l.initial.out) l.initial.self.rest.now
