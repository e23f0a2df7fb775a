-- The octets passed stand in front of the rest of the part as it was, and the generator is as many steps on.
use Rattle.std.proofs.Common.{◌≡◌, ◌++◌, drop}
use Rattle.generator.specs.Sequence.{state_after, octets_from}
use Rattle.generator.proofs.Generator.fill.Given as goal

abbrev pub invariant-loop-place : goal.invariant-loop-place
invariant-loop-place l = (l.generator.state ≡ state_after l.place-index l.initial.generator.state)
    × (l.part ≡ octets_from l.place-index l.initial.generator.state ++ drop l.place-index l.initial.part)
