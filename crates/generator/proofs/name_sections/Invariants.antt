-- The sections named so far stand in front of the rest of the part as it was.
use Rattle.std.proofs.Common.{◌≡◌, ◌++◌, map, take, drop}
use Rattle.generator.specs.Filling.{naming}
use Rattle.generator.proofs.name_sections.Given as goal

abbrev pub invariant-loop-octet : goal.invariant-loop-octet
invariant-loop-octet l = l.part ≡ map (naming l.sections) (take l.octet-index l.initial.part) ++ drop l.octet-index l.initial.part
