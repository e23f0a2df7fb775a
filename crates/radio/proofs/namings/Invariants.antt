-- The namings counted so far and those of the entries to come are all of them.
use Rattle.std.proofs.Common.{◌≡◌, ◌+◌, ◌≤◌, drop}
use Rattle.exchange.specs.Damaging.{namings}
use Rattle.radio.proofs.namings.Given as goal

abbrev pub invariant-loop-entry : goal.invariant-loop-entry
invariant-loop-entry l = (l.count ≤ l.entry-index) × (l.count + namings l.nos (drop l.entry-index l.damage) ≡ namings l.nos l.damage)
