use borrow.Author.Rules.{rules}
use Rattle.run.proofs.Endings.{party_run}
use Rattle.run.proofs.run.Goals as goal

pub returns-in_err-party : goal.returns-in_err-party
returns-in_err-party c = (
  simp (← party_run, ← c.in_err-party.ensures) (search rules),
  simp (← party_run, ← c.in_err-party.ensures),
)

pub returns : goal.returns
returns c = (
  simp (← party_run, ← c.in_ok-party.ensures) c.run_on.ensures.0,
  simp (← party_run, ← c.in_ok-party.ensures) c.run_on.ensures.1,
)
