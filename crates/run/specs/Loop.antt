-- The run as it goes: frame after frame of a transfer's record, until none is left or the budget is spent. Only the run's own functions cite it; what a run answers is in Run.antt.
use Rattle.std.specs.Prelude.{ℕ, zero, suc, ◌+◌, Bool, true, false, not, List, leb, Result, Ok, Err, Option, Some, None}
use Rattle.laws.specs.When.{when}
use Rattle.provide.specs.Record.{file_agrees}
use Rattle.provide.specs.Replies.{reply_count}
use Rattle.provide.specs.declared.Provider.{Provider}
use Rattle.twoparty.specs.Party.{next_frame, advanced}
use Rattle.twoparty.specs.declared.TwoParty.{TwoParty}
use Rattle.twoparty.specs.declared.Queue.{Queue}
use Rattle.twoparty.specs.declared.Queue.TheVariants as Q
use Rattle.twoparty.specs.declared.NextFrame.{NextFrame}
use Rattle.run.specs.declared.Ending.{Ending}
use Rattle.run.specs.declared.Ending.TheVariants.{Whole, Spent}
use Rattle.asdu.specs.declared.FtError.{FtError}

abbrev pub is_nothing : Result (Option NextFrame) FtError → Bool
is_nothing (Ok None) = true
is_nothing (Ok (Some passing)) = false
is_nothing (Err e) = true

-- no frame is left
unfoldable pub is_over : TwoParty → List ℕ → Bool
is_over t file = is_nothing (next_frame t file)

-- the same by counts: whether a reply of so many frames has none at this index
abbrev pub is_past : Result ℕ FtError → ℕ → Bool
is_past (Ok n) i = leb n i
is_past (Err e) i = true

abbrev pub is_over_by : Provider → List ℕ → Queue → Bool
is_over_by p file Q.Empty = true
is_over_by p file Q.Receiver = not (file_agrees p file)
is_over_by p file (Q.Provider reply i damaged) = is_past (reply_count p file reply) i

pub record Ran : Type 0 where
  pub result : Result Ending FtError
  pub store : List ℕ

abbrev pub whole : TwoParty → ℕ → Result Ending FtError
whole t frames = Ok (Whole t.receiver.kept frames)

-- with no more of the budget left: whole where no frame is, else spent
unfoldable pub used_up : TwoParty → List ℕ → ℕ → Result Ending FtError
used_up t file frames = when (is_over t file) (whole t frames) (Ok (Spent frames))

-- with so much of the budget left, after so many frames
abbrev pub ran_on : ℕ → ℕ → TwoParty → List ℕ → List ℕ → List ℕ → Ran
ran_on zero frames t file damage store = record { result = used_up t file frames; store = store }
ran_on (suc budget) frames t file damage store =
    when (is_over t file) (record { result = whole t frames; store = store })
    (ran_on budget (frames + 1) (advanced t file damage store).party file damage (advanced t file damage store).store)

abbrev pub ran_from : ℕ → List ℕ → List ℕ → List ℕ → Result TwoParty FtError → Ran
ran_from budget file damage store (Ok t) = ran_on budget 0 t file damage store
ran_from budget file damage store (Err e) = record { result = Err e; store = store }
