-- What a transfer shows, frame by frame (document 01, A transfer script): the next frame, then one step, and so on.
use Rattle.std.specs.Prelude.{ℕ, zero, suc, List, [], ◌∷◌, Result, Ok, Err, Option, Some, None}
use Rattle.twoparty.specs.Party.{next_frame, party_stepped}
use Rattle.twoparty.specs.declared.TwoParty.{TwoParty}
use Rattle.twoparty.specs.declared.NextFrame.{NextFrame}
use Rattle.asdu.specs.declared.FtError.{FtError}

-- a frame, and what is shown after it; with no frame, or an error, it ends
abbrev pub then_shown : Result (Option NextFrame) FtError → List (Result (Option NextFrame) FtError) → List (Result (Option NextFrame) FtError)
then_shown (Ok None) later = []
then_shown (Ok (Some passing)) later = Ok (Some passing) ∷ later
then_shown (Err e) later = Err e ∷ []

-- what is shown after a step; a refused one shows its error
abbrev pub step_shown : (TwoParty → List (Result (Option NextFrame) FtError)) → Result TwoParty FtError → List (Result (Option NextFrame) FtError)
step_shown later (Ok t) = later t
step_shown later (Err e) = Err e ∷ []

-- so many times the next frame and a step, or fewer where no frame is left
abbrev pub shown : List ℕ → List ℕ → ℕ → TwoParty → List ℕ → List (Result (Option NextFrame) FtError)
shown file damage zero t store = []
shown file damage (suc frames) t store =
    then_shown (next_frame t file)
    (step_shown (λ (t' : TwoParty). shown file damage frames t' (party_stepped t file damage store).store) (party_stepped t file damage store).result)
