-- Document 01's worked script, `2 100 7 2 200 100 1 1`.
use mathlib.Core.Path.{◌≡◌, refl}
use mathlib.Core.List.{[], ◌∷◌}
use Rattle.laws.specs.When.{when}
use Rattle.script.specs.Decimal.{digits_within, decimal}
use Rattle.script.specs.Script.{text_of}

worked_text : text_of (record { object = 100; nof = 7; file = 200 ∷ 100 ∷ []; damage = 1 ∷ [] })
    ≡ 50 ∷ 32 ∷ 49 ∷ 48 ∷ 48 ∷ 32 ∷ 55 ∷ 32 ∷ 50 ∷ 32 ∷ 50 ∷ 48 ∷ 48 ∷ 32 ∷ 49 ∷ 48 ∷ 48 ∷ 32 ∷ 49 ∷ 32 ∷ 49 ∷ 10 ∷ []
unfolding text_of decimal digits_within when
worked_text = refl
