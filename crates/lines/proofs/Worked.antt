-- The first and the last but one of the lines of document 01's worked script.
use mathlib.Core.Path.{◌≡◌, refl}
use mathlib.Core.List.{[], ◌∷◌}
use Rattle.laws.specs.When.{when}
use Rattle.frame.specs.declared.Frame.TheVariants.{Sc, LastSection}
use Rattle.exchange.specs.Exchange.{by_provider, by_receiver}
use Rattle.script.specs.Decimal.{digits_within, decimal}
use Rattle.lines.specs.LineText.{fields_text, line_text}

-- `R 122 0 1 0`
worked_first : line_text by_receiver (Sc 100 (record { value = 7 }) (record { value = 0 }) (record { action = 1; error = 0 }))
    ≡ 82 ∷ 32 ∷ 49 ∷ 50 ∷ 50 ∷ 32 ∷ 48 ∷ 32 ∷ 49 ∷ 32 ∷ 48 ∷ 10 ∷ []
unfolding line_text fields_text decimal digits_within when
worked_first = refl

-- `P 123 1 1 44`
worked_close : line_text by_provider (LastSection 100 (record { value = 7 }) (record { value = 1 }) (record { value = 1 }) (record { value = 44 }))
    ≡ 80 ∷ 32 ∷ 49 ∷ 50 ∷ 51 ∷ 32 ∷ 49 ∷ 32 ∷ 49 ∷ 32 ∷ 52 ∷ 52 ∷ 10 ∷ []
unfolding line_text fields_text decimal digits_within when
worked_close = refl
