-- The text of one entry, `100 0 0 0 7 0 2 0 0 32 95 234 59 23 31 12 99`: object 100, file 7 of 2 octets, the last file, 59,999 milliseconds past 23:59 on 31 December 99.
use mathlib.Core.Path.{◌≡◌, refl}
use mathlib.Core.List.{[], ◌∷◌}
use Rattle.laws.specs.When.{when}
use Rattle.script.specs.Decimal.{digits_within, decimal}
use Rattle.directory_text.specs.Text.{behind, entries_text}

worked_text : entries_text (100 ∷ 0 ∷ 0 ∷ 0 ∷ 7 ∷ 0 ∷ 2 ∷ 0 ∷ 0 ∷ 32 ∷ 95 ∷ 234 ∷ 59 ∷ 23 ∷ 31 ∷ 12 ∷ 99 ∷ [])
    ≡ 49 ∷ 48 ∷ 48 ∷ 32 ∷ 48 ∷ 32 ∷ 48 ∷ 32 ∷ 48 ∷ 32 ∷ 55 ∷ 32 ∷ 48 ∷ 32 ∷ 50 ∷ 32 ∷ 48 ∷ 32 ∷ 48 ∷ 32 ∷ 51 ∷ 50 ∷ 32 ∷ 57 ∷ 53 ∷ 32 ∷ 50 ∷ 51 ∷ 52 ∷ 32 ∷ 53 ∷ 57 ∷ 32 ∷ 50 ∷ 51 ∷ 32 ∷ 51 ∷ 49 ∷ 32 ∷ 49 ∷ 50 ∷ 32 ∷ 57 ∷ 57 ∷ 10 ∷ []
unfolding entries_text behind decimal digits_within when
worked_text = refl
