-- The line of an entry written out: object address 100, file 7 of 8,192 octets, no flag, 17 November 26 at 16:41 and 43,465 milliseconds.
use mathlib.Core.Path.{◌≡◌, refl}
use mathlib.Core.List.{[], ◌∷◌}
use Rattle.laws.specs.When.{when}
use Rattle.asdu.specs.Entry.{bit_of, sof_of, time_at, entry_of}
use Rattle.script.specs.Decimal.{digits_within, decimal}
use Rattle.stored.specs.Stored.{address_in}
use Rattle.directory_page.specs.Line.{in_places, mark, flags_text, date_text, clock_text, line_text}
use Rattle.directory_page.specs.Page.{entry_line}

-- `     100     7     8192  0 ... 26-11-17 16:41:43.465`
worked_line : entry_line (100 ∷ 0 ∷ 0 ∷ 0 ∷ 7 ∷ 0 ∷ 0 ∷ 32 ∷ 0 ∷ 0 ∷ 201 ∷ 169 ∷ 41 ∷ 16 ∷ 81 ∷ 11 ∷ 26 ∷ [])
    ≡ 32 ∷ 32 ∷ 32 ∷ 32 ∷ 32 ∷ 49 ∷ 48 ∷ 48 ∷ 32 ∷ 32 ∷ 32 ∷ 32 ∷ 32 ∷ 55 ∷ 32 ∷ 32 ∷ 32 ∷ 32 ∷ 32 ∷ 56 ∷ 49 ∷ 57 ∷ 50 ∷ 32 ∷ 32 ∷ 48 ∷ 32 ∷ 46 ∷ 46 ∷ 46 ∷ 32 ∷ 50 ∷ 54 ∷ 45 ∷ 49 ∷ 49 ∷ 45 ∷ 49 ∷ 55 ∷ 32 ∷ 49 ∷ 54 ∷ 58 ∷ 52 ∷ 49 ∷ 58 ∷ 52 ∷ 51 ∷ 46 ∷ 52 ∷ 54 ∷ 53 ∷ 10 ∷ []
unfolding entry_line line_text in_places mark flags_text date_text clock_text decimal digits_within address_in entry_of sof_of time_at bit_of when
worked_line = refl
