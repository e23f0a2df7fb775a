-- A directory page to print (document 02, A3): which entries can be printed, their lines joined, and what writing a page answers and leaves in the buffer.
use Rattle.std.specs.Prelude.{ℕ, ◌/◌, ◌%◌, Bool, true, List, [], ◌∷◌, map, eqb, leb, length, drop, Result, Ok, Err}
use Rattle.laws.specs.When.{when, unless, ◌and◌}
use Rattle.lists.specs.Parts.{parts, joined}
use Rattle.asdu.specs.Entry.{entry_of, reserved_clear}
use Rattle.asdu.specs.declared.Cp56Time2a.{Cp56Time2a}
use Rattle.asdu.specs.declared.FtError.TheVariants.{ValueOutOfRange, NotPrintable, PageTooShort}
use Rattle.script.specs.Answers.{over}
use Rattle.stored.specs.Stored.{address_in}
use Rattle.directory_page.specs.Line.{line_text}
use Rattle.asdu.specs.declared.FtError.{FtError}

-- ---- one entry, as the directory call's store has it: 17 octets, the object address in 4 and the packed entry in 13

-- no reserved bit is set
unfoldable pub is_clear : List ℕ → Bool
is_clear s = reserved_clear (drop 4 s)

-- a time within document 02's bounds, and an address of at most 8 digits
unfoldable pub within_bounds : ℕ → Cp56Time2a → Bool
within_bounds ioa t =
    leb t.milliseconds 59999
    and leb t.minutes 59
    and leb t.hours 23
    and leb t.months 12
    and leb t.years 99
    and leb ioa 99999999

unfoldable pub is_printable : List ℕ → Bool
is_printable s = within_bounds (address_in s) (entry_of (drop 4 s)).time

unfoldable pub entry_line : List ℕ → List ℕ
entry_line s = line_text (address_in s) (entry_of (drop 4 s))

-- ---- all entries, one after the other

unfoldable pub stored_entries : List ℕ → List (List ℕ)
stored_entries o = parts (length o / 17) 17 o

abbrev pub every : (List ℕ → Bool) → List (List ℕ) → Bool
every p [] = true
every p (e ∷ es) = p e and every p es

-- whole entries, of which none has a reserved bit set: else 4
unfoldable pub all_right : List ℕ → Bool
all_right o = eqb (length o % 17) 0 and every is_clear (stored_entries o)

-- entries that can all be printed: else 27
unfoldable pub all_printable : List ℕ → Bool
all_printable o = every is_printable (stored_entries o)

-- ---- the page

-- the lines of the entries, joined
unfoldable pub page_text : List ℕ → List ℕ
page_text o = joined (map entry_line (stored_entries o))

-- a buffer of this length has room for it: else 28
unfoldable pub page_fits : List ℕ → ℕ → Bool
page_fits o len = leb (length (page_text o)) len

-- ---- writing a page

-- over all entries 4 is tested first, then 27, then 28; where nothing is refused, how many octets are written
unfoldable pub print_answer : List ℕ → ℕ → Result ℕ FtError
print_answer o len =
    unless (all_right o) (Err ValueOutOfRange)
    (unless (all_printable o) (Err NotPrintable) (unless (page_fits o len) (Err PageTooShort) (Ok (length (page_text o)))))

-- the buffer afterwards: the page over its front; a refusal leaves it as it came in
unfoldable pub page_after : List ℕ → List ℕ → List ℕ
page_after o buffer = when (all_right o and all_printable o and page_fits o (length buffer)) (over (page_text o) buffer) buffer
