-- One line of a directory page to print (document 02, A3): object address, NOF, LOF, status, flags and time of an entry, one space between, and a newline.
use Rattle.std.specs.Prelude.{ℕ, ◌/◌, ◌%◌, Bool, List, [], ◌∷◌, ◌++◌, length, drop, replicate}
use Rattle.laws.specs.When.{when}
use Rattle.lists.specs.Parts.{joined}
use Rattle.asdu.specs.declared.Sof.{Sof}
use Rattle.asdu.specs.declared.Cp56Time2a.{Cp56Time2a}
use Rattle.asdu.specs.declared.DirectoryEntry.{DirectoryEntry}
use Rattle.script.specs.Decimal.{decimal}

-- ---- characters, by their numbers in ASCII

abbrev pub newline : List ℕ
newline = 10 ∷ []

abbrev pub space : List ℕ
space = 32 ∷ []

abbrev pub hyphen : List ℕ
hyphen = 45 ∷ []

abbrev pub point : List ℕ
point = 46 ∷ []

abbrev pub colon : List ℕ
colon = 58 ∷ []

-- ---- numbers

-- a number in so many places: the last so many characters of that many fillers with the number behind them
unfoldable pub in_places : ℕ → ℕ → ℕ → List ℕ
in_places filler width n = drop (length (decimal n)) (replicate width filler ++ decimal n)

-- right-aligned with spaces
abbrev pub aligned : ℕ → ℕ → List ℕ
aligned width n = in_places 32 width n

-- with leading zeros
abbrev pub zeroed : ℕ → ℕ → List ℕ
zeroed width n = in_places 48 width n

-- ---- the line

-- the letter of a flag, or a point where it is absent
unfoldable pub mark : ℕ → Bool → ℕ
mark letter b = when b letter 46

-- L last file, D subdirectory, T transfer active: 76, 68 and 84
unfoldable pub flags_text : Sof → List ℕ
flags_text s = mark 76 s.last_file_of_directory ∷ mark 68 s.name_defines_subdirectory ∷ mark 84 s.transfer_active ∷ []

-- `YY-MM-DD`
unfoldable pub date_text : Cp56Time2a → List ℕ
date_text t = joined (zeroed 2 t.years ∷ hyphen ∷ zeroed 2 t.months ∷ hyphen ∷ zeroed 2 t.day_of_month ∷ [])

-- `hh:mm:ss.mmm`: the milliseconds of the time are those of its minute
unfoldable pub clock_text : Cp56Time2a → List ℕ
clock_text t =
    joined
    (zeroed 2 t.hours ∷ colon ∷ zeroed 2 t.minutes ∷ colon ∷ zeroed 2 (t.milliseconds / 1000) ∷ point ∷ zeroed 3 (t.milliseconds % 1000) ∷ [])

-- address 8, NOF 5, LOF 8, status 2, flags 3, time 21
unfoldable pub line_text : ℕ → DirectoryEntry → List ℕ
line_text ioa e =
    joined
    (aligned 8 ioa
    ∷ space
    ∷ aligned 5 e.nof.value
    ∷ space
    ∷ aligned 8 e.lof.value
    ∷ space
    ∷ aligned 2 e.sof.status
    ∷ space
    ∷ flags_text e.sof
    ∷ space
    ∷ date_text e.time
    ∷ space
    ∷ clock_text e.time
    ∷ newline
    ∷ [])
