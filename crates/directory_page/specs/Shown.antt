-- What a printed line shows, and how it is read back from the line's columns.
use Rattle.std.specs.Prelude.{ℕ, ◌+◌, ◌*◌, ◌-◌, Bool, List, [], ◌∷◌, eqb, take, drop, get_or}
use Rattle.asdu.specs.Entry.{entry_of}
use Rattle.asdu.specs.declared.DirectoryEntry.{DirectoryEntry}
use Rattle.stored.specs.Stored.{address_in}

pub record Shown : Type 0 where
  pub address : ℕ
  pub nof : ℕ
  pub lof : ℕ
  pub status : ℕ
  pub last_file : Bool
  pub subdirectory : Bool
  pub transfer_active : Bool
  pub year : ℕ
  pub month : ℕ
  pub day : ℕ
  pub hours : ℕ
  pub minutes : ℕ
  pub milliseconds : ℕ

-- of an entry at an object address: all but the day of the week and the time's three flags
unfoldable pub shown : ℕ → DirectoryEntry → Shown
shown ioa e =
    record {
      address = ioa;
      nof = e.nof.value;
      lof = e.lof.value;
      status = e.sof.status;
      last_file = e.sof.last_file_of_directory;
      subdirectory = e.sof.name_defines_subdirectory;
      transfer_active = e.sof.transfer_active;
      year = e.time.years;
      month = e.time.months;
      day = e.time.day_of_month;
      hours = e.time.hours;
      minutes = e.time.minutes;
      milliseconds = e.time.milliseconds;
    }

-- of an entry's 17 octets
abbrev pub entry_shown : List ℕ → Shown
entry_shown s = shown (address_in s) (entry_of (drop 4 s))

-- ---- read from a line

-- the number of a text whose digits before it make v: `0` is 48 in ASCII, and a space, below it, counts nothing
abbrev pub value_from : ℕ → List ℕ → ℕ
value_from v [] = v
value_from v (x ∷ t) = value_from (10 * v + (x - 48)) t

-- the number in so many columns from one on, counted from 0
unfoldable pub number_at : ℕ → ℕ → List ℕ → ℕ
number_at column width line = value_from 0 (take width (drop column line))

-- whether this letter stands in a column
unfoldable pub is_marked : ℕ → ℕ → List ℕ → Bool
is_marked column letter line = eqb (get_or line column 0) letter

unfoldable pub read_line : List ℕ → Shown
read_line line =
    record {
      address = number_at 0 8 line;
      nof = number_at 9 5 line;
      lof = number_at 15 8 line;
      status = number_at 24 2 line;
      last_file = is_marked 27 76 line;
      subdirectory = is_marked 28 68 line;
      transfer_active = is_marked 29 84 line;
      year = number_at 31 2 line;
      month = number_at 34 2 line;
      day = number_at 37 2 line;
      hours = number_at 40 2 line;
      minutes = number_at 43 2 line;
      milliseconds = 1000 * number_at 46 2 line + number_at 49 3 line;
    }
