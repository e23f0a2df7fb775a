-- The packed directory entry, as IEC 60870-5-101 lays out type 126: NOF 2 octets, LOF 3, SOF 1, time 7, the lowest octet of each number first.
use Rattle.std.specs.Prelude.{ℕ, zero, suc, ◌+◌, ◌*◌, ◌/◌, ◌%◌, min, Bool, true, List, [], ◌∷◌, ◌++◌, eqb, length, take, drop, get_or, Result, Ok, Err, ⊤}
use Rattle.laws.specs.When.{when, ◌and◌}
use Rattle.asdu.specs.Elements.{lof_in_range, sof_in_range}
use Rattle.asdu.specs.Time.{time_in_range}
use Rattle.asdu.specs.Sizes.{within}
use Rattle.asdu.specs.declared.Nof.{Nof}
use Rattle.asdu.specs.declared.Lof.{Lof}
use Rattle.asdu.specs.declared.Sof.{Sof}
use Rattle.asdu.specs.declared.Cp56Time2a.{Cp56Time2a}
use Rattle.asdu.specs.declared.DirectoryEntry.{DirectoryEntry}
use Rattle.asdu.specs.declared.FtError.TheVariants.{ValueOutOfRange}
use Rattle.asdu.specs.declared.FtError.{FtError}

-- what the bits of the 13 octets can carry; a name has all of its 16 bits
unfoldable pub entry_in_range : DirectoryEntry → Bool
entry_in_range e = lof_in_range e.lof and sof_in_range e.sof and time_in_range e.time

-- ---- entry to octets

-- NOF in two octets and LOF in three (7.2.6.33, 7.2.6.35), the lowest first
abbrev pub nof_octets : Nof → List ℕ
nof_octets n = n.value % 256 ∷ n.value / 256 ∷ []

abbrev pub lof_octets : Lof → List ℕ
lof_octets l = l.value % 256 ∷ l.value / 256 % 256 ∷ l.value / 65536 ∷ []

-- a flag's place in its octet
unfoldable pub flag : ℕ → Bool → ℕ
flag weight b = when b weight 0

unfoldable pub sof_octet : Sof → ℕ
sof_octet s =
    s.status + flag 32 s.last_file_of_directory + flag 64 s.name_defines_subdirectory + flag 128 s.transfer_active

-- milliseconds in two octets, then minutes, hours, the day of the month below the day of the week, month, year
unfoldable pub time_octets : Cp56Time2a → List ℕ
time_octets t =
    t.milliseconds % 256
    ∷ t.milliseconds / 256
    ∷ (t.minutes + flag 64 t.substituted + flag 128 t.invalid)
    ∷ (t.hours + flag 128 t.summer_time)
    ∷ (t.day_of_month + 32 * t.day_of_week)
    ∷ t.months
    ∷ t.years
    ∷ []

unfoldable pub entry_octets : DirectoryEntry → List ℕ
entry_octets e = nof_octets e.nof ++ lof_octets e.lof ++ sof_octet e.sof ∷ time_octets e.time

-- ---- octets to entry

-- NOF of the two octets from the place i on, and LOF of the three
abbrev pub nof_at : List ℕ → ℕ → Nof
nof_at o i = record { value = get_or o i 0 + 256 * get_or o (i + 1) 0 }

abbrev pub lof_at : List ℕ → ℕ → Lof
lof_at o i = record { value = get_or o i 0 + 256 * get_or o (i + 1) 0 + 65536 * get_or o (i + 2) 0 }

-- the bit of this weight
unfoldable pub bit_of : ℕ → ℕ → Bool
bit_of weight octet = eqb (octet / weight % 2) 1

unfoldable pub sof_of : ℕ → Sof
sof_of o =
    record {
      status = o % 32;
      last_file_of_directory = bit_of 32 o;
      name_defines_subdirectory = bit_of 64 o;
      transfer_active = bit_of 128 o;
    }

-- of the seven octets that begin at the place i
unfoldable pub time_at : List ℕ → ℕ → Cp56Time2a
time_at o i =
    record {
      milliseconds = get_or o i 0 + 256 * get_or o (i + 1) 0;
      minutes = get_or o (i + 2) 0 % 64;
      substituted = bit_of 64 (get_or o (i + 2) 0);
      invalid = bit_of 128 (get_or o (i + 2) 0);
      hours = get_or o (i + 3) 0 % 32;
      summer_time = bit_of 128 (get_or o (i + 3) 0);
      day_of_month = get_or o (i + 4) 0 % 32;
      day_of_week = get_or o (i + 4) 0 / 32;
      months = get_or o (i + 5) 0 % 16;
      years = get_or o (i + 6) 0 % 128;
    }

unfoldable pub entry_of : List ℕ → DirectoryEntry
entry_of o =
    record {
      nof = nof_at o 0;
      lof = lof_at o 2;
      sof = sof_of (get_or o 5 0);
      time = time_at o 6;
    }

-- the reserved bits are 0: two of the hours' octet, four of the month's, one of the year's
unfoldable pub reserved_clear : List ℕ → Bool
reserved_clear o = eqb (get_or o 9 0 / 32 % 4) 0 and eqb (get_or o 11 0 / 16) 0 and eqb (get_or o 12 0 / 128) 0

-- ---- packing, unpacking and a page

-- an entry out of range, or a place of another length than 13, is 4
unfoldable pub packs : DirectoryEntry → List ℕ → Bool
packs e out = entry_in_range e and eqb (length out) 13

unfoldable pub pack_answer : DirectoryEntry → List ℕ → Result ⊤ FtError
pack_answer e out = when (packs e out) (Ok tt) (Err ValueOutOfRange)

-- the place afterwards: the octets, or as it came in
unfoldable pub pack_into : DirectoryEntry → List ℕ → List ℕ
pack_into e out = when (packs e out) (entry_octets e) out

-- a broken length or a reserved bit that is set is 4
unfoldable pub unpacked : List ℕ → Result DirectoryEntry FtError
unpacked o = when (eqb (length o) 13 and reserved_clear o) (Ok (entry_of o)) (Err ValueOutOfRange)

-- of the first so many entries
abbrev pub all_clear : ℕ → List ℕ → Bool
all_clear zero o = true
all_clear (suc n) o = reserved_clear (take 13 o) and all_clear n (drop 13 o)

-- the address of an entry, counted from the one that has the address `base`: they rise by 1 and stop at 4,294,967,295
unfoldable pub entry_address : ℕ → ℕ → ℕ
entry_address base i = min (base + i) 0xFFFFFFFF

-- the entries of a directory page: 1 to 18 whole ones, each in range
unfoldable pub page_right : List ℕ → Bool
page_right o = eqb (length o % 13) 0 and within 1 18 (length o / 13) and all_clear (length o / 13) o
