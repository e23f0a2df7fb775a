-- The pages of a directory (document 01, The directory): o is the list of packed entries, 13 octets each.
use Rattle.std.specs.Prelude.{ℕ, zero, suc, ◌+◌, ◌-◌, ◌*◌, ◌/◌, ◌%◌, min, Bool, List, [], ◌++◌, eqb, leb, length, take, drop, Result, Ok, Err}
use Rattle.laws.specs.When.{unless, when, ◌and◌}
use Rattle.lists.specs.Parts.{div_ceil}
use Rattle.asdu.specs.Entry.{entry_of, entry_octets, all_clear, entry_address}
use Rattle.asdu.specs.declared.DirectoryEntry.{DirectoryEntry}
use Rattle.asdu.specs.declared.FtError.TheVariants as E
use Rattle.frame.specs.declared.Frame.{Frame}
use Rattle.frame.specs.declared.Frame.TheVariants.{Directory}
use Rattle.asdu.specs.declared.FtError.{FtError}
use Rattle.pager.specs.declared.Page.{Page}

-- ---- entries

-- how many there are
unfoldable pub entries_of : List ℕ → ℕ
entries_of o = length o / 13

-- whole ones, each in range: else 4
unfoldable pub entries_right : List ℕ → Bool
entries_right o = eqb (length o % 13) 0 and all_clear (entries_of o) o

-- the octets of entry k, counted from 0 over all pages
unfoldable pub packed_entry : List ℕ → ℕ → List ℕ
packed_entry o k = take 13 (drop (13 * k) o)

-- an entry with the last-file flag as told, whatever it was
abbrev pub flagged : Bool → DirectoryEntry → DirectoryEntry
flagged last e =
    record {
      nof = e.nof;
      lof = e.lof;
      sof = record {
        status = e.sof.status;
        last_file_of_directory = last;
        name_defines_subdirectory = e.sof.name_defines_subdirectory;
        transfer_active = e.sof.transfer_active;
      };
      time = e.time;
    }

-- entry k as its page carries it: only the last entry of all has the flag
unfoldable pub sent_entry : List ℕ → ℕ → DirectoryEntry
sent_entry o k = flagged (eqb (k + 1) (entries_of o)) (entry_of (packed_entry o k))

-- ---- pages

-- 18 entries to a page, the last with what is left; no entries, no page
unfoldable pub page_count : List ℕ → ℕ
page_count o = div_ceil (entries_of o) 18

unfoldable pub entry_count : List ℕ → ℕ → ℕ
entry_count o i = min 18 (entries_of o - i * 18)

-- the address of page i, where the first entry of all is at the address ioa
unfoldable pub page_address : ℕ → ℕ → ℕ
page_address ioa i = entry_address ioa (i * 18)

-- the entries numbered k to k + n - 1 as they are sent, packed and joined
abbrev pub sent_octets : List ℕ → ℕ → ℕ → List ℕ
sent_octets o zero k = []
sent_octets o (suc n) k = entry_octets (sent_entry o k) ++ sent_octets o n (suc k)

-- what stands beside the frame of page i
unfoldable pub page_octets : List ℕ → ℕ → List ℕ
page_octets o i = sent_octets o (entry_count o i) (i * 18)

-- the frame of page i, as the answer to a call: cause 5
abbrev pub page_frame : ℕ → ℕ → Frame
page_frame ioa i = Directory (page_address ioa i) (record { value = 5 })

-- ---- of so many entries, wherever they lie: 9 for what is not there

-- how many entries are on page i
unfoldable pub entries_on : ℕ → ℕ → Result ℕ FtError
entries_on n i = when (leb (div_ceil n 18) i) (Err E.IndexOutOfRange) (Ok (min 18 (n - i * 18)))

-- page i, where the first entry of all is at the address ioa
unfoldable pub page_among : ℕ → ℕ → ℕ → Result Page FtError
page_among ioa n i =
    when (leb (div_ceil n 18) i) (Err E.IndexOutOfRange) (Ok (record { ioa = entry_address ioa (i * 18); count = min 18 (n - i * 18) }))

-- the number of entry j of page i, counted over all pages
unfoldable pub number_among : ℕ → ℕ → ℕ → Result ℕ FtError
number_among n i j =
    when (leb (div_ceil n 18) i) (Err E.IndexOutOfRange)
    (when (leb (min 18 (n - i * 18)) j) (Err E.IndexOutOfRange)
    (Ok (i * 18 + j)))

-- ---- what the pager answers: 4, then 9

unfoldable pub counted : List ℕ → Result ℕ FtError
counted o = unless (entries_right o) (Err E.ValueOutOfRange) (Ok (entries_of o))

unfoldable pub pages_answer : List ℕ → Result ℕ FtError
pages_answer o = unless (entries_right o) (Err E.ValueOutOfRange) (Ok (page_count o))

unfoldable pub page_answer : ℕ → List ℕ → ℕ → Result Page FtError
page_answer ioa o i =
    unless (entries_right o) (Err E.ValueOutOfRange)
    (when (leb (page_count o) i) (Err E.IndexOutOfRange)
    (Ok (record { ioa = page_address ioa i; count = entry_count o i })))

unfoldable pub entry_answer : List ℕ → ℕ → ℕ → Result DirectoryEntry FtError
entry_answer o i j =
    unless (entries_right o) (Err E.ValueOutOfRange)
    (when (leb (page_count o) i) (Err E.IndexOutOfRange)
    (when (leb (entry_count o i) j) (Err E.IndexOutOfRange)
    (Ok (sent_entry o (i * 18 + j)))))
