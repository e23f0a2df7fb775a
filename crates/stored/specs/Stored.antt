-- The entries of a directory page, packed in 13 octets each, and how they stand in a store, in 17; where a page is written, and where it is not (document 01, The directory and Refused because of the state, 25).
use Rattle.std.specs.Prelude.{ℕ, zero, suc, ◌+◌, ◌*◌, ◌/◌, ◌%◌, Bool, false, List, [], ◌∷◌, ◌++◌, leb, length, take, drop, get_or, Result}
use Rattle.laws.specs.When.{when, ◌or◌}
use Rattle.store.specs.Store.{written}
use Rattle.asdu.specs.Entry.{entry_of, unpacked, entry_address}
use Rattle.asdu.specs.declared.DirectoryEntry.{DirectoryEntry}
use Rattle.asdu.specs.declared.FtError.{FtError}

-- how many entries a page has
unfoldable pub entries_in : List ℕ → ℕ
entries_in o = length o / 13

-- whether one of the first n has the last-file flag
abbrev pub any_last : ℕ → List ℕ → Bool
any_last zero o = false
any_last (suc n) o = (entry_of (take 13 o)).sof.last_file_of_directory or any_last n (drop 13 o)

unfoldable pub has_last : List ℕ → Bool
has_last o = any_last (entries_in o) o

-- an address in four octets, the lowest first
unfoldable pub address_octets : ℕ → List ℕ
address_octets a = a % 256 ∷ a / 256 % 256 ∷ a / 65536 % 256 ∷ a / 16777216 ∷ []

-- an entry in the store: its address, then its packed octets
unfoldable pub stored_entry : ℕ → List ℕ → List ℕ
stored_entry a e = address_octets a ++ e

-- the first n entries of a list, of which the first is the k-th after the address `base`
abbrev pub stored_from : ℕ → ℕ → ℕ → List ℕ → List ℕ
stored_from zero k base o = []
stored_from (suc n) k base o = stored_entry (entry_address base k) (take 13 o) ++ stored_from n (suc k) base (drop 13 o)

-- a page's entries in the store, their addresses rising from the page's
unfoldable pub page_stored : ℕ → List ℕ → List ℕ
page_stored ioa o = stored_from (entries_in o) 0 ioa o

-- ---- a page written into the store

-- whether a store of this length holds so many entries and has room for so many more
unfoldable pub room_for : ℕ → ℕ → ℕ → Bool
room_for held more len = leb (17 * (held + more)) len

-- the store afterwards: the whole page behind the entries held, or as it came in
unfoldable pub with_page : List ℕ → ℕ → ℕ → List ℕ → List ℕ
with_page store held ioa o =
    when (room_for held (entries_in o) (length store)) (written store (17 * held) (page_stored ioa o)) store

-- ---- for those who read the store

-- the octets of entry k
unfoldable pub octets_at : ℕ → List ℕ → List ℕ
octets_at k store = take 17 (drop (17 * k) store)

-- the address that they begin with
unfoldable pub address_in : List ℕ → ℕ
address_in s = get_or s 0 0 + 256 * get_or s 1 0 + 65536 * get_or s 2 0 + 16777216 * get_or s 3 0

-- the entry behind it
unfoldable pub entry_in : List ℕ → Result DirectoryEntry FtError
entry_in s = unpacked (drop 4 s)
