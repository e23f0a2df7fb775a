-- What the pager answers over the station's entries themselves (document 01, The directory and Form by location): 4 where an entry is out of range, which has no octets of its own, else what the packed pager answers on the entries' octets.
use Rattle.std.specs.Prelude.{ℕ, Bool, true, List, [], ◌∷◌, ◌++◌, length, Result, Ok, Err}
use Rattle.laws.specs.When.{unless, ◌and◌}
use Rattle.asdu.specs.Entry.{entry_in_range, entry_octets}
use Rattle.asdu.specs.declared.DirectoryEntry.{DirectoryEntry}
use Rattle.asdu.specs.declared.FtError.TheVariants as E
use Rattle.pager.specs.Pages.{pages_answer, page_answer, entry_answer}
use Rattle.asdu.specs.declared.FtError.{FtError}
use Rattle.pager.specs.declared.Page.{Page}

-- each entry is in range
abbrev pub all_in_range : List DirectoryEntry → Bool
all_in_range [] = true
all_in_range (e ∷ es) = entry_in_range e and all_in_range es

-- the octets of the entries, joined in order
abbrev pub packed_list : List DirectoryEntry → List ℕ
packed_list [] = []
packed_list (e ∷ es) = entry_octets e ++ packed_list es

-- how many there are, where each is in range: else 4
unfoldable pub listed_count : List DirectoryEntry → Result ℕ FtError
listed_count es = unless (all_in_range es) (Err E.ValueOutOfRange) (Ok (length es))

-- ---- what the pager answers

unfoldable pub listed_pages : List DirectoryEntry → Result ℕ FtError
listed_pages es = unless (all_in_range es) (Err E.ValueOutOfRange) (pages_answer (packed_list es))

unfoldable pub listed_page : ℕ → List DirectoryEntry → ℕ → Result Page FtError
listed_page ioa es i = unless (all_in_range es) (Err E.ValueOutOfRange) (page_answer ioa (packed_list es) i)

unfoldable pub listed_entry : List DirectoryEntry → ℕ → ℕ → Result DirectoryEntry FtError
listed_entry es i j = unless (all_in_range es) (Err E.ValueOutOfRange) (entry_answer (packed_list es) i j)
