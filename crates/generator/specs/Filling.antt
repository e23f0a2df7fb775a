-- What the generator's octets fill (document 02, A2): a lent file, and a lent damage list of a script.
use Rattle.std.specs.Prelude.{ℕ, ◌+◌, ◌%◌, min, List, ◌++◌, map, length, drop, ◌==◌, nat_le, Result, Ok, Err}
use Rattle.laws.specs.When.{when, unless}
use Rattle.lists.specs.Parts.{div_ceil}
use Rattle.asdu.specs.declared.FtError.TheVariants.{FileTooLong}
use Rattle.sections.specs.Sections.{section_length}
use Rattle.generator.specs.Sequence.{state_after, octets_from}
use Rattle.generator.specs.declared.Generator.{Generator}
use Rattle.generator.specs.declared.Damage.{Damage}
use Rattle.asdu.specs.declared.FtError.{FtError}

-- the most octets of a file
abbrev pub max_length : ℕ
max_length = 16777215

-- the generator so many steps on
abbrev pub after_steps : ℕ → Generator → Generator
after_steps n g = record { state = state_after n g.state }

-- ---- a file

-- a file too long is 1; else the generator after it
unfoldable pub file_answer : Generator → List ℕ → Result Generator FtError
file_answer g file = unless (nat_le (length file) max_length) (Err FileTooLong) (Ok (after_steps (length file) g))

-- the file filled from front to back; one too long is as it was
unfoldable pub file_after : Generator → List ℕ → List ℕ
file_after g file = unless (nat_le (length file) max_length) file (octets_from (length file) g.state)

-- ---- a damage list

-- how many sections of a file of n octets are not empty: as many as hold the octets, so none of an empty file
-- (section k has octets exactly for k from 1 to this number: `counted_has` and `uncounted_empty`, proofs/Named.antt)
unfoldable pub non_empty_sections : ℕ → ℕ
non_empty_sections n = div_ceil n (section_length n)

-- an entry: an octet modulo that number, plus 1
unfoldable pub naming : ℕ → ℕ → ℕ
naming sections octet = octet % sections + 1

-- how many of the list's places are filled: at most 255, none for an empty file
unfoldable pub places_filled : ℕ → ℕ → ℕ
places_filled n places = when (n == 0) 0 (min 255 places)

-- so many entries from a state on, of a file of n octets
unfoldable pub entries_from : ℕ → ℕ → ℕ → List ℕ
entries_from n count s = map (naming (non_empty_sections n)) (octets_from count s)

-- a file too long is 1; else how many places are filled, and the generator after them
unfoldable pub damage_answer : Generator → ℕ → List ℕ → Result Damage FtError
damage_answer g n list =
    let count : ℕ = places_filled n (length list) in unless (nat_le n max_length) (Err FileTooLong) (Ok (record { count = count; generator = after_steps count g }))

-- the entries in front of the list, and the places past them as they were
unfoldable pub damage_after : Generator → ℕ → List ℕ → List ℕ
damage_after g n list =
    let count : ℕ = places_filled n (length list) in
    unless (nat_le n max_length) list (entries_from n count g.state ++ drop count list)
