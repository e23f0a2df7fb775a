-- How a file is cut: sections that count from 1 (IEC 60870-5-101, 7.2.6.34), and segments that a frame can carry (document 01, The Provider's record).
use Rattle.std.specs.Prelude.{ℕ, ◌+◌, ◌-◌, ◌*◌, max, List, [], eqb, length, take, drop}
use Rattle.laws.specs.When.{when}
use Rattle.lists.specs.Parts.{div_ceil, parts}
use Rattle.sections.specs.declared.Part.{Part}

-- of a file of n octets: the larger of 4,096 and n / 255 rounded up
unfoldable pub section_length : ℕ → ℕ
section_length n = max 4096 (div_ceil n 255)

-- never none
unfoldable pub section_count : ℕ → ℕ
section_count n = max 1 (div_ceil n (section_length n))

-- a file's sections, in order
unfoldable pub sections : List ℕ → List (List ℕ)
sections file = parts (section_count (length file)) (section_length (length file)) file

-- the octets of section `nos`, where a section has `size`: 0 and any past the end are empty
unfoldable pub section_octets : ℕ → List ℕ → ℕ → List ℕ
section_octets size file nos = when (eqb nos 0) [] (take size (drop ((nos - 1) * size) file))

-- a section's segments, in order
unfoldable pub segments : ℕ → List ℕ → List (List ℕ)
segments limit section = parts (div_ceil (length section) limit) limit section

-- segment i of a section
unfoldable pub segment_octets : ℕ → List ℕ → ℕ → List ℕ
segment_octets limit section i = take limit (drop (i * limit) section)

-- where it begins in the file
unfoldable pub segment_start : ℕ → ℕ → ℕ → ℕ → ℕ
segment_start size limit nos i = (nos - 1) * size + i * limit

-- ---- a part of lent octets, by where it begins and how long it is

abbrev pub no_part : Part
no_part = record { start = 0; length = 0 }

-- its octets; what lies past the end is not there
unfoldable pub part_octets : Part → List ℕ → List ℕ
part_octets q whole = take q.length (drop q.start whole)
