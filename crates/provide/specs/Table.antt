-- Document 01's written values: the Provider's table, both checksums and both segment limits.
use Rattle.std.specs.Prelude.{ℕ, ◌≡◌, true, [], ◌∷◌, Err}
use Rattle.asdu.specs.Sizes.{sizes_right, segment_limit, header_len}
use Rattle.asdu.specs.declared.AddressSizes.{AddressSizes}
use Rattle.asdu.specs.declared.Nof.{Nof}
use Rattle.asdu.specs.declared.FtError.TheVariants.{FileTooLong}
use Rattle.checksum.specs.Checksum.{checksum}
use Rattle.ft.specs.Procedure.{addressed}
use Rattle.ft.specs.declared.FileTransferProcedure.{FileTransferProcedure}
use Rattle.sections.specs.Sections.{section_length, section_count, sections}
use Rattle.provide.specs.Record.{provider_made}

-- a file of n octets has sections of this length, so many
abbrev pub Row : ℕ → ℕ → ℕ → Type 0
Row n size count = (section_length n ≡ size) × (section_count n ≡ count)

-- a station whose addresses a making accepts
abbrev pub Addressed : FileTransferProcedure → ℕ → Type 0
Addressed p ioa = (sizes_right p.sizes ≡ true) × (addressed p.sizes p.ca p.org ioa ≡ true)

pub record Written : Type 0 where
  -- the table of files, in its order
  pub empty : Row 0 4096 1
  pub one_section : Row 4096 4096 1
  pub two_sections : Row 4097 4096 2
  pub all_sections : Row 1044480 4096 255
  pub longer_sections : Row 1044481 4097 255
  pub longest : Row 16777215 65793 255
  pub too_long : (p : FileTransferProcedure) (ioa : ℕ) (nof : Nof) → Addressed p ioa → provider_made p ioa nof 16777216 ≡ Err FileTooLong
  -- the empty file's one section is empty
  pub empty_section : sections [] ≡ [] ∷ []
  -- the two checksums
  pub sum_of_none : checksum [] ≡ 0
  pub sum_of_two : checksum (200 ∷ 100 ∷ []) ≡ 44
  -- the two segment limits, by the octets of header and object address
  pub widest : (z : AddressSizes) → header_len z ≡ 6 → z.information_object_address_octets ≡ 3 → segment_limit z ≡ 236
  pub narrowest : (z : AddressSizes) → header_len z ≡ 4 → z.information_object_address_octets ≡ 1 → segment_limit z ≡ 240
