-- CHS, IEC 60870-5-101, 7.2.6.37: the sum of all octets, modulo 256.
use Rattle.std.specs.Prelude.{ℕ, ◌+◌, ◌%◌, List, [], ◌∷◌, ◌==◌, Result, Ok, Err, ⊤}
use Rattle.laws.specs.When.{when}
use Rattle.asdu.specs.declared.Chs.{Chs}
use Rattle.asdu.specs.declared.FtError.{FtError}
use Rattle.asdu.specs.declared.FtError.TheVariants.{ChecksumMismatch}
use Rattle.checksum.specs.declared.SumsDiffer.{SumsDiffer}

unfoldable pub octet_sum : List ℕ → ℕ
octet_sum [] = 0
octet_sum (x ∷ xs) = x + octet_sum xs

-- the sum after these octets, from the sum so far (document 02, A6)
unfoldable pub sum_after : ℕ → List ℕ → ℕ
sum_after sum octets = (sum + octet_sum octets) % 256

-- the sum of whole octets: the same from 0
abbrev pub checksum : List ℕ → ℕ
checksum octets = sum_after 0 octets

-- a stated sum that differs from the octets' is refused with both sums, which `refusal_of` makes 8
unfoldable pub checksum_checked : List ℕ → Chs → Result ⊤ SumsDiffer
checksum_checked octets stated =
    when (checksum octets == stated.value) (Ok tt) (Err (record { expected = record { value = checksum octets }; got = stated }))

abbrev pub refusal_of : SumsDiffer → FtError
refusal_of d = ChecksumMismatch
