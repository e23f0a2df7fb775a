-- Banks in turn sum as their joined octets do, from any sum so far.
use Rattle.std.proofs.Common.{◌≡◌, ℕ, ◌<◌, List, [], ◌∷◌, ◌++◌, ◌∙◌, arith}
use Rattle.lists.specs.Parts.{joined}
use Rattle.checksum.specs.Checksum.{octet_sum, sum_after}
use Rattle.checksum.specs.Banks.{sum_after_banks}
use Rattle.checksum.proofs.Sums.{sum-append, sum_octet}

pub two_banks : (sum : ℕ) (xs ys : List ℕ) → sum_after (sum_after sum xs) ys ≡ sum_after sum (xs ++ ys)
unfolding sum_after
two_banks sum xs ys = rw (sum-append xs ys) (omega arith)

-- any number of them; with none the sum so far, an octet, stays
pub banks_joined : (sum : ℕ) → sum < 256 → (banks : List (List ℕ)) → sum_after_banks sum banks ≡ sum_after sum (joined banks)
unfolding sum_after octet_sum
banks_joined sum octet [] = omega arith
banks_joined sum octet (bank ∷ banks) = banks_joined (sum_after sum bank) (sum_octet sum bank) banks ∙ two_banks sum bank (joined banks)
