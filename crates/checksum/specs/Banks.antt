-- Octets that come in banks, one after the other (document 02, A6): the sum goes on from bank to bank.
use Rattle.std.specs.Prelude.{ℕ, List, [], ◌∷◌}
use Rattle.checksum.specs.Checksum.{sum_after}

abbrev pub sum_after_banks : ℕ → List (List ℕ) → ℕ
sum_after_banks sum [] = sum
sum_after_banks sum (bank ∷ banks) = sum_after_banks (sum_after sum bank) banks
