-- Laws of the sum: of two lists joined, of one octet more, and that it is an octet.
use Rattle.std.proofs.Common.{◌≡◌, ℕ, ◌+◌, ◌%◌, ◌<◌, List, [], ◌∷◌, ◌++◌, length, get_or, take, add-one, arith, take-suc}
use Rattle.checksum.specs.Checksum.{octet_sum, sum_after}

pub sum-append : (xs ys : List ℕ) → octet_sum (xs ++ ys) ≡ octet_sum xs + octet_sum ys
unfolding octet_sum
sum-append [] ys = omega arith
sum-append (x ∷ xs) ys = omega (arith, sum-append xs ys)

-- one octet more
pub sum_next : (b : ℕ) (xs : List ℕ) (i s : ℕ) → i < length xs → s ≡ sum_after b (take i xs) → (s + get_or xs i 0) % 256 ≡ sum_after b (take (i + 1) xs)
unfolding sum_after octet_sum
sum_next b xs i s h e = rw (add-one, take-suc xs i 0, sum-append) (omega arith)

pub sum_octet : (s : ℕ) (xs : List ℕ) → sum_after s xs < 256
unfolding sum_after
sum_octet s xs = omega arith
