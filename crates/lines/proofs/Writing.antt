-- Octets written behind octets that were written, and the room that a number takes.
use Prim.Native.Nat.{ℕ, ◌+◌, ◌≤◌, ◌<◌}
use mathlib.Core.Path.{◌≡◌, ◌∙◌}
use mathlib.Core.List.{List, ◌++◌}
use native.Mathlib.Omega.{arith}
use lib.ListN.{length, length-append}
use Rattle.store.specs.Store.{written}
use Rattle.store.proofs.Written.{written_twice}
use Rattle.script.specs.Decimal.{decimal}
use Rattle.script.specs.Answers.{over}
use Rattle.lines.specs.Putting.{Put}
use Rattle.script.proofs.Decimals.{digits_most}

-- octets put behind octets
pub put_then : {xs ys zs : List ℕ} {a n k : ℕ} {p q : List ℕ} → Put xs a p n ys → Put ys n q k zs → a + length p ≤ length xs → Put xs a (p ++ q) k zs
put_then {xs} {ys} {zs} {a} {n} {k} {p} {q} f g h =
    record { end = rw length-append (omega arith); text = g.text ∙ rw (f.end, f.text) (written_twice xs a p q h) }

-- octets put from the front on
pub put_front : {xs ys : List ℕ} {n : ℕ} {p : List ℕ} → Put xs 0 p n ys → (n ≡ length p) × (ys ≡ over p xs)
unfolding written
put_front {xs} {ys} {n} {p} f = let z : 0 + length p ≡ length p = omega arith in (f.end ∙ z, f.text ∙ rw z)

module _ (n : ℕ) where
  pub octet_most : n < 256 → length (decimal n) ≤ 3
  octet_most h = digits_most 2 n (omega arith)

  pub word_most : n < 4294967296 → length (decimal n) ≤ 10
  word_most h = digits_most 9 n (omega arith)
