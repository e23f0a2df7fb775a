-- The text of a script, part by part.
use Prim.Native.Nat.{ℕ, ◌+◌, ◌≤◌, ◌<◌}
use mathlib.Core.Path.{◌≡◌, sym}
use mathlib.Core.List.{List, [], ◌∷◌, ◌++◌, append-nil}
use native.Mathlib.Numerals.{add-one}
use native.Mathlib.Omega.{arith}
use lib.ListN.{length, take, get_or, take-append-drop}
use lib.Seq.{take-suc}
use Rattle.store.specs.Store.{written}
use Rattle.script.specs.Decimal.{decimal, spaced}
use Rattle.lines.specs.Numbers.{place_after, text_with}
use Rattle.lines.specs.Putting.{Put}
use Rattle.lines.proofs.Writing.{put_then, octet_most}
use Rattle.lines.proofs.Numbers.{put_with_room}
use Rattle.script.proofs.Decimals.{digits_most}
use Rattle.script.proofs.Meaning.{spaced-append}

-- nothing is put before the first number
pub put_nothing : (xs : List ℕ) (a : ℕ) → Put xs a [] a xs
unfolding written
put_nothing xs a = let z : a + 0 ≡ a = omega arith in record { end = sym z; text = rw z (sym (take-append-drop a xs)) }

-- octets put behind octets, by the place that is reached
pub put_after : {xs ys zs : List ℕ} {a n k : ℕ} {p q : List ℕ} → Put xs a p n ys → n ≤ length xs → Put ys n q k zs → Put xs a (p ++ q) k zs
put_after f h g = put_then f g (omega (arith, f.end))

-- one number more
pub spaced_next : (xs : List ℕ) (i : ℕ) → i < length xs → spaced (take i xs) ++ (32 ∷ decimal (get_or xs i 0)) ≡ spaced (take (i + 1) xs)
spaced_next xs i h = rw (add-one, take-suc xs i 0 h, spaced-append) (simp append-nil)

-- an octet takes four octets at most
pub octet_put : {xs ys : List ℕ} {at next x : ℕ} → x ≤ 255 → at + 4 ≤ length xs
    → (next ≡ place_after xs at (32 ∷ decimal x)) × (ys ≡ text_with xs at (32 ∷ decimal x))
    → (next ≤ at + 4) × Put xs at (32 ∷ decimal x) next ys
octet_put {xs} {ys} {at} {next} {x} small room said =
    let few = octet_most x (omega arith) in
    let put : Put xs at (32 ∷ decimal x) next ys = put_with_room said (omega arith) in
    (omega (arith, put.end), put)

-- a number of at most four digits takes five octets at most
pub count_put : {xs ys : List ℕ} {at next k : ℕ} → k ≤ 9999 → at + 5 ≤ length xs
    → (next ≡ place_after xs at (32 ∷ decimal k)) × (ys ≡ text_with xs at (32 ∷ decimal k))
    → (next ≤ at + 5) × Put xs at (32 ∷ decimal k) next ys
count_put {xs} {ys} {at} {next} {k} small room said =
    let few = digits_most 3 k (omega arith) in
    let put : Put xs at (32 ∷ decimal k) next ys = put_with_room said (omega arith) in
    (omega (arith, put.end), put)
