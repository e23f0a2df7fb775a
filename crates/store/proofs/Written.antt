-- Octets written into a store: nothing, one octet, a lent part, and octets behind octets.
use mathlib.Core.Path.{◌≡◌, ◌∙◌}
use mathlib.Core.List.{List, [], ◌∷◌, ◌++◌, append-nil, append_assoc}
use Prim.Native.Nat.{ℕ, ◌+◌, ◌≤◌, ◌<◌}
use native.Mathlib.Nat.{add_assoc, add-zero}
use native.Mathlib.Numerals.{add-one}
use native.Mathlib.Omega.{arith}
use borrow.Rule.Slice.PartMut.{put_mid}
use lib.ListN.{length, take, drop, set, length-append, length-take, length-drop, take-append-drop, drop_of_length-le}
use lib.Seq.{sets, sets-eq, set_split, length-take-le, take_at, drop_at, drop-drop}
use Rattle.store.specs.Store.{written}

pub written_none : (s : List ℕ) (p : ℕ) → written s p [] ≡ s
unfolding written
written_none s p = rw add-zero (take-append-drop p s)

pub written_one : (s : List ℕ) (p x : ℕ) → p < length s → set s p x ≡ written s p (x ∷ [])
unfolding written
written_one s p x h = rw add-one (set_split s p x h)

-- the store is as long as it was
pub written_long : (s : List ℕ) (p : ℕ) (o : List ℕ) → p + length o ≤ length s → length (written s p o) ≡ length s
unfolding written
written_long s p o h = simp (length-append, length-take, length-drop) (omega arith)

-- a part of the store that was lent, and has other octets now
pub written_lent : (s : List ℕ) (p n : ℕ) (o : List ℕ) → length o ≡ n → put_mid p n s o ≡ written s p o
unfolding written
written_lent s p n o e = rw (drop-drop, e)

-- octets written behind others that were written are written with them
pub written_twice : (s : List ℕ) (p : ℕ) (a b : List ℕ) → p + length a ≤ length s → written (written s p a) (p + length a) b ≡ written s p (a ++ b)
unfolding written
written_twice s p a b h =
    let n : length (take p s ++ a) ≡ p + length a = rw (length-append, length-take-le p s (omega arith)) in
    let rest = drop (p + length a) s in
    let front : take (p + length a) (take p s ++ (a ++ rest)) ≡ take p s ++ a =
    rw (← (append_assoc (take p s) a rest)) (take_at (take p s ++ a) rest (p + length a) n) in
    let behind : drop (p + length a + length b) (take p s ++ (a ++ rest)) ≡ drop (p + length (a ++ b)) s =
    rw (← (append_assoc (take p s) a rest), ← (drop-drop (length b) (p + length a) ((take p s ++ a) ++ rest)), drop_at (take p s ++ a) rest (p + length a) n, drop-drop, length-append, ← add_assoc) in
    simp (front, behind, append_assoc)

-- ---- octets written one part after the other

-- what a store was and is, and the octets written into it from a place on
pub record Wrote (was : List ℕ) (place : ℕ) (octets is : List ℕ) : Type 0 where
  pub text : is ≡ written was place octets

pub wrote : {xs ys p : List ℕ} {a : ℕ} → ys ≡ written xs a p → Wrote xs a p ys
wrote e = record { text = e }

-- and others behind them
pub then_wrote : {xs ys zs p q : List ℕ} {a b : ℕ} → Wrote xs a p ys → Wrote ys b q zs → a + length p ≡ b → b ≤ length xs → Wrote xs a (p ++ q) zs
then_wrote {xs} {ys} {zs} {p} {q} {a} {b} f g e h =
    record { text = g.text ∙ rw (f.text, ← e) (written_twice xs a p q (omega arith)) }

-- over the whole store
pub whole_wrote : {xs ys p : List ℕ} → Wrote xs 0 p ys → length xs ≡ length p → ys ≡ p
unfolding written
whole_wrote {xs} {ys} {p} f e = let none : length xs ≤ 0 + length p = omega arith in f.text ∙ rw (drop_of_length-le xs none) (append-nil p)

-- one octet
pub one_wrote : (xs : List ℕ) (a x : ℕ) → a < length xs → Wrote xs a (x ∷ []) (set xs a x)
one_wrote xs a x h = wrote (written_one xs a x h)

-- each octet by itself
pub each_wrote : (o xs : List ℕ) (a : ℕ) → a + length o ≤ length xs → Wrote xs a o (sets xs a o)
unfolding written
each_wrote o xs a h = wrote (sets-eq o xs a h ∙ rw append_assoc)
