-- What a list holds while another is copied over its front, and after its end part was lent for that.
use mathlib.Core.Path.{◌≡◌}
use mathlib.Core.List.{List, [], ◌++◌, append-nil, append_assoc}
use Prim.Native.Nat.{ℕ, suc, ◌+◌, ◌-◌, ◌≤◌, ◌<◌}
use native.Mathlib.Numerals.{add-one}
use native.Mathlib.Omega.{arith}
use borrow.Rule.Slice.PartMut.{put_mid, mid_of}
use lib.ListN.{length, take, drop, get_or, set, length-drop}
use lib.Seq.{take-suc, drop-cons, set_at, take_all, length-take-le, drop-drop, drop-length}
use Rattle.store.specs.Store.{written}

-- one element more
pub front_next : (s d : List ℕ) (i : ℕ) → i < length s → i < length d → set (take i s ++ drop i d) i (get_or s i 0) ≡ take (i + 1) s ++ drop (i + 1) d
front_next s d i h k =
    rw (add-one, drop-cons d i 0, take-suc s i 0, append_assoc)
    (set_at (take i s) (get_or d i 0) (drop (suc i) d) (get_or s i 0) i (length-take-le i s (omega arith)))

module _ (xs : List ℕ) (a : ℕ) (h : a ≤ length xs) where
  to_the_end : take (length xs - a) (drop a xs) ≡ drop a xs
  to_the_end = take_all (length xs - a) (drop a xs) (simp length-drop (omega arith))

  past_the_end : drop (length xs - a) (drop a xs) ≡ []
  past_the_end =
      let e : a + (length xs - a) ≡ length xs = omega arith in
      rw (drop-drop, e, drop-length)

  from_there : (p ys : List ℕ) → ys ≡ p ++ drop (length p) (mid_of a (length xs - a) xs) → put_mid a (length xs - a) xs ys ≡ written xs a p
  unfolding written
  from_there p ys e = simp (e, past_the_end, append-nil, to_the_end, drop-drop)

-- however the place is reckoned from which on the list is lent
pub written_part : (xs : List ℕ) (a place : ℕ) → a ≡ place → place ≤ length xs → (p ys : List ℕ)
    → ys ≡ p ++ drop (length p) (mid_of a (length xs - a) xs) → put_mid a (length xs - a) xs ys ≡ written xs place p
written_part xs a place same h p ys e = rw (← same) (from_there xs a (rw (← same) at h) p ys e)
