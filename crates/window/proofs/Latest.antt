-- The last so many of a list (`latest`, specs/Window.antt).
use Prim.Native.Nat.{ℕ, ◌+◌, ◌-◌, ◌≤◌, min}
use mathlib.Core.Path.{◌≡◌, sym, ap, ◌∙◌}
use mathlib.Core.List.{List, [], ◌∷◌, ◌++◌}
use native.Mathlib.Omega.{arith}
use lib.ListN.{length, drop, length-append, length-drop}
use lib.Seq.{drop-drop, drop-length, drop-append-le}
use Rattle.window.specs.Window.{latest}

module _ {A : Type 0} where
  pub length-latest : (n : ℕ) (xs : List A) → length (latest n xs) ≡ min n (length xs)
  unfolding latest
  length-latest n xs = rw length-drop (omega arith)

  pub latest_none : (xs : List A) → latest 0 xs ≡ []
  unfolding latest
  latest_none xs = let e : length xs - 0 ≡ length xs = omega arith in rw e (drop-length xs)

  pub latest_all : (n : ℕ) (xs : List A) → length xs ≤ n → latest n xs ≡ xs
  unfolding latest
  latest_all n xs h = let e : length xs - n ≡ 0 = omega arith in rw e

  -- one more behind
  pub latest_behind : (n : ℕ) (xs : List A) (a : A) → latest (n + 1) (xs ++ (a ∷ [])) ≡ latest n xs ++ (a ∷ [])
  unfolding latest
  latest_behind n xs a =
      let e : length (xs ++ (a ∷ [])) - (n + 1) ≡ length xs - n = rw length-append (omega arith) in
      rw e (drop-append-le (length xs - n) xs (a ∷ []) (omega arith))

  -- what leaves in front was not among them
  pub latest-drop : (n k : ℕ) (xs : List A) → k ≤ length xs - n → latest n (drop k xs) ≡ latest n xs
  unfolding latest
  latest-drop n k xs h =
      let e : k + (length (drop k xs) - n) ≡ length xs - n = rw length-drop (omega arith) in
      drop-drop (length (drop k xs) - n) k xs ∙ rw e

  latest_in_front : (n : ℕ) (xs ys : List A) → latest n xs ++ ys ≡ drop (length xs - n) (xs ++ ys)
  unfolding latest
  latest_in_front n xs ys = sym (drop-append-le (length xs - n) xs ys (omega arith))

  pub latest-latest : (m n : ℕ) (xs : List A) → latest m (latest n xs) ≡ latest (min m n) xs
  unfolding latest
  latest-latest m n xs =
      let e : (length xs - n) + (length (drop (length xs - n) xs) - m) ≡ length xs - min m n = rw length-drop (omega arith) in
      drop-drop (length (drop (length xs - n) xs) - m) (length xs - n) xs ∙ rw e

  -- of those that went before no more than so many count
  pub latest-append : (n : ℕ) (xs ys : List A) → latest n (latest n xs ++ ys) ≡ latest n (xs ++ ys)
  latest-append n xs ys =
      let h : length xs - n ≤ length (xs ++ ys) - n = rw length-append (omega arith) in
      ap (latest n) (latest_in_front n xs ys) ∙ latest-drop n (length xs - n) (xs ++ ys) h
