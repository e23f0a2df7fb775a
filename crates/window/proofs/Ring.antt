-- The ring of a window's places, read from the oldest record to the newest (`by_age`, specs/Window.antt).
use Prim.Native.Nat.{ℕ, ◌+◌, ◌-◌, ◌%◌, ◌≤◌, ◌<◌}
use mathlib.Core.Path.{◌≡◌, sym, ap, ◌∙◌}
use mathlib.Core.List.{List, [], ◌∷◌, ◌++◌, append_assoc, append-nil}
use native.Mathlib.Nat.{mod-eq_of_lt, mod_self}
use native.Mathlib.Decide.{dec_lt}
use native.Mathlib.Numerals.{add-one}
use native.Mathlib.Omega.{arith}
use lib.ListN.{length, take, drop, set, length-append, length-take, length-drop, drop_of_length-le}
use lib.Seq.{drop-drop, drop-append-le, take-set-lt, drop-set-lt, take-suc-set}
use Rattle.std.proofs.lemmas.List.{drop-take}
use Rattle.window.specs.Window.{by_age, latest}
use Rattle.window.specs.declared.Ended.{Ended}

module _ (width place : ℕ) (records : List Ended) (in-width : place < width) (enough : width ≤ length records) where
  pub length-ring : length (by_age width place records) ≡ width
  unfolding by_age
  length-ring = simp (length-append, length-take, length-drop) (omega arith)

  length-first : length (drop place (take width records)) ≡ width - place
  length-first = simp (length-take, length-drop) (omega arith)

  -- the records inside, from the two parts that the next place cuts the ring into
  pub inside_by_parts : (count : ℕ) → drop (width - count) (take (width - place) (drop place records) ++ take place records) ≡ latest count (by_age width place records)
  unfolding by_age latest
  inside_by_parts count =
      let e : place + (width - place) ≡ width = omega arith in
      let older : drop place (take width records) ≡ take (width - place) (drop place records) = rw e at (drop-take place (width - place) records) in
      rw (← older) (ap (λ n. drop (n - count) (by_age width place records)) (sym length-ring))

  -- all but the oldest, and a record behind them
  without_oldest : (e : Ended) → drop 1 (by_age width place records) ++ (e ∷ []) ≡ drop (place + 1) (take width records) ++ (take place records ++ (e ∷ []))
  unfolding by_age
  without_oldest e =
      let j : 1 ≤ length (drop place (take width records)) = rw length-first (omega arith) in
      rw (drop-append-le 1 (drop place (take width records)) (take place records) j, drop-drop 1 place (take width records), append_assoc)

  put_inside : (e : Ended) → place + 1 < width
      → by_age width (place + 1) (set records place e) ≡ drop (place + 1) (take width records) ++ (take place records ++ (e ∷ []))
  unfolding by_age
  put_inside e h =
      let i : place < length records = omega arith in
      let k : place < place + 1 = omega arith in
      rw (take-set-lt width records place e in-width, drop-set-lt (place + 1) (take width records) place e k, add-one, take-suc-set records place e i)

  put_last : (e : Ended) → width ≡ place + 1
      → by_age width 0 (set records place e) ≡ drop (place + 1) (take width records) ++ (take place records ++ (e ∷ []))
  unfolding by_age
  put_last e h =
      let i : place < length records = omega arith in
      let k : length (take width records) ≤ place + 1 = rw length-take (omega arith) in
      rw (drop_of_length-le (take width records) k, h, add-one, take-suc-set records place e i, append-nil)

  -- a record put into its place is the newest, and the oldest has left
  pub put_in_ring : (e : Ended) → by_age width ((place + 1) % width) (set records place e) ≡ drop 1 (by_age width place records) ++ (e ∷ [])
  put_in_ring e = by_test (dec_lt (place + 1) width)
    where
      by_test : Dec (place + 1 < width) → by_age width ((place + 1) % width) (set records place e) ≡ drop 1 (by_age width place records) ++ (e ∷ [])
      by_test (yes h) = rw (mod-eq_of_lt h) (put_inside e h ∙ sym (without_oldest e))
      by_test (no h) =
          let g : width ≡ place + 1 = omega arith in
          let z : (place + 1) % width ≡ 0 = rw g (mod_self (place + 1)) in
          rw z (put_last e g ∙ sym (without_oldest e))
