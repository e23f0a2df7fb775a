-- What stands in a part while it is written from front to back.
use Rattle.std.proofs.Common.{◌≡◌, ℕ, suc, ◌+◌, ◌<◌, List, [], ◌∷◌, ◌++◌, map, length, get_or, take, drop, set, arith, append_assoc, add-one, drop-cons, take-suc, length-take-le}
use Rattle.std.proofs.lemmas.List.{map-append}
use lib.ListN.{length-map}
use lib.Seq.{get_or_at, set_at}

module _ (xs was : List ℕ) (i : ℕ) where
  -- one element more
  pub front_set : (v : ℕ) → length xs ≡ i → i < length was → set (xs ++ drop i was) i v ≡ (xs ++ (v ∷ [])) ++ drop (i + 1) was
  front_set v n h = rw (add-one, drop-cons was i 0, append_assoc) (set_at xs (get_or was i 0) (drop (suc i) was) v i n)

  pub front_get : length xs ≡ i → i < length was → get_or (xs ++ drop i was) i 0 ≡ get_or was i 0
  front_get n h = rw (drop-cons was i 0 h) (get_or_at xs (get_or was i 0) (drop (suc i) was) 0 i n)

-- one element more of a list whose elements are changed
pub map_next : (f : ℕ → ℕ) (xs : List ℕ) (i : ℕ) → i < length xs → map f (take (i + 1) xs) ≡ map f (take i xs) ++ (f (get_or xs i 0) ∷ [])
map_next f xs i h = rw (add-one, take-suc xs i 0 h) (map-append f (take i xs) (get_or xs i 0 ∷ []))

pub map_front_length : (f : ℕ → ℕ) (xs : List ℕ) (i : ℕ) → i < length xs → length (map f (take i xs)) ≡ i
map_front_length f xs i h = rw (length-map) (length-take-le i xs (omega arith))

-- for the loops' own proofs
pub ruleset fronts = (front_set, front_get, map_next, map_front_length)
