-- The store as what is accepted, what is under way and the rest: where a segment is written, and what the two sums are of.
use Prim.Native.Nat.{ℕ, ◌+◌}
use mathlib.Core.Path.{◌≡◌}
use mathlib.Core.List.{List, ◌++◌, append_assoc}
use native.Mathlib.Nat.{add_assoc}
use lib.ListN.{length, take, drop}
use lib.Seq.{take-append_seam, drop-append_seam, take-append-add, drop-append-add}
use Rattle.store.specs.Store.{written}

module _ (acc sec rest : List ℕ) where
  -- a segment goes behind what is under way, and every other octet keeps its value
  pub written_after : (o : List ℕ) → written (acc ++ (sec ++ rest)) (length acc + length sec) o ≡ acc ++ ((sec ++ o) ++ drop (length o) rest)
  unfolding written
  written_after o = simp (add_assoc, take-append-add, drop-append-add, take-append_seam, append_assoc)

  pub staged_part : take (length sec) (drop (length acc) (acc ++ (sec ++ rest))) ≡ sec
  staged_part = rw (drop-append_seam, take-append_seam)

  pub kept_part : take (length acc) (acc ++ (sec ++ rest)) ≡ acc
  kept_part = take-append_seam acc (sec ++ rest)
