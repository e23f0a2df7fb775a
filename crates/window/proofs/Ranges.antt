-- The totals never overflow: at most 64 records of 32 bits are inside, and 64 bits hold more.
use Prim.Native.Nat.{ℕ, zero, suc, ◌-◌, ◌≤◌}
use mathlib.Core.List.{List, [], ◌∷◌, ◌++◌}
use native.Mathlib.Omega.{arith}
use lib.ListN.{length, take, drop}
use Rattle.window.specs.Window.{latest, by_age, inside}
use Rattle.window.specs.Totals.{totals_of}
use Rattle.window.specs.Ranges.{AllRanged, WithinBy}
use Rattle.window.specs.declared.Ended.{Ended}
use Rattle.window.specs.declared.Window.{Window}
use Rattle.window.proofs.Latest.{length-latest}
use Rattle.window.proofs.Right.{Right}
use Rattle.window.proofs.Sums.{whole_most}

totals_within : (es : List Ended) → AllRanged es → WithinBy (length es) (totals_of es)
totals_within [] h = (omega arith, (omega arith, (omega arith, omega arith)))
totals_within (e ∷ es) h =
    let k = totals_within es h.1 in
    let one = whole_most e.whole in
    (omega arith, (omega arith, (omega arith, omega arith)))

-- ---- ranged records stay so

taken : (n : ℕ) (es : List Ended) → AllRanged es → AllRanged (take n es)
taken zero es h = tt
taken (suc n) [] h = tt
taken (suc n) (e ∷ es) h = (h.0, taken n es h.1)

dropped : (n : ℕ) (es : List Ended) → AllRanged es → AllRanged (drop n es)
dropped zero es h = h
dropped (suc n) [] h = tt
dropped (suc n) (e ∷ es) h = dropped n es h.1

joined : (es fs : List Ended) → AllRanged es → AllRanged fs → AllRanged (es ++ fs)
joined [] fs h k = k
joined (e ∷ es) fs h k = (h.0, joined es fs h.1 k)

late : (n : ℕ) (es : List Ended) → AllRanged es → AllRanged (latest n es)
unfolding latest
late n es h = dropped (length es - n) es h

ringed : (width place : ℕ) (es : List Ended) → AllRanged es → AllRanged (by_age width place es)
unfolding by_age
ringed width place es h =
    joined (drop place (take width es)) (take place es) (dropped place (take width es) (taken width es h)) (taken place es h)

-- of every window that the calls take, one set by hand too, no total is over 64 × 4,294,967,295
pub totals_fit : (w : Window) → Right w → AllRanged w.records → WithinBy 64 (totals_of (inside w))
unfolding inside
totals_fit w r h =
    let ring = by_age w.width w.place w.records in
    let few : length (latest w.count ring) ≤ 64 = rw length-latest (omega (arith, r.room, r.most)) in
    let k = totals_within (latest w.count ring) (late w.count ring (ringed w.width w.place w.records h)) in
    (omega arith, (omega arith, (omega arith, omega arith)))
