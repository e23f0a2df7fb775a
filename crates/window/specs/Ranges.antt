-- How large totals can be, so that 64 bits always hold them. The sums' own functions cite it, and the law that says so.
use Rattle.std.specs.Prelude.{ℕ, ◌+◌, ◌*◌, ◌≤◌, List, [], ◌∷◌}
use Rattle.window.specs.declared.Ended.{Ended}
use Rattle.window.specs.declared.Totals.{Totals}

-- the numbers of a record have 32 bits
abbrev pub Ranged : Ended → Type 0
Ranged e = (e.octets ≤ 4294967295) × ((e.frames ≤ 4294967295) × (e.damaged ≤ 4294967295))

abbrev pub AllRanged : List Ended → Type 0
AllRanged [] = Unit {0}
AllRanged (e ∷ es) = Ranged e × AllRanged es

-- no total is more than so many records of 32 bits make
abbrev pub WithinBy : ℕ → Totals → Type 0
WithinBy n t = (t.octets ≤ n * 4294967295) × ((t.frames ≤ n * 4294967295) × ((t.damaged ≤ n * 4294967295) × (t.whole ≤ n)))

-- no total has risen by more than a record of 32 bits makes
abbrev pub RisenBy : Totals → Totals → Type 0
RisenBy t t' =
    (t'.octets ≤ t.octets + 4294967295) × ((t'.frames ≤ t.frames + 4294967295) × ((t'.damaged ≤ t.damaged + 4294967295) × (t'.whole ≤ t.whole + 1)))
