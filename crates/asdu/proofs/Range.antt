-- What it is in numbers that a time or an entry is in range.
use mathlib.Core.Bool.{Bool, true, false}
use mathlib.Core.Path.{◌≡◌, refl}
use Prim.Native.Nat.{◌≤◌}
use borrow.Author.Tests.{leb-true}
use Rattle.laws.specs.When.{when, ◌and◌}
use Rattle.asdu.specs.Time.{time_in_range}
use Rattle.asdu.specs.Entry.{entry_in_range}
use Rattle.asdu.specs.declared.Cp56Time2a.{Cp56Time2a}
use Rattle.asdu.specs.declared.DirectoryEntry.{DirectoryEntry}

-- two tests that hold together
pub both : (a b : Bool) → (a and b) ≡ true → (a ≡ true) × (b ≡ true)
unfolding when
both true b e = (refl, e)
both false b e = (e, cc)

pub record TimeFits (t : Cp56Time2a) : Type 0 where
  pub minutes : t.minutes ≤ 63
  pub hours : t.hours ≤ 31
  pub day : t.day_of_month ≤ 31
  pub week : t.day_of_week ≤ 7
  pub months : t.months ≤ 15
  pub years : t.years ≤ 127

pub time_fits : (t : Cp56Time2a) → time_in_range t ≡ true → TimeFits t
unfolding time_in_range
time_fits t e =
    let m = both _ _ e in
    let h = both _ _ m.1 in
    let d = both _ _ h.1 in
    let w = both _ _ d.1 in
    let o = both _ _ w.1 in
    record {
      minutes = leb-true _ _ m.0;
      hours = leb-true _ _ h.0;
      day = leb-true _ _ d.0;
      week = leb-true _ _ w.0;
      months = leb-true _ _ o.0;
      years = leb-true _ _ o.1;
    }

pub record EntryFits (e : DirectoryEntry) : Type 0 where
  pub lof : e.lof.value ≤ 0xFFFFFF
  pub sof : e.sof.status ≤ 31
  pub time : time_in_range e.time ≡ true

pub entry_fits : (e : DirectoryEntry) → entry_in_range e ≡ true → EntryFits e
unfolding entry_in_range
entry_fits e h =
    let l = both _ _ h in
    let s = both _ _ l.1 in
    record { lof = leb-true _ _ l.0; sof = leb-true _ _ s.0; time = s.1 }
