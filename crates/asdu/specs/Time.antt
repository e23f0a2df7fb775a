-- The ranges of the binary time of seven octets, IEC 60870-5-101, 7.2.6.18: what its bits can carry. The milliseconds have both their octets.
use Rattle.std.specs.Prelude.{Bool, leb}
use Rattle.laws.specs.When.{◌and◌}
use Rattle.asdu.specs.declared.Cp56Time2a.{Cp56Time2a}

unfoldable pub time_in_range : Cp56Time2a → Bool
time_in_range t =
    leb t.minutes 63
    and leb t.hours 31
    and leb t.day_of_month 31
    and leb t.day_of_week 7
    and leb t.months 15
    and leb t.years 127
