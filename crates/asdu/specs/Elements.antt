-- The ranges of the elements, IEC 60870-5-101, 7.2.6.28 to 7.2.6.38: what their bits can carry.
-- NOF, NOS, LSQ and CHS use every bit of their octets, so they have no range of their own.
use Rattle.std.specs.Prelude.{Bool, leb}
use Rattle.laws.specs.When.{◌and◌}
use Rattle.asdu.specs.declared.Frq.{Frq}
use Rattle.asdu.specs.declared.Srq.{Srq}
use Rattle.asdu.specs.declared.Scq.{Scq}
use Rattle.asdu.specs.declared.Afq.{Afq}
use Rattle.asdu.specs.declared.Lof.{Lof}
use Rattle.asdu.specs.declared.Los.{Los}
use Rattle.asdu.specs.declared.Sof.{Sof}

-- seven bits beside the flag
abbrev pub frq_in_range : Frq → Bool
frq_in_range q = leb q.value 127

abbrev pub srq_in_range : Srq → Bool
srq_in_range q = leb q.value 127

-- four bits each
unfoldable pub scq_in_range : Scq → Bool
scq_in_range q = leb q.action 15 and leb q.error 15

unfoldable pub afq_in_range : Afq → Bool
afq_in_range q = leb q.action 15 and leb q.error 15

-- three octets
abbrev pub lof_in_range : Lof → Bool
lof_in_range l = leb l.value 0xFFFFFF

-- a segment has at least one octet, and at most 240
unfoldable pub los_in_range : Los → Bool
los_in_range l = leb 1 l.value and leb l.value 240

-- five bits beside the three flags
abbrev pub sof_in_range : Sof → Bool
sof_in_range s = leb s.status 31
