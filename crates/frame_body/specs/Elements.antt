-- The octet of each element that is more than a number (IEC 60870-5-101, 7.2.6.28 to 7.2.6.32). Bits are counted from 0: the standard's bit 8 is bit 7.
use Rattle.std.specs.Prelude.{ℕ, ◌+◌, ◌*◌}
use Rattle.asdu.specs.Entry.{flag}
use Rattle.asdu.specs.declared.Frq.{Frq}
use Rattle.asdu.specs.declared.Srq.{Srq}
use Rattle.asdu.specs.declared.Scq.{Scq}
use Rattle.asdu.specs.declared.Afq.{Afq}

-- the value in bits 0 to 6, the flag in bit 7
abbrev pub frq_octet : Frq → ℕ
frq_octet q = q.value + flag 128 q.negative_confirm

abbrev pub srq_octet : Srq → ℕ
srq_octet q = q.value + flag 128 q.not_ready

-- the action in bits 0 to 3, the error in bits 4 to 7
abbrev pub scq_octet : Scq → ℕ
scq_octet q = q.action + 16 * q.error

abbrev pub afq_octet : Afq → ℕ
afq_octet q = q.action + 16 * q.error
