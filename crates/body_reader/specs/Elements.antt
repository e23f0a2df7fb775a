-- What the octet of each element that is more than a number says (IEC 60870-5-101, 7.2.6.28 to 7.2.6.32). Bits are counted from 0: the standard's bit 8 is bit 7.
use Rattle.std.specs.Prelude.{ℕ, ◌/◌, ◌%◌}
use Rattle.asdu.specs.Entry.{bit_of}
use Rattle.asdu.specs.declared.Frq.{Frq}
use Rattle.asdu.specs.declared.Srq.{Srq}
use Rattle.asdu.specs.declared.Scq.{Scq}
use Rattle.asdu.specs.declared.Afq.{Afq}

-- the value in bits 0 to 6, the flag in bit 7
abbrev pub frq_of : ℕ → Frq
frq_of o = record { value = o % 128; negative_confirm = bit_of 128 o }

abbrev pub srq_of : ℕ → Srq
srq_of o = record { value = o % 128; not_ready = bit_of 128 o }

-- the action in bits 0 to 3, the error in bits 4 to 7
abbrev pub scq_of : ℕ → Scq
scq_of o = record { action = o % 16; error = o / 16 }

abbrev pub afq_of : ℕ → Afq
afq_of o = record { action = o % 16; error = o / 16 }
