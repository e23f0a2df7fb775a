-- Elements and their octets: each comes back from its octet, and each octet from its element.
use Prim.Native.Nat.{ℕ, ◌+◌, ◌*◌, ◌/◌, ◌%◌, ◌≤◌, ◌<◌}
use mathlib.Core.Bool.{Bool}
use mathlib.Core.Path.{◌≡◌}
use native.Mathlib.Omega.{arith}
use Rattle.asdu.specs.Entry.{flag, bit_of}
use Rattle.asdu.specs.declared.Frq.{Frq}
use Rattle.asdu.specs.declared.Srq.{Srq}
use Rattle.asdu.specs.declared.Scq.{Scq}
use Rattle.asdu.specs.declared.Afq.{Afq}
use Rattle.asdu.proofs.EntryLaws.{flag_times, bit_back, flag_bit}
use Rattle.frame_body.specs.Elements.{frq_octet, srq_octet, scq_octet, afq_octet}
use Rattle.body_reader.specs.Elements.{frq_of, srq_of, scq_of, afq_of}

-- ---- element, octet, element

module _ (v : ℕ) (b : Bool) (h : v ≤ 127) where
  flagged_back : ((v + flag 128 b) % 128 ≡ v) × (bit_of 128 (v + flag 128 b) ≡ b)
  flagged_back =
      let x : v + flag 128 b ≡ v + 128 * flag 1 b = rw (flag_times 128 b) in
      (omega arith, bit_back 128 (v + flag 128 b) v 0 b (omega arith) (omega arith))

pub frq_back : (q : Frq) → q.value ≤ 127 → frq_of (frq_octet q) ≡ q
frq_back q h = let k = flagged_back q.value q.negative_confirm h in simp (k.0, k.1)

pub srq_back : (q : Srq) → q.value ≤ 127 → srq_of (srq_octet q) ≡ q
srq_back q h = let k = flagged_back q.value q.not_ready h in simp (k.0, k.1)

module _ (a e : ℕ) (h : a ≤ 15) where
  halves_back : ((a + 16 * e) % 16 ≡ a) × ((a + 16 * e) / 16 ≡ e)
  halves_back = (omega arith, omega arith)

pub scq_back : (q : Scq) → q.action ≤ 15 → scq_of (scq_octet q) ≡ q
scq_back q h = let k = halves_back q.action q.error h in simp (k.0, k.1)

pub afq_back : (q : Afq) → q.action ≤ 15 → afq_of (afq_octet q) ≡ q
afq_back q h = let k = halves_back q.action q.error h in simp (k.0, k.1)

-- ---- octet, element, octet

pub flagged_again : (x : ℕ) → x < 256 → x % 128 + flag 128 (bit_of 128 x) ≡ x
flagged_again x h = rw (flag_bit 128 x) (omega arith)
