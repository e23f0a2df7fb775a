-- Packing and unpacking undo each other: an entry in range comes back from its octets, and octets that unpack come back from their entry.
use mathlib.Core.Bool.{Bool, true, false}
use mathlib.Core.Path.{◌≡◌, refl, sym, ap, ◌∙◌}
use mathlib.Core.List.{List, [], ◌∷◌}
use Prim.Native.Nat.{ℕ, zero, suc, ◌+◌, ◌*◌, ◌/◌, ◌%◌, ◌≤◌, ◌<◌}
use native.Mathlib.Omega.{arith}
use lib.Dec.{eqb}
use lib.Arith.{digits_div, digits_mod}
use lib.ListN.{length, drop, get_or, drop_of_length-le}
use lib.Seq.{drop-cons}
use borrow.Author.Tests.{eqb-true, le-leb}
use Rattle.std.specs.Prelude.{Err, Ok}
use Rattle.laws.specs.When.{when, ◌and◌}
use Rattle.laws.proofs.Decide.{whens}
use Rattle.asdu.specs.Time.{time_in_range}
use Rattle.asdu.specs.Entry.{entry_in_range, flag, sof_octet, time_octets, entry_octets, bit_of, sof_of, time_at, entry_of, reserved_clear, unpacked}
use Rattle.asdu.specs.declared.Sof.{Sof}
use Rattle.asdu.specs.declared.Cp56Time2a.{Cp56Time2a}
use Rattle.asdu.specs.declared.FtError.TheVariants.{ValueOutOfRange}
use Rattle.asdu.specs.declared.DirectoryEntry.{DirectoryEntry}
use Rattle.asdu.proofs.Octets.{thirteen}
use Rattle.asdu.proofs.Range.{both, time_fits, entry_fits}

-- ---- flags as numbers

-- a flag is its weight, once or not at all
pub flag_times : (w : ℕ) (b : Bool) → flag w b ≡ w * flag 1 b
unfolding flag when
flag_times w true = omega arith
flag_times w false = omega arith

flag_most : (b : Bool) → flag 1 b < 2
unfolding flag when
flag_most true = omega arith
flag_most false = omega arith

flag_read : (b : Bool) → eqb (flag 1 b) 1 ≡ b
unfolding flag when
flag_read true = refl
flag_read false = refl

-- the bit of weight w is the flag, with less than w below it and whole doubles of w above it
pub bit_back : (w x below above : ℕ) (b : Bool) → below < w → x ≡ (above * 2 + flag 1 b) * w + below → bit_of w x ≡ b
unfolding bit_of
bit_back w x below above b h e = rw (e, digits_div (above * 2 + flag 1 b) h, digits_mod above (flag_most b)) (flag_read b)

-- ---- entry, octets, entry

sof_back : (s : Sof) → s.status ≤ 31 → sof_of (sof_octet s) ≡ s
unfolding sof_octet sof_of
sof_back s h =
    let a = s.last_file_of_directory in
    let b = s.name_defines_subdirectory in
    let d = s.transfer_active in
    let x = s.status + flag 32 a + flag 64 b + flag 128 d in
    let x₁ : x ≡ s.status + 32 * flag 1 a + 64 * flag 1 b + 128 * flag 1 d = rw (flag_times 32 a, flag_times 64 b, flag_times 128 d) in
    let a₁ = flag_most a in
    let b₁ = flag_most b in
    let status : x % 32 ≡ s.status = omega arith in
    simp (
      status,
      bit_back 32 x s.status (flag 1 b + 2 * flag 1 d) a (omega arith) (omega arith),
      bit_back 64 x (s.status + 32 * flag 1 a) (flag 1 d) b (omega arith) (omega arith),
      bit_back 128 x (s.status + 32 * flag 1 a + 64 * flag 1 b) 0 d (omega arith) (omega arith),
    )

module _ (t : Cp56Time2a) (h : time_in_range t ≡ true) where
  minutes_back : (x : ℕ) → x ≡ t.minutes + flag 64 t.substituted + flag 128 t.invalid
      → (x % 64 ≡ t.minutes) × (bit_of 64 x ≡ t.substituted) × (bit_of 128 x ≡ t.invalid)
  minutes_back x e =
      let s = flag_times 64 t.substituted in
      let i = flag_times 128 t.invalid in
      let s₁ = flag_most t.substituted in
      let f = time_fits t h in (
        omega arith,
        bit_back 64 x t.minutes (flag 1 t.invalid) t.substituted (omega arith) (omega arith),
        bit_back 128 x (t.minutes + 64 * flag 1 t.substituted) 0 t.invalid (omega arith) (omega arith),
      )

  hours_back : (x : ℕ) → x ≡ t.hours + flag 128 t.summer_time → (x % 32 ≡ t.hours) × (bit_of 128 x ≡ t.summer_time) × (x / 32 % 4 ≡ 0)
  hours_back x e =
      let s = flag_times 128 t.summer_time in
      let f = time_fits t h in
      let y : x / 32 ≡ 4 * flag 1 t.summer_time = omega arith in
      (omega arith, bit_back 128 x t.hours 0 t.summer_time (omega arith) (omega arith), omega arith)

  time_back : (a b c d e f : ℕ) → time_at (a ∷ b ∷ c ∷ d ∷ e ∷ f ∷ time_octets t) 6 ≡ t
  unfolding time_at time_octets
  time_back a b c d e f =
      let k = time_fits t h in
      let m = minutes_back (t.minutes + flag 64 t.substituted + flag 128 t.invalid) refl in
      let o = hours_back (t.hours + flag 128 t.summer_time) refl in
      let ms : t.milliseconds % 256 + 256 * (t.milliseconds / 256) ≡ t.milliseconds = omega arith in
      let day : (t.day_of_month + 32 * t.day_of_week) % 32 ≡ t.day_of_month = omega arith in
      let week : (t.day_of_month + 32 * t.day_of_week) / 32 ≡ t.day_of_week = omega arith in
      let month : t.months % 16 ≡ t.months = omega arith in
      let year : t.years % 128 ≡ t.years = omega arith in
      simp (ms, m.0, m.1, m.2, o.0, o.1, day, week, month, year)

-- a name and a length, at any size
pub nof_back : (n : ℕ) → n % 256 + 256 * (n / 256) ≡ n
nof_back n = omega arith

pub lof_back : (n : ℕ) → n % 256 + 256 * (n / 256 % 256) + 65536 * (n / 65536) ≡ n
lof_back n = omega arith

module _ (e : DirectoryEntry) (h : entry_in_range e ≡ true) where
  entry_back : entry_of (entry_octets e) ≡ e
  unfolding entry_of entry_octets
  entry_back =
      let f = entry_fits e h in
      simp (nof_back e.nof.value, lof_back e.lof.value, sof_back e.sof f.sof, time_back e.time f.time)

  clear_back : reserved_clear (entry_octets e) ≡ true
  unfolding reserved_clear entry_octets time_octets
  clear_back =
      let t = e.time in
      let f = (entry_fits e h).time in
      let k = time_fits t f in
      let month : t.months / 16 ≡ 0 = omega arith in
      let year : t.years / 128 ≡ 0 = omega arith in
      simp ((hours_back t f (t.hours + flag 128 t.summer_time) refl).2, month, year, whens)

-- names and milliseconds come back at any size, not only below the code's 65536
pub unpack-pack : (e : DirectoryEntry) → entry_in_range e ≡ true → unpacked (entry_octets e) ≡ Ok e
unfolding unpacked
unpack-pack e h = simp (thirteen e, clear_back e h, whens, entry_back e h)

-- ---- octets, entry, octets

-- a flag that was read has the bit's weight
flag_digit : (w d : ℕ) → d < 2 → flag w (eqb d 1) ≡ w * d
unfolding flag when
flag_digit w zero h = omega arith
flag_digit w (suc zero) h = omega arith
flag_digit w (suc (suc d)) h = absurd (omega arith)

pub flag_bit : (w x : ℕ) → flag w (bit_of w x) ≡ w * (x / w % 2)
unfolding bit_of
flag_bit w x = flag_digit w (x / w % 2) (omega arith)

sof_again : (x : ℕ) → x < 256 → sof_octet (sof_of x) ≡ x
unfolding sof_octet sof_of
sof_again x h =
    let p : x / 32 ≡ 2 * (x / 64) + x / 32 % 2 = omega arith in
    let q : x / 64 ≡ 2 * (x / 128) + x / 64 % 2 = omega arith in
    let r : x / 128 % 2 ≡ x / 128 = omega arith in
    rw (flag_bit 32 x, flag_bit 64 x, flag_bit 128 x) (omega arith)

-- the elements of a list by their places, n of them from i on
abbrev pub places : ℕ → ℕ → List ℕ → List ℕ
places zero i o = []
places (suc n) i o = get_or o i 0 ∷ places n (suc i) o

pub places_all : (n i : ℕ) (o : List ℕ) → i + n ≡ length o → places n i o ≡ drop i o
places_all zero i o h = let none : length o ≤ i = omega arith in sym (drop_of_length-le o none)
places_all (suc n) i o h =
    let more : i < length o = omega arith in
    let h' : suc i + n ≡ length o = omega arith in
    ap (λ (l : List ℕ). get_or o i 0 ∷ l) (places_all n (suc i) o h') ∙ sym (drop-cons o i 0 more)

minutes_again : (x : ℕ) → x < 256 → x % 64 + flag 64 (bit_of 64 x) + flag 128 (bit_of 128 x) ≡ x
minutes_again x h =
    let p : x / 64 ≡ 2 * (x / 128) + x / 64 % 2 = omega arith in
    let q : x / 128 % 2 ≡ x / 128 = omega arith in
    rw (flag_bit 64 x, flag_bit 128 x) (omega arith)

hours_again : (x : ℕ) → x < 256 → x / 32 % 4 ≡ 0 → x % 32 + flag 128 (bit_of 128 x) ≡ x
hours_again x h c =
    let p : x / 32 ≡ 4 * (x / 128) + x / 32 % 4 = omega arith in
    let q : x / 128 % 2 ≡ x / 128 = omega arith in
    rw (flag_bit 128 x) (omega arith)

pub low_again : (x y : ℕ) → x < 256 → (x + 256 * y) % 256 ≡ x
low_again x y h = omega arith

pub high_again : (x y : ℕ) → x < 256 → (x + 256 * y) / 256 ≡ y
high_again x y h = omega arith

-- the three octets of a length
pub lof_again : (x y z : ℕ) → x < 256 → y < 256
    → ((x + 256 * y + 65536 * z) % 256 ≡ x) × ((x + 256 * y + 65536 * z) / 256 % 256 ≡ y) × ((x + 256 * y + 65536 * z) / 65536 ≡ z)
lof_again x y z h k =
    let upper : (x + 256 * y + 65536 * z) / 256 ≡ y + 256 * z = omega arith in
    (omega arith, rw upper (low_again y z k), omega arith)

module _ (o : List ℕ) (long : length o ≡ 13) (clear : reserved_clear o ≡ true) (small : (i : ℕ) → get_or o i 0 < 256) where
  -- the octet at a place
  abbrev at : ℕ → ℕ
  at i = get_or o i 0

  time_again : time_octets (time_at o 6) ≡ places 7 6 o
  unfolding time_octets time_at reserved_clear
  time_again =
      let k = both _ _ clear in
      let hour : at 9 / 32 % 4 ≡ 0 = eqb-true _ _ k.0 in
      let month : at 11 / 16 ≡ 0 = eqb-true _ _ (both _ _ k.1).0 in
      let year : at 12 / 128 ≡ 0 = eqb-true _ _ (both _ _ k.1).1 in
      let month' : at 11 % 16 ≡ at 11 = omega arith in
      let year' : at 12 % 128 ≡ at 12 = omega arith in
      let day : at 10 % 32 + 32 * (at 10 / 32) ≡ at 10 = omega arith in
      simp (low_again (at 6) (at 7) (small 6), high_again (at 6) (at 7) (small 6), minutes_again (at 8) (small 8), hours_again (at 9) (small 9) hour, day, month', year')

  octets_again : entry_octets (entry_of o) ≡ o
  unfolding entry_octets entry_of
  octets_again =
      let lof = lof_again (at 2) (at 3) (at 4) (small 2) (small 3) in
      simp (low_again (at 0) (at 1) (small 0), high_again (at 0) (at 1) (small 0), lof.0, lof.1, lof.2, sof_again (at 5) (small 5), time_again) (places_all 13 0 o (omega arith))

  range_again : entry_in_range (entry_of o) ≡ true
  unfolding entry_in_range time_in_range entry_of time_at sof_of
  range_again =
      let s₂ = small 2 in
      let s₃ = small 3 in
      let s₄ = small 4 in
      let s₁₀ = small 10 in
      simp (
        whens,
        le-leb (at 2 + 256 * at 3 + 65536 * at 4) 0xFFFFFF (omega arith),
        le-leb (at 5 % 32) 31 (omega arith),
        le-leb (at 8 % 64) 63 (omega arith),
        le-leb (at 9 % 32) 31 (omega arith),
        le-leb (at 10 % 32) 31 (omega arith),
        le-leb (at 10 / 32) 7 (omega arith),
        le-leb (at 11 % 16) 15 (omega arith),
        le-leb (at 12 % 128) 127 (omega arith),
      )

-- of octets, which are numbers below 256
pub pack-unpack : (o : List ℕ) (e : DirectoryEntry) → ((i : ℕ) → get_or o i 0 < 256) → unpacked o ≡ Ok e → (entry_octets e ≡ o) × (entry_in_range e ≡ true)
unfolding unpacked
pack-unpack o e small h = go (eqb (length o) 13 and reserved_clear o) refl
  where
    go : (b : Bool) → (eqb (length o) 13 and reserved_clear o) ≡ b → (entry_octets e ≡ o) × (entry_in_range e ≡ true)
    go true p =
        let k = both _ _ p in
        let n : length o ≡ 13 = eqb-true _ _ k.0 in
        let u : Ok (entry_of o) ≡ Ok e = simp (whens, p) at h in
        let same : entry_of o ≡ e = cc in
        (rw (← same) (octets_again o n k.1 small), rw (← same) (range_again o n k.1 small))
    go false p = let u : Err ValueOutOfRange ≡ Ok e = simp (whens, p) at h in let z : ◌≡◌ {A = ℕ} 0 1 = cc in absurd (omega arith)
