-- What it is in numbers that a frame's body is in range and has room, kind by kind; how long a body is; and that document 01's ranges at the narrowest widths are those of a body.
use Prim.Native.Nat.{ℕ, ◌+◌, ◌≤◌}
use mathlib.Core.Bool.{Bool, true, false, true≢false}
use mathlib.Core.Path.{◌≡◌, refl, sym}
use mathlib.Core.List.{List}
use native.Mathlib.Omega.{arith}
use lib.Dec.{eqb, leb}
use lib.ListN.{length}
use borrow.Author.Tests.{leb-true, le-leb, eqb-true}
use Rattle.laws.specs.When.{when, ◌and◌}
use Rattle.asdu.specs.Elements.{scq_in_range, afq_in_range, los_in_range}
use Rattle.asdu.specs.Sizes.{segment_limit, element_room, header_len}
use Rattle.asdu.specs.declared.AddressSizes.{AddressSizes}
use Rattle.asdu.specs.declared.Nof.{Nof}
use Rattle.asdu.specs.declared.Nos.{Nos}
use Rattle.asdu.specs.declared.Lof.{Lof}
use Rattle.asdu.specs.declared.Los.{Los}
use Rattle.asdu.specs.declared.Frq.{Frq}
use Rattle.asdu.specs.declared.Srq.{Srq}
use Rattle.asdu.specs.declared.Scq.{Scq}
use Rattle.asdu.specs.declared.Afq.{Afq}
use Rattle.asdu.specs.declared.Lsq.{Lsq}
use Rattle.asdu.specs.declared.Chs.{Chs}
use Rattle.asdu.proofs.Range.{both}
use Rattle.frame.specs.Frames.{type_of}
use Rattle.frame.specs.Ranges.{values_in_range, segment_in_range}
use Rattle.frame.specs.declared.Frame.{Frame}
use Rattle.frame.specs.declared.Frame.TheVariants.{FileReady, SectionReady, Sc, LastSection, Ack, Segment, Directory, QueryLog}
use Rattle.frame_body.specs.Body.{body_type, body_of, body_in_range}

-- ---- a body in range, with room in a buffer of n octets

module _ {f : Frame} (p : List ℕ) (n : ℕ) (fits : (body_in_range f p ≡ true) × (length (body_of f p) ≤ n)) where
  pub file_ready_fits : {ioa : ℕ} {nof : Nof} {lof : Lof} {frq : Frq} → f ≡ FileReady ioa nof lof frq
      → (6 ≤ n) × (lof.value ≤ 0xFFFFFF) × (frq.value ≤ 127)
  file_ready_fits e =
      let h = rw e at fits in
      let k = both _ _ h.0 in
      (h.1, leb-true _ _ k.0, leb-true _ _ k.1)

  pub section_ready_fits : {ioa : ℕ} {nof : Nof} {nos : Nos} {lof : Lof} {srq : Srq} → f ≡ SectionReady ioa nof nos lof srq
      → (7 ≤ n) × (lof.value ≤ 0xFFFFFF) × (srq.value ≤ 127)
  section_ready_fits e =
      let h = rw e at fits in
      let k = both _ _ h.0 in
      (h.1, leb-true _ _ k.0, leb-true _ _ k.1)

  pub sc_fits : {ioa : ℕ} {nof : Nof} {nos : Nos} {scq : Scq} → f ≡ Sc ioa nof nos scq → (4 ≤ n) × (scq.action ≤ 15) × (scq.error ≤ 15)
  unfolding scq_in_range
  sc_fits e =
      let h = rw e at fits in
      let k = both _ _ h.0 in
      (h.1, leb-true _ _ k.0, leb-true _ _ k.1)

  pub last_section_fits : {ioa : ℕ} {nof : Nof} {nos : Nos} {lsq : Lsq} {chs : Chs} → f ≡ LastSection ioa nof nos lsq chs → 5 ≤ n
  last_section_fits e = (rw e at fits).1

  pub ack_fits : {ioa : ℕ} {nof : Nof} {nos : Nos} {afq : Afq} → f ≡ Ack ioa nof nos afq → (4 ≤ n) × (afq.action ≤ 15) × (afq.error ≤ 15)
  unfolding afq_in_range
  ack_fits e =
      let h = rw e at fits in
      let k = both _ _ h.0 in
      (h.1, leb-true _ _ k.0, leb-true _ _ k.1)

  pub segment_fits : {ioa : ℕ} {nof : Nof} {nos : Nos} {los : Los} → f ≡ Segment ioa nof nos los → 4 + length p ≤ n
  segment_fits e = let h = rw e at fits.1 in omega arith

-- no body is longer than 244 octets
pub body_most : (f : Frame) (p : List ℕ) → body_in_range f p ≡ true → length (body_of f p) ≤ 244
unfolding los_in_range
body_most (FileReady ioa nof lof frq) p h = omega arith
body_most (SectionReady ioa nof nos lof srq) p h = omega arith
body_most (Sc ioa nof nos scq) p h = omega arith
body_most (LastSection ioa nof nos lsq chs) p h = omega arith
body_most (Ack ioa nof nos afq) p h = omega arith
body_most (Segment ioa nof nos los) p h =
    let k = both _ _ h in
    let most : los.value ≤ 240 = leb-true _ _ (both _ _ k.0).1 in
    let same : los.value ≡ length p = eqb-true _ _ k.1 in
    omega arith
body_most (Directory ioa cause) p h = omega arith
body_most (QueryLog ioa nof start stop) p h = omega arith

-- ---- ranges

-- a test that follows from those in front of it
no_more : (a b d : Bool) → (a ≡ true → b ≡ true → d ≡ true) → (a and b and d) ≡ (a and b)
unfolding when
no_more true true d h = h refl refl
no_more true false d h = refl
no_more false b d h = refl

-- the widths of one octet each
abbrev pub narrowest : AddressSizes
narrowest = record { cause_octets = 1; common_address_octets = 1; information_object_address_octets = 1 }

segment_same : (los : Los) (p : List ℕ) → segment_in_range narrowest los p ≡ (los_in_range los and eqb los.value (length p))
unfolding segment_in_range segment_limit element_room header_len los_in_range
segment_same los p =
    no_more (los_in_range los) (eqb los.value (length p)) (leb (length p) 240)
    (λ a b.
    let most : los.value ≤ 240 = leb-true _ _ (both _ _ a).1 in
    let same : los.value ≡ length p = eqb-true _ _ b in
    le-leb (length p) 240 (omega arith))

pub range_same : (f : Frame) (p : List ℕ) → body_type (type_of f) ≡ true → values_in_range narrowest f p ≡ body_in_range f p
unfolding body_type when
range_same (FileReady ioa nof lof frq) p h = refl
range_same (SectionReady ioa nof nos lof srq) p h = refl
range_same (Sc ioa nof nos scq) p h = refl
range_same (LastSection ioa nof nos lsq chs) p h = refl
range_same (Ack ioa nof nos afq) p h = refl
range_same (Segment ioa nof nos los) p h = segment_same los p
range_same (Directory ioa cause) p h = absurd (true≢false (sym h))
range_same (QueryLog ioa nof start stop) p h = absurd (true≢false (sym h))

-- in range at any widths, as a station admits and builds frames, is in range as a body
pub in_range_any : (z : AddressSizes) (f : Frame) (p : List ℕ) → body_type (type_of f) ≡ true → values_in_range z f p ≡ true → body_in_range f p ≡ true
unfolding body_type segment_in_range when
in_range_any z (FileReady ioa nof lof frq) p t h = h
in_range_any z (SectionReady ioa nof nos lof srq) p t h = h
in_range_any z (Sc ioa nof nos scq) p t h = h
in_range_any z (LastSection ioa nof nos lsq chs) p t h = h
in_range_any z (Ack ioa nof nos afq) p t h = h
in_range_any z (Segment ioa nof nos los) p t h =
    let k = both (los_in_range los) (eqb los.value (length p) and leb (length p) (segment_limit z)) h in
    rw k.0 (both (eqb los.value (length p)) (leb (length p) (segment_limit z)) k.1).0
in_range_any z (Directory ioa cause) p t h = absurd (true≢false (sym t))
in_range_any z (QueryLog ioa nof start stop) p t h = absurd (true≢false (sym t))
