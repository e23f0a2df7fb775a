-- Reading and writing undo each other. A written body is read as its frame and payload; a body that is read is the one that its frame writes; so the bodies read are exactly those written, and no two frames of one type and object address have the same.
use Prim.Native.Nat.{ℕ, ◌+◌, ◌*◌, ◌/◌, ◌%◌, ◌≤◌, ◌<◌}
use mathlib.Core.Bool.{Bool, true, false, true≢false}
use mathlib.Core.Path.{◌≡◌, refl, sym, ap, ◌∙◌}
use mathlib.Core.List.{List, [], ◌∷◌, ◌++◌}
use native.Mathlib.Omega.{arith}
use lib.Dec.{eqb, leb}
use lib.ListN.{length, take, drop, get_or, length-drop}
use lib.Seq.{take_all, take-length, take-append_seam, drop-cons}
use borrow.Author.Tests.{leb-true, leb-false, le-leb, eq-eqb, eqb-true}
use Rattle.std.specs.Prelude.{Ok, Err, Result}
use Rattle.laws.specs.When.{when, unless, ◌and◌}
use Rattle.laws.proofs.Decide.{whens}
use Rattle.asdu.specs.Elements.{scq_in_range, afq_in_range, los_in_range}
use Rattle.asdu.specs.Entry.{nof_octets, lof_octets, nof_at, lof_at, flag, bit_of}
use Rattle.asdu.specs.declared.Los.{Los}
use Rattle.asdu.specs.declared.FtError.TheVariants.{UnsupportedType, MalformedBody}
use Rattle.asdu.proofs.Range.{both}
use Rattle.asdu.proofs.EntryLaws.{nof_back, lof_back, low_again, high_again, lof_again, places_all}
use Rattle.store.specs.Store.{written}
use Rattle.sections.specs.Sections.{part_octets}
use Rattle.sections.specs.declared.Part.{Part}
use Rattle.frame.specs.Frames.{type_of, ioa_of}
use Rattle.frame.specs.declared.Frame.{Frame}
use Rattle.frame.specs.declared.Frame.TheVariants.{FileReady, SectionReady, Sc, LastSection, Ack, Segment, Directory, QueryLog}
use Rattle.frame_body.specs.Body.{body_type, body_of, body_in_range, write_answer, out_after}
use Rattle.frame_body.proofs.Bodies.{file_ready_fits, section_ready_fits, sc_fits, ack_fits}
use Rattle.frame_body.proofs.Answers.{told_written, when_written}
use Rattle.asdu.specs.declared.FtError.{FtError}
use Rattle.body_reader.specs.declared.Body.{Body}
use Rattle.body_reader.specs.Reading.{los_of, elements_len, segment_formed, well_formed, frame_of, payload_in, reading, read_answer, carried}
use Rattle.body_reader.proofs.Elements.{frq_back, srq_back, scq_back, afq_back, flagged_again}
use Rattle.body_reader.proofs.Bodies.{segment_long}

-- ---- frame, body, frame

-- the frame and the payload are what reading this body of this type and object address gives
abbrev pub Reads : Frame → List ℕ → List ℕ → Type 0
Reads f payload o =
    (read_answer (type_of f) (ioa_of f) o ≡ Ok (reading f (payload_in (type_of f) o))) × (part_octets (payload_in (type_of f) o) o ≡ carried f payload)

-- of a segment in range, the test of its body
formed_segment : (los : Los) (p : List ℕ) (a b c : ℕ) → (los_in_range los and eqb los.value (length p)) ≡ true
    → (segment_formed (a ∷ b ∷ c ∷ los.value ∷ p) ≡ true) × (los.value ≡ length p)
unfolding segment_formed
formed_segment los p a b c h =
    let k = both _ _ h in
    let same : los.value ≡ length p = eqb-true _ _ k.1 in
    let long = length (a ∷ b ∷ c ∷ los.value ∷ p) in
    (simp (whens, le-leb 4 long (omega arith), k.0) (eq-eqb long (4 + los.value) (omega arith)), same)

-- a body in range is read as its frame, and its payload is found in it
pub body_read : (f : Frame) (p : List ℕ) → body_type (type_of f) ≡ true → body_in_range f p ≡ true → Reads f p (body_of f p)
unfolding read_answer body_type well_formed elements_len frame_of payload_in carried part_octets when
body_read (FileReady ioa nof lof frq) p t h =
    let k = file_ready_fits {f = FileReady ioa nof lof frq} p 6 (h, omega arith) refl in
    (simp (nof_back nof.value, lof_back lof.value, frq_back frq k.2), refl)
body_read (SectionReady ioa nof nos lof srq) p t h =
    let k = section_ready_fits {f = SectionReady ioa nof nos lof srq} p 7 (h, omega arith) refl in
    (simp (nof_back nof.value, lof_back lof.value, srq_back srq k.2), refl)
body_read (Sc ioa nof nos scq) p t h =
    let k = sc_fits {f = Sc ioa nof nos scq} p 4 (h, omega arith) refl in
    (simp (nof_back nof.value, scq_back scq k.1), refl)
body_read (LastSection ioa nof nos lsq chs) p t h = (simp (nof_back nof.value), refl)
body_read (Ack ioa nof nos afq) p t h =
    let k = ack_fits {f = Ack ioa nof nos afq} p 4 (h, omega arith) refl in
    (simp (nof_back nof.value, afq_back afq k.1), refl)
body_read (Segment ioa nof nos los) p t h =
    let k = formed_segment los p (nof.value % 256) (nof.value / 256) nos.value h in
    (simp (k.0, nof_back nof.value), rw k.1 (take-length p))
body_read (Directory ioa cause) p t h = absurd (true≢false (sym t))
body_read (QueryLog ioa nof start stop) p t h = absurd (true≢false (sym t))

-- what two readings that are the same say is the same
same_body : {x y : Body} → ◌≡◌ {A = Result Body FtError} (Ok x) (Ok y) → x ≡ y
same_body e = cc

-- no two frames of one type and object address have the same body
pub one_body_one_frame : (f g : Frame) (p q : List ℕ) → type_of f ≡ type_of g → ioa_of f ≡ ioa_of g → body_type (type_of f) ≡ true
    → body_in_range f p ≡ true → body_in_range g q ≡ true → body_of f p ≡ body_of g q → (f ≡ g) × (carried f p ≡ carried g q)
one_body_one_frame f g p q t a k h j e =
    let x = body_read f p k h in
    let y = body_read g q (rw (← t) k) j in
    let place = payload_in (type_of g) (body_of g q) in
    let one : ◌≡◌ {A = Result Body FtError} (Ok (reading f place)) (Ok (reading g place)) = sym (rw (t, a, e) at x.0) ∙ y.0 in
    (ap (λ (b : Body). b.frame) (same_body one), sym (rw (t, e) at x.1) ∙ y.1)

-- ---- body, frame, body

-- by two tests, one after the other
passed : (a b : Bool) (x y : Body) → unless a (Err UnsupportedType) (unless b (Err MalformedBody) (Ok x)) ≡ Ok y → (a ≡ true) × (b ≡ true) × (y ≡ x)
unfolding when
passed true true x y e = (refl, refl, cc)
passed true false x y e = let z : ◌≡◌ {A = ℕ} 0 1 = cc in absurd (omega arith)
passed false b x y e = let z : ◌≡◌ {A = ℕ} 0 1 = cc in absurd (omega arith)

-- what holds of k, and of every number above it, holds of every number from k on
from : (P : ℕ → Type 0) (t k : ℕ) → P k → k ≤ t → (k < t → P t) → P t
from P t k p l above = go (leb t k) refl
  where
    go : (b : Bool) → leb t k ≡ b → P t
    go true e = let m : t ≤ k = leb-true _ _ e in let same : t ≡ k = omega arith in rw same p
    go false e = above (leb-false _ _ e)

-- for each type that has a body here
by_type : (P : ℕ → Type 0) → P 120 → P 121 → P 122 → P 123 → P 124 → P 125 → (t : ℕ) → body_type t ≡ true → P t
unfolding body_type
by_type P p₀ p₁ p₂ p₃ p₄ p₅ t h =
    let most : t ≤ 125 = leb-true _ _ (both _ _ h).1 in
    from P t 120 p₀ (leb-true _ _ (both _ _ h).0)
    (λ l₀. from P t 121 p₁ l₀
    (λ l₁. from P t 122 p₂ l₁
    (λ l₂. from P t 123 p₃ l₂
    (λ l₃. from P t 124 p₄ l₃
    (λ l₄. from P t 125 p₅ l₄
    (λ l₅. absurd (omega arith)))))))

module _ (ioa : ℕ) (o : List ℕ) (small : (i : ℕ) → get_or o i 0 < 256) where
  -- the octet at a place
  abbrev at : ℕ → ℕ
  at i = get_or o i 0

  -- the frame that is read is of this type and object address, is in range, and writes the body that it was read from
  abbrev Again : ℕ → Type 0
  Again t =
      well_formed t o ≡ true
      → (type_of (frame_of t ioa o) ≡ t)
      × (ioa_of (frame_of t ioa o) ≡ ioa)
      × (body_in_range (frame_of t ioa o) (part_octets (payload_in t o) o) ≡ true)
      × (body_of (frame_of t ioa o) (part_octets (payload_in t o) o) ≡ o)

  -- the octets of a name in front of others; of a length, and of a value with its flag behind it; of two halves
  name_again : (rest : List ℕ) → nof_octets (nof_at o 0) ++ rest ≡ at 0 ∷ at 1 ∷ rest
  name_again rest = simp (low_again (at 0) (at 1) (small 0), high_again (at 0) (at 1) (small 0))

  length-again : (i : ℕ) (q : ℕ) → lof_octets (lof_at o i) ++ (at q % 128 + flag 128 (bit_of 128 (at q))) ∷ [] ≡ at i ∷ at (i + 1) ∷ at (i + 2) ∷ at q ∷ []
  length-again i q =
      let lof = lof_again (at i) (at (i + 1)) (at (i + 2)) (small i) (small (i + 1)) in
      simp (lof.0, lof.1, lof.2, flagged_again (at q) (small q))

  halves_again : length o ≡ 4 → nof_octets (nof_at o 0) ++ at 2 ∷ (at 3 % 16 + 16 * (at 3 / 16)) ∷ [] ≡ o
  halves_again n =
      let octet : at 3 % 16 + 16 * (at 3 / 16) ≡ at 3 = omega arith in
      name_again _ ∙ rw octet (places_all 4 0 o (omega arith))

  -- and their ranges
  length-range : (i q : ℕ) → (leb (lof_at o i).value 0xFFFFFF and leb (at q % 128) 127) ≡ true
  length-range i q =
      let a = small i in
      let b = small (i + 1) in
      let c = small (i + 2) in
      simp (whens, le-leb (at i + 256 * at (i + 1) + 65536 * at (i + 2)) 0xFFFFFF (omega arith)) (le-leb (at q % 128) 127 (omega arith))

  halves_range : (leb (at 3 % 16) 15 and leb (at 3 / 16) 15) ≡ true
  halves_range = let a = small 3 in simp (whens, le-leb (at 3 % 16) 15 (omega arith)) (le-leb (at 3 / 16) 15 (omega arith))

  again_120 : Again 120
  unfolding well_formed elements_len frame_of payload_in when
  again_120 h =
      let n : length o ≡ 6 = eqb-true _ _ h in
      (refl, refl, length-range 2 5, name_again _ ∙ ap (λ (r : List ℕ). at 0 ∷ at 1 ∷ r) (length-again 2 5) ∙ places_all 6 0 o (omega arith))

  again_121 : Again 121
  unfolding well_formed elements_len frame_of payload_in when
  again_121 h =
      let n : length o ≡ 7 = eqb-true _ _ h in
      (refl, refl, length-range 3 6, name_again _ ∙ ap (λ (r : List ℕ). at 0 ∷ at 1 ∷ at 2 ∷ r) (length-again 3 6) ∙ places_all 7 0 o (omega arith))

  again_122 : Again 122
  unfolding well_formed elements_len frame_of payload_in when scq_in_range
  again_122 h = (refl, refl, halves_range, halves_again (eqb-true _ _ h))

  again_123 : Again 123
  unfolding well_formed elements_len frame_of payload_in when
  again_123 h = let n : length o ≡ 5 = eqb-true _ _ h in (refl, refl, refl, name_again _ ∙ places_all 5 0 o (omega arith))

  again_124 : Again 124
  unfolding well_formed elements_len frame_of payload_in when afq_in_range
  again_124 h = (refl, refl, halves_range, halves_again (eqb-true _ _ h))

  -- of a segment that is well formed: the payload is all that stands behind LOS, and its length is LOS
  module _ (h : segment_formed o ≡ true) where
    rest_long : length (drop 4 o) ≡ at 3
    rest_long = let long = (segment_long o h).1 in length-drop 4 o ∙ omega arith

    payload_rest : part_octets (record { start = 4; length = at 3 }) o ≡ drop 4 o
    unfolding part_octets
    payload_rest = let long = rest_long in take_all (at 3) (drop 4 o) (omega arith)

    segment_range : (los_in_range (los_of o) and eqb (at 3) (length (part_octets (record { start = 4; length = at 3 }) o))) ≡ true
    segment_range = simp (whens, payload_rest, (segment_long o h).0) (eq-eqb (at 3) (length (drop 4 o)) (sym rest_long))

    front_places : at 0 ∷ at 1 ∷ at 2 ∷ at 3 ∷ drop 4 o ≡ o
    front_places =
        let long = (segment_long o h).1 in
        sym (drop-cons o 0 0 (omega arith) ∙ rw (drop-cons o 1 0 (omega arith), drop-cons o 2 0 (omega arith), drop-cons o 3 0 (omega arith)))

  again_125 : Again 125
  unfolding well_formed frame_of payload_in when
  again_125 h = (refl, refl, segment_range h, name_again _ ∙ rw (payload_rest h) (front_places h))

-- what is read is of the type and object address that were handed in, is in range, and its body is the one that was read
pub read_body : (t ioa : ℕ) (o : List ℕ) (f : Frame) (q : Part) → ((i : ℕ) → get_or o i 0 < 256) → read_answer t ioa o ≡ Ok (reading f q)
    → (type_of f ≡ t) × (ioa_of f ≡ ioa) × (body_type t ≡ true) × (body_in_range f (part_octets q o) ≡ true) × (body_of f (part_octets q o) ≡ o)
unfolding read_answer
read_body t ioa o f q small e =
    let k = passed (body_type t) (well_formed t o) (reading (frame_of t ioa o) (payload_in t o)) (reading f q) e in
    let frame : f ≡ frame_of t ioa o = ap (λ (b : Body). b.frame) k.2 in
    let payload : q ≡ payload_in t o = ap (λ (b : Body). b.payload) k.2 in
    let again = by_type (Again ioa o small) (again_120 ioa o small) (again_121 ioa o small) (again_122 ioa o small) (again_123 ioa o small) (again_124 ioa o small) (again_125 ioa o small) t k.0 k.1 in
    rw (frame, payload) (again.0, again.1, k.0, again.2, again.3)

-- ---- with the writer

-- the body in front of a buffer
body_front : (o out : List ℕ) → take (length o) (written out 0 o) ≡ o
unfolding written
body_front o out = take-append_seam o (drop (0 + length o) out)

-- what was written is read as the frame and the payload that were handed in
pub written_read : (f : Frame) (p out : List ℕ) (n : ℕ) → write_answer f p (length out) ≡ Ok n → Reads f p (take n (out_after f p out))
written_read f p out n e =
    let k = when_written f p (length out) n e in
    let told = told_written f p out (k.0, k.1) k.2 in
    rw (k.3, ← told.1, body_front (body_of f p) out) (body_read f p k.0 k.1)

-- what was read is written into any buffer that has room for it as the octets that it was read from
pub read_written : (t ioa : ℕ) (o out : List ℕ) (f : Frame) (q : Part) → ((i : ℕ) → get_or o i 0 < 256) → read_answer t ioa o ≡ Ok (reading f q) → length o ≤ length out
    → (write_answer f (part_octets q o) (length out) ≡ Ok (length o)) × (out_after f (part_octets q o) out ≡ written out 0 o)
read_written t ioa o out f q small e room =
    let k = read_body t ioa o f q small e in
    let kind : body_type (type_of f) ≡ true = rw k.0 k.2 in
    let told = told_written f (part_octets q o) out (kind, k.3) (rw k.4 room) in
    (sym (rw k.4 at told.0), sym (rw k.4 at told.1))
