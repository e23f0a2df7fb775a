-- What writing a body answers and leaves in the buffer, test by test; and that a refusal leaves the buffer as it came in.
use Prim.Native.Nat.{ℕ, ◌≤◌, ◌<◌}
use mathlib.Core.Bool.{Bool, true, false}
use mathlib.Core.Path.{◌≡◌, refl, sym, ◌∙◌}
use mathlib.Core.List.{List}
use native.Mathlib.Omega.{arith}
use lib.ListN.{length}
use borrow.Author.Tests.{leb-true, le-leb, lt-leb}
use Rattle.std.specs.Prelude.{Err, Ok, Result}
use Rattle.laws.specs.When.{when, unless, ◌and◌}
use Rattle.laws.proofs.Decide.{whens, yes}
use Rattle.store.specs.Store.{written}
use Rattle.asdu.specs.declared.AddressSizes.{AddressSizes}
use Rattle.asdu.specs.declared.FtError.{FtError}
use Rattle.asdu.specs.declared.FtError.TheVariants.{ValueOutOfRange, UnsupportedType, BufferTooShort}
use Rattle.frame.specs.Frames.{type_of}
use Rattle.frame.specs.Ranges.{values_in_range}
use Rattle.frame.specs.declared.Frame.{Frame}
use Rattle.frame_body.specs.Body.{body_type, body_of, body_in_range, body_fits, write_answer, out_after}
use Rattle.frame_body.proofs.Bodies.{narrowest, range_same, in_range_any, body_most}

module _ (f : Frame) (p out : List ℕ) where
  -- this is answered, and the buffer is then so
  abbrev pub Told : Result ℕ FtError → List ℕ → Type 0
  Told answer after = (answer ≡ write_answer f p (length out)) × (after ≡ out_after f p out)

  pub told_unsupported : body_type (type_of f) ≡ false → Told (Err UnsupportedType) out
  unfolding write_answer out_after
  told_unsupported t = (simp (whens, t), simp (whens, t))

  pub told_range : (body_type (type_of f) ≡ true) × (body_in_range f p ≡ false) → Told (Err ValueOutOfRange) out
  unfolding write_answer out_after
  told_range h = (simp (whens, h.0, h.1), simp (whens, h.0, h.1))

  module _ (h : (body_type (type_of f) ≡ true) × (body_in_range f p ≡ true)) where
    pub told_short : length out < length (body_of f p) → Told (Err BufferTooShort) out
    unfolding write_answer out_after body_fits
    told_short s = let n = lt-leb (length (body_of f p)) (length out) s in (simp (whens, h.0, h.1, n), simp (whens, h.0, h.1, n))

    pub told_written : length (body_of f p) ≤ length out → Told (Ok (length (body_of f p))) (written out 0 (body_of f p))
    unfolding write_answer out_after body_fits
    told_written s = let n = le-leb (length (body_of f p)) (length out) s in (simp (whens, h.0, h.1, n), simp (whens, h.0, h.1, n))

-- the type's test and the ranges' test, by the results t and r of the calls
pub tested : (f : Frame) (p : List ℕ) {n : ℕ} {t r : Bool} → n ≡ type_of f → t ≡ body_type n → t ≡ true → r ≡ values_in_range narrowest f p
    → (body_type (type_of f) ≡ true) × (body_in_range f p ≡ r)
tested f p k e h g =
    let has : body_type (type_of f) ≡ true = rw (← k) (yes e h) in
    (has, sym (range_same f p has) ∙ sym g)

-- of three tests, one after the other
kept : (a b d : Bool) (n : ℕ) (x : FtError) (after out : List ℕ)
    → unless a (Err UnsupportedType) (unless b (Err ValueOutOfRange) (unless d (Err BufferTooShort) (Ok n))) ≡ Err x → when (a and b and d) after out ≡ out
unfolding when
kept true true true n x after out e = let z : ◌≡◌ {A = ℕ} 0 1 = cc in absurd (omega arith)
kept true true false n x after out e = refl
kept true false d n x after out e = refl
kept false b d n x after out e = refl

pub refusal_keeps : (f : Frame) (p out : List ℕ) (x : FtError) → write_answer f p (length out) ≡ Err x → out_after f p out ≡ out
unfolding write_answer out_after
refusal_keeps f p out x e =
    kept (body_type (type_of f)) (body_in_range f p) (body_fits f p (length out)) (length (body_of f p)) x (written out 0 (body_of f p)) out e

-- the body of every frame in range, whatever the widths, is written into a buffer of 244 octets or more
pub in_range_written : (z : AddressSizes) (f : Frame) (p out : List ℕ) → body_type (type_of f) ≡ true → values_in_range z f p ≡ true → 244 ≤ length out
    → (write_answer f p (length out) ≡ Ok (length (body_of f p))) × (out_after f p out ≡ written out 0 (body_of f p))
in_range_written z f p out t h room =
    let r = in_range_any z f p t h in
    let most = body_most f p r in
    let told = told_written f p out (t, r) (omega arith) in
    (sym told.0, sym told.1)

-- what it takes that a body is written; by three tests, one after the other
passed : (a b d : Bool) (m n : ℕ) → unless a (Err UnsupportedType) (unless b (Err ValueOutOfRange) (unless d (Err BufferTooShort) (Ok m))) ≡ Ok n
    → (a ≡ true) × (b ≡ true) × (d ≡ true) × (n ≡ m)
unfolding when
passed true true true m n e = (refl, refl, refl, cc)
passed true true false m n e = let z : ◌≡◌ {A = ℕ} 0 1 = cc in absurd (omega arith)
passed true false d m n e = let z : ◌≡◌ {A = ℕ} 0 1 = cc in absurd (omega arith)
passed false b d m n e = let z : ◌≡◌ {A = ℕ} 0 1 = cc in absurd (omega arith)

pub when_written : (f : Frame) (p : List ℕ) (len n : ℕ) → write_answer f p len ≡ Ok n
    → (body_type (type_of f) ≡ true) × (body_in_range f p ≡ true) × (length (body_of f p) ≤ len) × (n ≡ length (body_of f p))
unfolding write_answer body_fits
when_written f p len n e =
    let k = passed (body_type (type_of f)) (body_in_range f p) (body_fits f p len) (length (body_of f p)) n e in
    (k.0, k.1, leb-true _ _ k.2, k.3)
