-- Exactly the texts of loads within their fields are loads.
use Prim.Native.Nat.{ℕ, ◌≤◌}
use mathlib.Core.Bool.{false}
use mathlib.Core.Path.{◌≡◌, refl, sym, ap, ◌∙◌}
use mathlib.Core.List.{List, [], ◌∷◌, ◌++◌, append_assoc, append-nil}
use lib.ListN.{drop}
use Rattle.std.specs.Prelude.{Some}
use Rattle.laws.proofs.Decide.{whens}
use Rattle.script.specs.Decimal.{decimal}
use Rattle.script.specs.Reader.{found, begins, begins_digit, number, spaced_number}
use Rattle.script.proofs.NumberLaws.{after_text, after_found}
use Rattle.script.proofs.Meaning.{then_found, moved, no_digit, ends_newline, whole_found}
use Rattle.load_script.specs.Load.{Within, load_text, load_body, load_of}
use Rattle.load_script.specs.declared.Load.{Load}

-- ---- a load's text is read

-- a number is read behind a space as it is in front
behind_space : (limit : ℕ) (t : List ℕ) → spaced_number limit (32 ∷ t) ≡ number limit t
unfolding spaced_number begins
behind_space limit t = simp whens

space_first : (t : List ℕ) → begins_digit (32 ∷ t) ≡ false
unfolding begins_digit
space_first t = simp whens

pub load_read : (l : Load) → Within l → load_of (load_text l) ≡ Some l
unfolding load_text load_of load_body
load_read l w =
    let t₃ : List ℕ = 10 ∷ [] in
    let t₂ : List ℕ = 32 ∷ (decimal l.entries ++ t₃) in
    let t₁ : List ℕ = 32 ∷ (decimal l.octets ++ t₂) in
    let e₁ = sym (behind_space 4294967295 (decimal l.state ++ t₁)) ∙ after_text 4294967295 l.state t₁ w.state (space_first _) in
    let e₂ = after_text 8192 l.octets t₂ w.octets (space_first _) in
    let e₃ = after_text 255 l.entries t₃ w.entries no_digit in
    simp (append_assoc, append-nil) (rw (e₁, e₂, e₃) (simp (whens, ends_newline)))

-- ---- what is read is a load's text

number_found : (limit v : ℕ) (rest t : List ℕ) → number limit t ≡ found v rest → (v ≤ limit) × (t ≡ decimal v ++ rest)
number_found limit v rest t h = let f = after_found limit v rest (32 ∷ t) (behind_space limit t ∙ h) in (f.0, ap (drop 1) f.1)

-- three numbers and what follows them
record Read (t : List ℕ) (l : Load) (rest : List ℕ) : Type 0 where
  within : Within l
  text : rest ≡ 10 ∷ [] → t ≡ load_text l

load_text_lem : (t t₁ t₂ t₃ : List ℕ) (state octets entries : ℕ) → (state ≤ 4294967295) × (t ≡ decimal state ++ t₁) → (octets ≤ 8192) × (t₁ ≡ 32 ∷ (decimal octets ++ t₂))
    → (entries ≤ 255) × (t₂ ≡ 32 ∷ (decimal entries ++ t₃)) → Read t (record { state = state; octets = octets; entries = entries }) t₃
unfolding load_text
load_text_lem t t₁ t₂ t₃ state octets entries f g h =
    record { within = record { state = f.0; octets = g.0; entries = h.0 }; text = λ e. rw (f.1, g.1, h.1, e) (simp (append_assoc, append-nil)) }

body_found : (t : List ℕ) (l : Load) (rest : List ℕ) → load_body t ≡ found l rest → Read t l rest
unfolding load_body
body_found t l rest h =
    let a = then_found (number 4294967295 t) h in
    let b = then_found (spaced_number 8192 a.left) a.then in
    let c = then_found (spaced_number 255 b.left) b.then in
    moved (Read t) c.then
    (load_text_lem t a.left b.left c.left a.first b.first c.first (number_found 4294967295 a.first a.left t a.was) (after_found 8192 b.first b.left a.left b.was) (after_found 255 c.first c.left b.left c.was))

pub read_load : (t : List ℕ) (l : Load) → load_of t ≡ Some l → Within l × (t ≡ load_text l)
unfolding load_of
read_load t l h = let r = body_found t l (10 ∷ []) (whole_found (load_body t) l h) in (r.within, r.text refl)
