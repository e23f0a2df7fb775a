-- Exactly the texts of right scripts are scripts, and each means its script.
use Rattle.std.specs.Prelude.{Some, None}
use Prim.Native.Nat.{ℕ, zero, suc, ◌≤◌}
use mathlib.Core.Bool.{true, false}
use mathlib.Core.Path.{◌≡◌, refl, ap}
use mathlib.Core.List.{List, [], ◌∷◌, ◌++◌, append_assoc, append-nil}
use native.Mathlib.Omega.{arith}
use lib.Dec.{eqb}
use lib.ListN.{length}
use borrow.Author.Tests.{eqb-true}
use Rattle.laws.specs.When.{when}
use Rattle.laws.proofs.Decide.{whens}
use Rattle.asdu.proofs.Range.{both}
use Rattle.script.specs.Decimal.{decimal, spaced}
use Rattle.script.specs.Script.{Script, Octets, Right, text_of}
use Rattle.script.specs.Reader.{Found, nothing, found, then_read, begins, begins_digit, spaced_number, numbers, counted_octets, ScriptSettings, settings, ends, script_body, whole_text, script_of}
use Rattle.script.proofs.Decimals.{either, decimal_one}
use Rattle.script.proofs.NumberLaws.{after_text, after_found, holds}

-- ---- a right script is read

-- in front of a text that begins with no digit
module _ (t : List ℕ) (e : begins_digit t ≡ false) where
  space_first : (ns : List ℕ) → begins_digit (spaced ns ++ t) ≡ false
  unfolding begins_digit when
  space_first [] = e
  space_first (n ∷ ns) = refl

  after_spaced : (limit v : ℕ) (ns : List ℕ) → v ≤ limit → spaced_number limit (spaced (v ∷ ns) ++ t) ≡ found v (spaced ns ++ t)
  after_spaced limit v ns h = rw append_assoc (after_text limit v (spaced ns ++ t) h (space_first ns))

  numbers_spaced : (xs ns : List ℕ) → Octets xs → numbers (length xs) (spaced (xs ++ ns) ++ t) ≡ found xs (spaced ns ++ t)
  unfolding numbers
  numbers_spaced [] ns h = refl
  numbers_spaced (x ∷ xs) ns h = rw (after_spaced 255 x (xs ++ ns) h.0, numbers_spaced xs ns h.1)

  counted_spaced : (limit : ℕ) (xs ns : List ℕ) → length xs ≤ limit → Octets xs → counted_octets limit (spaced (length xs ∷ (xs ++ ns)) ++ t) ≡ found xs (spaced ns ++ t)
  unfolding counted_octets
  counted_spaced limit xs ns l h = rw (after_spaced limit (length xs) (xs ++ ns) l) (numbers_spaced xs ns h)

  settings_spaced : (o n : ℕ) (ns : List ℕ) → o ≤ 16777215 → n ≤ 65535
      → settings (decimal 2 ++ (spaced (o ∷ n ∷ ns) ++ t)) ≡ found (record { object = o; nof = n }) (spaced ns ++ t)
  unfolding settings begins
  settings_spaced o n ns h k =
      rw (decimal_one 2 (omega arith)) (simp (whens, after_spaced 16777215 o (n ∷ ns) h, after_spaced 65535 n ns k))

pub no_digit : begins_digit (10 ∷ []) ≡ false
unfolding begins_digit when
no_digit = refl

pub ends_newline : ends (10 ∷ []) ≡ true
unfolding ends begins when
ends_newline = refl

pub right_read : (s : Script) → Right s → script_of (text_of s) ≡ Some s
unfolding text_of script_of script_body
right_read s r =
    let ns = length s.damage ∷ s.damage in
    let e₁ = settings_spaced (10 ∷ []) no_digit s.object s.nof (length s.file ∷ (s.file ++ ns)) r.object r.nof in
    let e₂ = counted_spaced (10 ∷ []) no_digit 8192 s.file ns r.file_length r.file in
    let e₃ = simp append-nil at (counted_spaced (10 ∷ []) no_digit 255 s.damage [] r.damage_length r.damage) in
    rw (e₁, e₂, e₃) (simp (whens, ends_newline))

-- ---- what is read is a right script

-- where what is read next was found, so was what stands before it
pub record Then {A B : Type 0} (m : Found A) (next : A → List ℕ → Found B) (b : B) (rest : List ℕ) : Type 0 where
  pub first : A
  pub left : List ℕ
  pub was : m ≡ found first left
  pub then : next first left ≡ found b rest

pub then_found : {A B : Type 0} (m : Found A) {next : A → List ℕ → Found B} {b : B} {rest : List ℕ} → then_read m next ≡ found b rest → Then m next b rest
then_found nothing h = let z : ◌≡◌ {A = ℕ} 0 1 = cc in absurd (omega arith)
then_found (found a t) h = record { first = a; left = t; was = refl; then = h }

-- what holds of something found holds of the same thing
pub moved : {A : Type 0} (P : A → List ℕ → Type 0) {a b : A} {t u : List ℕ} → found a t ≡ found b u → P a t → P b u
moved P {a} {b} {t} {u} h x =
    let p : a ≡ b = cc in
    let q : t ≡ u = cc in
    rw (← p, ← q) x

-- so many octets in front of the rest
record Listed (n : ℕ) (t xs rest : List ℕ) : Type 0 where
  count : length xs ≡ n
  octets : Octets xs
  text : t ≡ spaced xs ++ rest

one_more : (n x : ℕ) (t left xs rest : List ℕ) → (x ≤ 255) × (t ≡ 32 ∷ (decimal x ++ left)) → Listed n left xs rest → Listed (suc n) t (x ∷ xs) rest
one_more n x t left xs rest f i =
    record { count = ap suc i.count; octets = (f.0, i.octets); text = rw (f.1, i.text, append_assoc) }

numbers_found : (n : ℕ) (t xs rest : List ℕ) → numbers n t ≡ found xs rest → Listed n t xs rest
unfolding numbers
numbers_found zero t xs rest h = moved (Listed zero t) h (record { count = refl; octets = tt; text = refl })
numbers_found (suc n) t xs rest h =
    let k = then_found (spaced_number 255 t) h in
    let j = then_found (numbers n k.left) k.then in
    moved (Listed (suc n) t) j.then
    (one_more n k.first t k.left j.first j.left (after_found 255 k.first k.left t k.was) (numbers_found n k.left j.first j.left j.was))

-- octets after their count
record Counted (limit : ℕ) (t xs rest : List ℕ) : Type 0 where
  small : length xs ≤ limit
  octets : Octets xs
  text : t ≡ 32 ∷ (decimal (length xs) ++ (spaced xs ++ rest))

counted_text : (limit n : ℕ) (t left xs rest : List ℕ) → (n ≤ limit) × (t ≡ 32 ∷ (decimal n ++ left)) → Listed n left xs rest → Counted limit t xs rest
counted_text limit n t left xs rest f i =
    record { small = rw i.count f.0; octets = i.octets; text = rw (f.1, i.text, i.count) }

counted_found : (limit : ℕ) (t xs rest : List ℕ) → counted_octets limit t ≡ found xs rest → Counted limit t xs rest
unfolding counted_octets
counted_found limit t xs rest h =
    let k = then_found (spaced_number limit t) h in
    counted_text limit k.first t k.left xs rest (after_found limit k.first k.left t k.was) (numbers_found k.first k.left xs rest k.then)

-- the settings after their count
record Set (t : List ℕ) (s : ScriptSettings) (rest : List ℕ) : Type 0 where
  object : s.object ≤ 16777215
  nof : s.nof ≤ 65535
  text : t ≡ 50 ∷ 32 ∷ (decimal s.object ++ (32 ∷ (decimal s.nof ++ rest)))

settings_text : (x o n : ℕ) (t u rest : List ℕ) → x ≡ 50 → (o ≤ 16777215) × (t ≡ 32 ∷ (decimal o ++ u)) → (n ≤ 65535) × (u ≡ 32 ∷ (decimal n ++ rest))
    → Set (x ∷ t) (record { object = o; nof = n }) rest
settings_text x o n t u rest e f g = record { object = f.0; nof = g.0; text = rw (e, f.1, g.1) }

settings_found : (t : List ℕ) (s : ScriptSettings) (rest : List ℕ) → settings t ≡ found s rest → Set t s rest
unfolding settings begins
settings_found [] s rest h = let z : ◌≡◌ {A = ℕ} 0 1 = cc (holds _ h).0 in absurd (omega arith)
settings_found (x ∷ t) s rest h =
    let b = holds (eqb x 50) h in
    let k = then_found (spaced_number 16777215 t) b.1 in
    let j = then_found (spaced_number 65535 k.left) k.then in
    moved (Set (x ∷ t)) j.then
    (settings_text x k.first j.first t k.left j.left (eqb-true _ _ b.0) (after_found 16777215 k.first k.left t k.was) (after_found 65535 j.first j.left k.left j.was))

-- the end
ends_found : (t : List ℕ) → ends t ≡ true → t ≡ 10 ∷ []
unfolding ends begins when
ends_found [] e = let z : ◌≡◌ {A = ℕ} 0 1 = cc in absurd (omega arith)
ends_found (x ∷ []) e = rw (eqb-true x 10 (both _ _ e).0)
ends_found (x ∷ y ∷ t) e = let z : suc (suc (length t)) ≡ 1 = eqb-true _ _ (both (eqb x 10) _ e).1 in absurd (omega arith)

pub spaced-append : (xs ys : List ℕ) → spaced (xs ++ ys) ≡ spaced xs ++ spaced ys
spaced-append [] ys = refl
spaced-append (x ∷ xs) ys = rw (spaced-append xs ys, append_assoc)

-- a script and what follows it
record Read (t : List ℕ) (s : Script) (rest : List ℕ) : Type 0 where
  right : Right s
  text : rest ≡ 10 ∷ [] → t ≡ text_of s

script_text : (t t₁ t₂ t₃ : List ℕ) (s : ScriptSettings) (file damage : List ℕ) → Set t s t₁ → Counted 8192 t₁ file t₂ → Counted 255 t₂ damage t₃
    → Read t (record { object = s.object; nof = s.nof; file = file; damage = damage }) t₃
unfolding text_of
script_text t t₁ t₂ t₃ s file damage a f d =
    record {
      right = record { object = a.object; nof = a.nof; file_length = f.small; file = f.octets; damage_length = d.small; damage = d.octets };
      text = λ e. rw (a.text, f.text, d.text, e, decimal_one 2 (omega arith)) (simp (spaced-append, append_assoc));
    }

sections_found : (t : List ℕ) (s : Script) (rest : List ℕ) → script_body t ≡ found s rest → Read t s rest
unfolding script_body
sections_found t s rest h =
    let k = then_found (settings t) h in
    let f = then_found (counted_octets 8192 k.left) k.then in
    let d = then_found (counted_octets 255 f.left) f.then in
    moved (Read t) d.then
    (script_text t k.left f.left d.left k.first f.first d.first (settings_found t k.first k.left k.was) (counted_found 8192 k.left f.first f.left f.was) (counted_found 255 f.left d.first d.left d.was))

-- what a whole text is was found in front of its end
pub whole_found : {A : Type 0} (m : Found A) (a : A) → whole_text m ≡ Some a → m ≡ found a (10 ∷ [])
whole_found nothing a e = let z : ◌≡◌ {A = ℕ} 0 1 = cc in absurd (omega arith)
whole_found (found x rest) a e =
    either (ends rest)
    (λ b. let p : x ≡ a = cc (simp (whens, b) at e) in rw (p, ends_found rest b))
    (λ b. let q : None ≡ Some a = simp (whens, b) at e in let z : ◌≡◌ {A = ℕ} 0 1 = cc in absurd (omega arith))

pub read_right : (t : List ℕ) (s : Script) → script_of t ≡ Some s → Right s × (t ≡ text_of s)
unfolding script_of
read_right t s h = let r = sections_found t s (10 ∷ []) (whole_found (script_body t) s h) in (r.right, r.text refl)
