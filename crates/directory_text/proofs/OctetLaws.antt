-- Reading octets one by one: those that were read stand in front of what the rest of the text is.
use Rattle.std.specs.Prelude.{Option, Some, None}
use Prim.Native.Nat.{ℕ, zero, suc, ◌+◌, ◌-◌, ◌%◌, ◌≤◌, ◌<◌}
use mathlib.Core.Bool.{true}
use mathlib.Core.Path.{◌≡◌, refl, sym, ap, ◌∙◌}
use mathlib.Core.List.{List, [], ◌∷◌, ◌++◌, append_assoc, append-nil}
use native.Mathlib.Numerals.{add-one}
use native.Mathlib.Omega.{arith}
use lib.ListN.{length, drop, length-append}
use borrow.Author.Tests.{eqb-true, eq-eqb, ne_eqb}
use Rattle.std.proofs.lemmas.List.{nil_from_length}
use Rattle.laws.specs.When.{when}
use Rattle.laws.proofs.Decide.{whens}
use Rattle.script.specs.Decimal.{decimal}
use Rattle.script.specs.Reader.{nothing, found, begins, begins_digit, number}
use Rattle.script.proofs.NumberLaws.{number_text, holds}
use Rattle.script.proofs.Meaning.{then_found, moved}
use Rattle.directory_text.specs.Text.{behind, octet_in, in_front_of, none_from, octets_from, entries_of}

-- ---- one octet

-- an octet's decimal and what stands behind it, in front of the rest
pub record Stands (k : ℕ) (t : List ℕ) (x : ℕ) (rest : List ℕ) : Type 0 where
  pub octet : x ≤ 255
  pub text : t ≡ decimal x ++ (behind k ∷ rest)

begun_with : (o : ℕ) (t : List ℕ) → begins o t ≡ true → t ≡ o ∷ drop 1 t
unfolding begins
begun_with o [] e = let z : ◌≡◌ {A = ℕ} 0 1 = cc in absurd (omega arith)
begun_with o (x ∷ t) e = rw (eqb-true x o e)

pub octet_found : (k x : ℕ) (t rest : List ℕ) → octet_in k t ≡ found x rest → Stands k t x rest
unfolding octet_in
octet_found k x t rest e =
    let n = then_found (number 255 t) e in
    let b = holds (begins (behind k) n.left) n.then in
    let s = number_text 255 n.first n.left t n.was in
    moved (Stands k t) b.1
    (record { octet = s.small; text = s.spelled ∙ ap (λ (u : List ℕ). decimal n.first ++ u) (begun_with (behind k) n.left b.0) })

-- none is found where nothing is left
no_octet : (k : ℕ) → octet_in k [] ≡ nothing
unfolding octet_in number begins_digit when
no_octet k = refl

-- ---- one octet more, and the end

pub octets_on : (n k : ℕ) (t : List ℕ) (x : ℕ) (rest : List ℕ) → found x rest ≡ octet_in k t → octets_from (suc n) k t ≡ in_front_of (x ∷ []) (octets_from n (suc k) rest)
unfolding octets_from
octets_on n k [] x rest e = let q = e ∙ no_octet k in let z : ◌≡◌ {A = ℕ} 0 1 = cc in absurd (omega arith)
octets_on n k (c ∷ t) x rest e = rw (← e)

pub octets_end : (n k : ℕ) → octets_from n k [] ≡ none_from k []
unfolding octets_from
octets_end zero k = refl
octets_end (suc n) k = refl

-- ---- the octets that were read

front_none : (m : Option (List ℕ)) → in_front_of [] m ≡ m
front_none None = refl
front_none (Some ys) = refl

front_one : (xs : List ℕ) (x : ℕ) (m : Option (List ℕ)) → in_front_of xs (in_front_of (x ∷ []) m) ≡ in_front_of (xs ++ (x ∷ [])) m
front_one xs x None = refl
front_one xs x (Some ys) = simp append_assoc

-- octets that were read, and those that the rest of the text is
abbrev pub all_of : List ℕ → List ℕ → Option (List ℕ)
all_of xs t = in_front_of xs (octets_from (17000 - length xs) (length xs) t)

pub all_begin : (t : List ℕ) → all_of [] t ≡ entries_of t
unfolding entries_of
all_begin t = front_none (octets_from 17000 0 t)

-- one octet more
module _ (xs : List ℕ) where
  one_less : length xs < 17000 → 17000 - length xs ≡ suc (17000 - (length xs + 1))
  one_less h = omega arith

  pub all_on : (x : ℕ) (t rest : List ℕ) → length xs < 17000 → found x rest ≡ octet_in (length xs) t → all_of (xs ++ (x ∷ [])) rest ≡ all_of xs t
  all_on x t rest h e =
      rw (one_less h, octets_on (17000 - (length xs + 1)) (length xs) t x rest e, length-append, add-one)
      (sym (front_one xs x (octets_from (17000 - suc (length xs)) (suc (length xs)) rest)))

  -- before the text's end
  pub too_many : (t : List ℕ) → length xs ≡ 17000 → (t ≡ [] → ⊥) → None ≡ all_of xs t
  unfolding octets_from
  too_many [] e h = absurd (h refl)
  too_many (c ∷ t) e h = let z : 17000 - length xs ≡ 0 = omega arith in rw z

  pub all_off : (t : List ℕ) → length xs ≤ 17000 → (t ≡ [] → ⊥) → nothing ≡ octet_in (length xs) t → None ≡ all_of xs t
  unfolding octets_from
  all_off t h some e = go t some e (17000 - length xs)
    where
      go : (t : List ℕ) → (t ≡ [] → ⊥) → nothing ≡ octet_in (length xs) t → (n : ℕ) → None ≡ in_front_of xs (octets_from n (length xs) t)
      go [] some e n = absurd (some refl)
      go (c ∷ t) some e zero = refl
      go (c ∷ t) some e (suc n) = rw (← e)

  -- at its end
  pub whole_end : (t : List ℕ) → length t ≡ 0 → length xs % 17 ≡ 0 → all_of xs t ≡ Some xs
  whole_end t none e = let nothing_left : t ≡ [] = nil_from_length t none in rw (nothing_left, octets_end (17000 - length xs) (length xs)) (simp (whens, eq-eqb _ _ e, append-nil))

  pub part_end : (t : List ℕ) → length t ≡ 0 → (length xs % 17 ≡ 0 → ⊥) → all_of xs t ≡ None
  part_end t none e = let nothing_left : t ≡ [] = nil_from_length t none in rw (nothing_left, octets_end (17000 - length xs) (length xs)) (simp (whens, ne_eqb _ _ e))

-- for the proof of the function that reads them
pub ruleset entries = (all_begin, all_on, too_many, all_off, whole_end, part_end)
