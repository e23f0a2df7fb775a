-- Exactly the texts of whole entries are read, and each is read as its entries; how long a text is at most, and that its page has room.
use Rattle.std.specs.Prelude.{Option, Some, None}
use Prim.Native.Nat.{ℕ, zero, suc, ◌+◌, ◌*◌, ◌%◌, ◌≤◌}
use mathlib.Core.Bool.{true, false}
use mathlib.Core.Path.{◌≡◌, refl, sym, ap, ◌∙◌}
use mathlib.Core.List.{List, [], ◌∷◌, ◌++◌}
use native.Mathlib.Omega.{arith}
use lib.Dec.{eqb}
use lib.ListN.{length, length-append}
use borrow.Author.Tests.{eqb-true, eq-eqb, le-leb}
use Rattle.std.proofs.lemmas.Option.{none-some}
use Rattle.laws.proofs.Decide.{whens}
use Rattle.laws.proofs.Choices as C
use Rattle.script.specs.Decimal.{decimal}
use Rattle.script.specs.Script.{Octets}
use Rattle.script.specs.Reader.{Found, nothing, found, begins, begins_digit}
use Rattle.script.proofs.Decimals.{either, digits_most}
use Rattle.script.proofs.ReaderLaws.{more_stop}
use Rattle.script.proofs.NumberLaws.{read_decimal}
use Rattle.directory_page.specs.Page.{page_text, page_fits}
use Rattle.directory_page.proofs.Pages.{page_long}
use Rattle.directory_text.specs.Text.{Entries, behind, text_from, entries_text, octet_in, in_front_of, then_octets, none_from, octets_from, entries_of}
use Rattle.directory_text.proofs.OctetLaws.{Stands, octet_found, octets_on, octets_end}

-- ---- the text of entries is read

-- no digit stands behind an octet
no_digit : (k : ℕ) (t : List ℕ) → begins_digit (behind k ∷ t) ≡ false
unfolding behind begins_digit
no_digit k t = C.either (λ (o : ℕ). begins_digit (o ∷ t) ≡ false) (eqb (k % 17) 16) 10 32 (simp whens) (simp whens)

octet_read : (k x : ℕ) (t : List ℕ) → x ≤ 255 → octet_in k (decimal x ++ (behind k ∷ t)) ≡ found x t
unfolding octet_in begins
octet_read k x t h =
    rw (read_decimal 255 (suc x) x (omega arith) h (behind k ∷ t) ∙ more_stop 255 x (behind k ∷ t) h (no_digit k t))
    (simp (whens, eq-eqb (behind k) (behind k) refl))

octets_read : (o : List ℕ) (n k : ℕ) → (k + length o) % 17 ≡ 0 → length o ≤ n → Octets o → octets_from n k (text_from k o) ≡ Some o
octets_read [] n k w l h = let e : k % 17 ≡ 0 = omega arith in octets_end n k ∙ simp (whens, eq-eqb _ _ e)
octets_read (x ∷ xs) zero k w l h = absurd (omega arith)
octets_read (x ∷ xs) (suc n) k w l h =
    octets_on n k (text_from k (x ∷ xs)) x (text_from (suc k) xs) (sym (octet_read k x (text_from (suc k) xs) h.0))
    ∙ ap (in_front_of (x ∷ [])) (octets_read xs n (suc k) (omega arith) (omega arith) h.1)

pub entries_read : (o : List ℕ) → Entries o → entries_of (entries_text o) ≡ Some o
unfolding entries_of entries_text
entries_read o e = octets_read o 17000 0 (omega (arith, e.whole)) e.few e.octets

-- ---- what is read is the text of entries

-- at most n octets, of which the first is octet k, to the end of an entry
record Listed (n k : ℕ) (t o : List ℕ) : Type 0 where
  whole : (k + length o) % 17 ≡ 0
  few : length o ≤ n
  octets : Octets o
  text : t ≡ text_from k o

none_listed : (n k : ℕ) (t o : List ℕ) → none_from k t ≡ Some o → Listed n k t o
none_listed n k [] o e =
    either (eqb (k % 17) 0)
    (λ b.
    let w : k % 17 ≡ 0 = eqb-true _ _ b in
    let q : Some [] ≡ Some o = simp (whens, b) at e in
    let p : [] ≡ o = cc in
    rw (← p) (record { whole = omega arith; few = omega arith; octets = tt; text = refl }))
    (λ b. absurd (none-some o (simp (whens, b) at e)))
none_listed n k (c ∷ t) o e = absurd (none-some o e)

one_listed : (n k x : ℕ) (t rest xs : List ℕ) → Stands k t x rest → Listed n (suc k) rest xs → Listed (suc n) k t (x ∷ xs)
one_listed n k x t rest xs s l =
    record { whole = omega (arith, l.whole); few = omega (arith, l.few); octets = (s.octet, l.octets); text = rw (s.text, l.text) }

-- where octets were read, the first was found, and the others behind it
record Read (m : Found ℕ) (next : List ℕ → Option (List ℕ)) (o : List ℕ) : Type 0 where
  first : ℕ
  rest : List ℕ
  others : List ℕ
  was : m ≡ found first rest
  then : next rest ≡ Some others
  all : first ∷ others ≡ o

first_read : (m : Found ℕ) (next : List ℕ → Option (List ℕ)) (o : List ℕ) → then_octets m next ≡ Some o → Read m next o
first_read nothing next o e = absurd (none-some o e)
first_read (found x rest) next o e = go (next rest) refl e
  where
    go : (m : Option (List ℕ)) → next rest ≡ m → in_front_of (x ∷ []) m ≡ Some o → Read (found x rest) next o
    go None was e = absurd (none-some o e)
    go (Some xs) was e = record { first = x; rest = rest; others = xs; was = refl; then = was; all = cc }

octets_found : (n k : ℕ) (t o : List ℕ) → octets_from n k t ≡ Some o → Listed n k t o
unfolding octets_from
octets_found zero k t o e = none_listed zero k t o e
octets_found (suc n) k [] o e = none_listed (suc n) k [] o e
octets_found (suc n) k (c ∷ t) o e =
    let r = first_read (octet_in k (c ∷ t)) (λ rest. octets_from n (suc k) rest) o e in
    let s = octet_found k r.first (c ∷ t) r.rest r.was in
    rw (← r.all) (one_listed n k r.first (c ∷ t) r.rest r.others s (octets_found n (suc k) r.rest r.others r.then))

pub read_entries : (t o : List ℕ) → entries_of t ≡ Some o → Entries o × (t ≡ entries_text o)
unfolding entries_of entries_text
read_entries t o e =
    let l = octets_found 17000 0 t o e in
    (record { whole = omega (arith, l.whole); few = l.few; octets = l.octets }, l.text)

-- ---- the length of a text

octets_most : (k : ℕ) (o : List ℕ) → Octets o → length (text_from k o) ≤ 4 * length o
octets_most k [] h = omega arith
octets_most k (x ∷ xs) h = rw length-append (omega (arith, digits_most 2 x (omega (arith, h.0)), octets_most (suc k) xs h.1))

-- so the text of entries has at most 68,000 octets
pub text_most : (o : List ℕ) → Octets o → length (entries_text o) ≤ 4 * length o
unfolding entries_text
text_most o h = octets_most 0 o h

-- ---- the page of a text

-- a page of 1,000 lines has room for the entries of every text, so none is 28
pub text_fits : (t o : List ℕ) → entries_of t ≡ Some o → (len : ℕ) → 53000 ≤ len → page_fits o len ≡ true
unfolding page_fits
text_fits t o e len h = let few = (read_entries t o e).0.few in le-leb (length (page_text o)) len (rw (page_long o) (omega arith))
