-- Directory entries as text (document 02, A3): the form in which the directory program takes them. An entry is the 17 octets that it
-- has in the directory call's store. It is a line: its octets in decimal, without leading zeros, parted by single spaces, and one
-- newline. No entries are the empty text.
-- Exactly the texts of whole entries are read: `entries_read` and `read_entries` (proofs/Meaning.antt).
use Rattle.std.specs.Prelude.{ℕ, zero, suc, ◌*◌, ◌%◌, ◌≤◌, ◌≡◌, List, [], ◌∷◌, ◌++◌, eqb, length, drop, Option, Some, None}
use Rattle.laws.specs.When.{when}
use Rattle.script.specs.Decimal.{decimal}
use Rattle.script.specs.Script.{Octets}
use Rattle.script.specs.Reader.{Found, nothing, found, then_read, begins, number}

-- ---- the text of entries

-- the most entries that a text has
abbrev pub max_entries : ℕ
max_entries = 1000

-- whole entries, not too many, and every number an octet
pub record Entries (o : List ℕ) : Type 0 where
  pub whole : length o % 17 ≡ 0
  pub few : length o ≤ 17 * max_entries
  pub octets : Octets o

-- what stands behind octet k of a text, counted from 0: a newline (10) behind the last octet of an entry, else a space (32)
unfoldable pub behind : ℕ → ℕ
behind k = when (eqb (k % 17) 16) 10 32

-- the text of octets, of which the first is octet k
abbrev pub text_from : ℕ → List ℕ → List ℕ
text_from k [] = []
text_from k (x ∷ xs) = decimal x ++ (behind k ∷ text_from (suc k) xs)

unfoldable pub entries_text : List ℕ → List ℕ
entries_text o = text_from 0 o

-- ---- the entries of a text

-- octet k in front of a text, with what stands behind it
unfoldable pub octet_in : ℕ → List ℕ → Found ℕ
octet_in k t = then_read (number 255 t) (λ x rest. when (begins (behind k) rest) (found x (drop 1 rest)) nothing)

-- octets in front of those that the rest of a text is
abbrev pub in_front_of : List ℕ → Option (List ℕ) → Option (List ℕ)
in_front_of xs None = None
in_front_of xs (Some ys) = Some (xs ++ ys)

-- the octet found in front of those that the rest of the text is
abbrev pub then_octets : Found ℕ → (List ℕ → Option (List ℕ)) → Option (List ℕ)
then_octets nothing more = None
then_octets (found x rest) more = in_front_of (x ∷ []) (more rest)

-- no octet more: the text ends before octet k, behind a whole entry
abbrev pub none_from : ℕ → List ℕ → Option (List ℕ)
none_from k [] = when (eqb (k % 17) 0) (Some []) None
none_from k (c ∷ t) = None

-- at most n octets, of which the first is octet k
unfoldable pub octets_from : ℕ → ℕ → List ℕ → Option (List ℕ)
octets_from zero k t = none_from k t
octets_from (suc n) k [] = none_from k []
octets_from (suc n) k (c ∷ t) = then_octets (octet_in k (c ∷ t)) (λ rest. octets_from n (suc k) rest)

-- the entries that a whole text is
unfoldable pub entries_of : List ℕ → Option (List ℕ)
entries_of t = octets_from (17 * max_entries) 0 t
