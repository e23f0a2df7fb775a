-- The room that a line takes, and its fields one by one.
use Rattle.std.proofs.Common.{◌≡◌, ℕ, ◌+◌, ◌≤◌, ◌<◌, List, [], ◌∷◌, ◌++◌, length, get_or, take, drop, set, sym, refl, ap, ◌∙◌, arith, add-one, append-nil, length-append, take-suc}
use lib.ListN.{take-append-drop}
use lib.Seq.{take_all}
use Rattle.store.proofs.Written.{written_one, written_long}
use Rattle.script.specs.Answers.{over}
use Rattle.lines.specs.LineText.{fields_text}
use Rattle.lines.specs.Putting.{Put}
use Rattle.lines.specs.Numbers.{place_after, text_with}
use Rattle.lines.proofs.Numbers.{put_with_room}
use Rattle.script.specs.Decimal.{decimal, spaced}
use Rattle.script.proofs.Meaning.{spaced-append}
use Rattle.lines.proofs.Writing.{put_then, put_front, octet_most, word_most}

pub spaced_next : (ns : List ℕ) (i : ℕ) → i < length ns → spaced (take (i + 1) ns) ≡ spaced (take i ns) ++ (32 ∷ decimal (get_or ns i 0))
spaced_next ns i h = rw (add-one, take-suc ns i 0 h, spaced-append, append-nil)

spaced_front : (ns : List ℕ) (i : ℕ) → length (spaced (take i ns)) ≤ length (spaced ns)
spaced_front ns i =
    let whole : spaced (take i ns) ++ spaced (drop i ns) ≡ spaced ns = sym (spaced-append (take i ns) (drop i ns)) ∙ ap spaced (take-append-drop i ns) in
    omega (arith, simp length-append at (ap length whole))

-- the first fields of a line
pub fields_most : (kind section value sum i : ℕ) → kind < 256 → section < 256 → value < 4294967296 → sum < 256
    → length (spaced (take i (kind ∷ section ∷ value ∷ sum ∷ []))) ≤ 23
fields_most kind section value sum i h k m n =
    let front = spaced_front (kind ∷ section ∷ value ∷ sum ∷ []) i in
    let a = octet_most kind h in
    let b = octet_most section k in
    let c = word_most value m in
    let d = octet_most sum n in
    omega (arith, simp length-append at front)

-- ---- written over the front of a buffer

pub letter_put : (was : List ℕ) (x : ℕ) → 0 < length was → Put was 0 (x ∷ []) 1 (set was 0 x)
letter_put was x h = record { end = refl; text = written_one was 0 x h }

module _ {was out : List ℕ} {letter at : ℕ} (ns : List ℕ) (short : (i : ℕ) → length (spaced (take i ns)) ≤ 23) (buffer : length was ≡ 32) where
  -- one field more
  pub field_put : {after : List ℕ} {next : ℕ} (i : ℕ) → i < length ns → Put was 0 (letter ∷ spaced (take i ns)) at out
      → (next ≡ place_after out at (32 ∷ decimal (get_or ns i 0))) × (after ≡ text_with out at (32 ∷ decimal (get_or ns i 0)))
      → Put was 0 (letter ∷ spaced (take (i + 1) ns)) next after
  field_put i h f said =
      let fields = letter ∷ spaced (take i ns) in
      let next : length (spaced (take i ns) ++ (32 ∷ decimal (get_or ns i 0))) ≤ 23 = rw (spaced_next ns i h) at (short (i + 1)) in
      let room : 1 + length (spaced (take i ns)) + length (32 ∷ decimal (get_or ns i 0)) ≤ 24 = omega (arith, simp length-append at next) in
      let same : length out ≡ length was = rw f.text (written_long was 0 fields (omega (arith, short i))) in
      let number = put_with_room said (omega (arith, f.end)) in
      rw (spaced_next ns i h) (put_then f number (omega (arith, short i)))

  -- and the newline behind the last
  pub line_put : (i : ℕ) → length ns ≤ i → Put was 0 (letter ∷ spaced (take i ns)) at out
      → (at + 1 ≡ length (fields_text letter ns)) × (set out at 10 ≡ over (fields_text letter ns) was)
  unfolding fields_text
  line_put i h f =
      let all : take i ns ≡ ns = take_all i ns h in
      let fields = letter ∷ spaced ns in
      let g : Put was 0 fields at out = rw all at f in
      let few : length (spaced ns) ≤ 23 = rw all at (short i) in
      let same : length out ≡ length was = rw g.text (written_long was 0 fields (omega arith)) in
      let newline : Put out at (10 ∷ []) (at + 1) (set out at 10) = record { end = refl; text = written_one out at 10 (omega (arith, g.end)) } in
      put_front (put_then g newline (omega arith))
