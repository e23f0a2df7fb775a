-- A number put where a text has room for it, and none where it has not.
use Rattle.std.proofs.Common.{◌≡◌, ℕ, ◌+◌, ◌^◌, ◌≤◌, ◌<◌, List, [], ◌∷◌, length, set, ap, ◌∙◌, arith}
use Rattle.std.specs.Fmt.{decimal as printed}
use borrow.Author.Tests.{le-leb, lt-leb}
use borrow.Rule.Slice.PartMut.{put_mid}
use Rattle.laws.proofs.Decide.{whens}
use Rattle.store.specs.Store.{written}
use Rattle.store.proofs.Written.{written_one, written_lent, written_twice}
use Rattle.script.specs.Decimal.{decimal}
use Rattle.script.proofs.Decimals.{printed_decimal}
use Rattle.lines.specs.Putting.{Put}
use Rattle.lines.specs.Numbers.{has_room, place_after, text_with}

-- octets that a text has room for
module _ (text : List ℕ) (place : ℕ) (p : List ℕ) where
  pub room_after : place + length p ≤ length text → place_after text place p ≡ place + length p
  unfolding place_after has_room
  room_after h = simp (whens, le-leb _ _ h)

  pub room_with : place + length p ≤ length text → text_with text place p ≡ written text place p
  unfolding text_with has_room
  room_with h = simp (whens, le-leb _ _ h)

  pub full_after : length text < place + length p → place_after text place p ≡ place
  unfolding place_after has_room
  full_after h = simp (whens, lt-leb _ _ h)

  pub full_with : length text < place + length p → text_with text place p ≡ text
  unfolding text_with has_room
  full_with h = simp (whens, lt-leb _ _ h)

-- a space, and a number's digits behind it
pub number_written : (text : List ℕ) (place n k : ℕ) (d : List ℕ) → d ≡ printed n → n < 2 ^ 64 → k ≡ length d → place + 1 + length d ≤ length text
    → put_mid (place + 1) k (set text place 32) d ≡ written text place (32 ∷ decimal n)
number_written text place n k d e h own room =
    let digits : d ≡ decimal n = e ∙ printed_decimal n h in
    rw (own, written_lent (set text place 32) (place + 1) (length d) d, written_one text place 32 (omega arith), ← digits) (written_twice text place (32 ∷ []) d (omega arith))

pub number_long : (n : ℕ) (d : List ℕ) → d ≡ printed n → n < 2 ^ 64 → length d ≡ length (decimal n)
number_long n d e h = ap length (e ∙ printed_decimal n h)

-- where there is room, a number is put
pub put_with_room : {text after : List ℕ} {place next : ℕ} {p : List ℕ} → (next ≡ place_after text place p) × (after ≡ text_with text place p)
    → place + length p ≤ length text → Put text place p next after
put_with_room {text} {after} {place} {next} {p} said h = record { end = said.0 ∙ room_after text place p h; text = said.1 ∙ room_with text place p h }

-- for the proof of the function that puts one
pub ruleset numbers = (room_after, room_with, full_after, full_with, number_written, number_long)
