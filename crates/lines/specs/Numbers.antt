-- Octets put into a text from a place on, where it has room for them, and else none: for the script of a test load (document 02, A2).
use Rattle.std.specs.Prelude.{ℕ, ◌+◌, Bool, List, leb, length}
use Rattle.laws.specs.When.{when}
use Rattle.store.specs.Store.{written}

unfoldable pub has_room : List ℕ → ℕ → List ℕ → Bool
has_room text place octets = leb (place + length octets) (length text)

-- the place after what was put
unfoldable pub place_after : List ℕ → ℕ → List ℕ → ℕ
place_after text place octets = when (has_room text place octets) (place + length octets) place

unfoldable pub text_with : List ℕ → ℕ → List ℕ → List ℕ
text_with text place octets = when (has_room text place octets) (written text place octets) text
