-- How a writer says what it wrote. The proofs here cite it, and load_script; the line itself is in LineText.antt.
use Rattle.std.specs.Prelude.{ℕ, ◌+◌, ◌≡◌, List, length}
use Rattle.store.specs.Store.{written}

-- octets put into a buffer from a place on, and the place after them
pub record Put (was : List ℕ) (place : ℕ) (octets : List ℕ) (next : ℕ) (is : List ℕ) : Type 0 where
  pub end : next ≡ place + length octets
  pub text : is ≡ written was place octets
