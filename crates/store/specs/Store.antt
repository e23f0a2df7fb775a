-- A lent store of octets (document 01, The Receiver's record), and octets written into it.
use Rattle.std.specs.Prelude.{ℕ, ◌+◌, List, ◌++◌, length, take, drop}

-- octets written into the store's middle, from a place on
unfoldable pub written : List ℕ → ℕ → List ℕ → List ℕ
written store place o = take place store ++ (o ++ drop (place + length o) store)
