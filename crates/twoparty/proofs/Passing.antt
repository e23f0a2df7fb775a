-- A reply of the Provider's on its way, by index.
use Prim.Native.Nat.{ℕ, zero, suc, ◌<◌}
use mathlib.Core.Path.{◌≡◌, refl}
use mathlib.Core.Bool.{Bool, true, false}
use mathlib.Core.List.{List, [], ◌∷◌}
use native.Mathlib.Omega.{arith}
use lib.ListN.{length, drop, get_or}
use borrow.Author.Tests.{ne_eqb}
use Rattle.laws.specs.When.{when}
use Rattle.provide.specs.Replies.{Packet}
use Rattle.exchange.specs.Exchange.{by_provider, arrives, Passing}
use Rattle.radio.proofs.Told.{told}
use Rattle.delivery.specs.Handed.{arriving}

-- frame i on its way
abbrev pub passing_at : Bool → ℕ → Packet → Passing
passing_at d i x = record { sender = by_provider; packet = x; fate = arrives (arriving d i x.payload) }

pub told_at : (d : Bool) (i : ℕ) (xs : List Packet) (z : Packet) → i < length xs → drop i (told d xs) ≡ passing_at d i (get_or xs i z) ∷ drop (suc i) (told d xs)
unfolding arriving when
told_at d i [] z h = absurd (omega arith)
told_at true zero (x ∷ xs) z h = refl
told_at false zero (x ∷ xs) z h = refl
told_at true (suc i) (x ∷ xs) z h = rw (ne_eqb (suc i) 0 (λ e. omega arith)) (told_at false i xs z (omega arith))
told_at false (suc i) (x ∷ xs) z h = told_at false i xs z (omega arith)
