-- A reply of the Provider's on its way, frame by frame: what the exchange's `flown` makes of it under the noise of a script.
use Prim.Native.Nat.{ℕ, zero, suc, ◌≤◌}
use mathlib.Core.Path.{◌≡◌, refl, ap}
use mathlib.Core.Bool.{Bool, true, false}
use mathlib.Core.List.{List, [], ◌∷◌, ◌++◌, map}
use native.Mathlib.Omega.{arith}
use lib.ListN.{length, drop}
use Rattle.laws.specs.When.{when}
use Rattle.asdu.specs.declared.Nos.{Nos}
use Rattle.frame.specs.declared.Frame.{Frame}
use Rattle.provide.specs.Replies.{Packet, bare, segment_packet}
use Rattle.provide.specs.declared.Provider.{Provider}
use Rattle.exchange.specs.Exchange.{by_provider, arrives, Passing, flown}
use Rattle.exchange.specs.Damaging.{raised, hurt, unhurt}

-- the first frame's payload is raised where the sending is damaged
abbrev pub told : Bool → List Packet → List Passing
told d [] = []
told d (x ∷ xs) = record { sender = by_provider; packet = x; fate = arrives (when d (raised x.payload) x.payload) } ∷ told false xs

pub flown_none : (xs : List Packet) → flown [] xs ≡ told false xs
unfolding when
flown_none [] = refl
flown_none (x ∷ xs) = ap (λ (r : List Passing). record { sender = by_provider; packet = x; fate = arrives x.payload } ∷ r) (flown_none xs)

-- a frame with no payload
pub bare_told : (d : Bool) (f : Frame) → told d (bare f ∷ []) ≡ told false (bare f ∷ [])
unfolding when
bare_told true f = refl
bare_told false f = refl

module _ (p : Provider) (nos : Nos) (c : Frame) where
  -- segments and a close
  abbrev section_packets : List (List ℕ) → List Packet
  section_packets os = map (segment_packet p nos) os ++ (bare c ∷ [])

  pub flown_unhurt : (os : List (List ℕ)) → flown (unhurt os) (section_packets os) ≡ told false (section_packets os)
  unfolding when
  flown_unhurt [] = refl
  flown_unhurt (o ∷ os) = ap (λ (r : List Passing). record { sender = by_provider; packet = segment_packet p nos o; fate = arrives o } ∷ r) (flown_unhurt os)

  pub flown_hurt : (os : List (List ℕ)) → flown (hurt os) (section_packets os) ≡ told true (section_packets os)
  unfolding when
  flown_hurt [] = refl
  flown_hurt (o ∷ os) = ap (λ (r : List Passing). record { sender = by_provider; packet = segment_packet p nos o; fate = arrives (raised o) } ∷ r) (flown_unhurt os)

-- past its end nothing is on its way
pub told_past : (d : Bool) (i : ℕ) (xs : List Packet) → length xs ≤ i → drop i (told d xs) ≡ []
told_past d zero [] h = refl
told_past d (suc i) [] h = refl
told_past d zero (x ∷ xs) h = absurd (omega arith)
told_past d (suc i) (x ∷ xs) h = told_past false i xs (omega arith)
