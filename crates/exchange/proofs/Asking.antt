-- The sendings that frames ask for, counted: those of a section, and those of the sections from a number on.
use Prim.Native.Nat.{ℕ, zero, suc, ◌+◌}
use mathlib.Core.Path.{◌≡◌, refl}
use mathlib.Core.Bool.{Bool, true, false}
use mathlib.Core.List.{List, [], ◌∷◌, ◌++◌}
use native.Mathlib.Omega.{arith}
use lib.Dec.{leb, eqb, leb-zero, leb-suc-zero, leb-suc-suc, eqb-zero-suc, eqb-suc-zero, eqb-suc-suc}
use borrow.Author.Tests.{le-leb, lt-leb, eq-eqb}
use Rattle.laws.specs.When.{when, ◌and◌}
use Rattle.frame.specs.declared.Frame.{Frame}
use Rattle.exchange.specs.Exchange.{Side, by_provider, by_receiver, Passing}
use Rattle.exchange.specs.Lines.{named_section}
use Rattle.exchange.specs.Order.{asks_sending, asks_for, sendings_before}

-- 1 where the Receiver asks for a sending of section n or a later one, else 0
abbrev asks_from : ℕ → Side → Frame → ℕ
asks_from n by_provider f = 0
asks_from n by_receiver f = when (asks_sending f and leb n (named_section f)) 1 0

-- how many of them these frames asked for
abbrev pub sendings_from : ℕ → List Passing → ℕ
sendings_from n [] = 0
sendings_from n (x ∷ xs) = asks_from n x.sender x.packet.frame + sendings_from n xs

-- a number from n on is n or from n + 1 on
own_or_later : (n a : ℕ) → when (leb n a) 1 0 ≡ when (eqb a n) 1 0 + when (leb (suc n) a) 1 0
unfolding when
own_or_later zero zero = refl
own_or_later zero (suc a) = simp (leb-zero, le-leb 1 (suc a) (omega arith), eqb-suc-zero)
own_or_later (suc n) zero = simp (leb-suc-zero, eqb-zero-suc)
own_or_later (suc n) (suc a) = simp (leb-suc-suc, eqb-suc-suc) (own_or_later n a)

asks_split : (n : ℕ) (s : Side) (f : Frame) → asks_from n s f ≡ asks_for n s f + asks_from (suc n) s f
unfolding when
asks_split n by_provider f = refl
asks_split n by_receiver f = by_test (asks_sending f)
  where
    by_test : (b : Bool) → when (b and leb n (named_section f)) 1 0 ≡ when (b and eqb (named_section f) n) 1 0 + when (b and leb (suc n) (named_section f)) 1 0
    by_test true = own_or_later n (named_section f)
    by_test false = refl

-- those from section n on are its own and those of the later sections
pub sendings_split : (n : ℕ) (t : List Passing) → sendings_from n t ≡ sendings_before n t + sendings_from (suc n) t
sendings_split n [] = refl
sendings_split n (x ∷ t) = omega (arith, sendings_split n t, asks_split n x.sender x.packet.frame)

from_more : (n : ℕ) (t : List Passing) (x : Passing) → sendings_from n (t ++ (x ∷ [])) ≡ sendings_from n t + asks_from n x.sender x.packet.frame
from_more n [] x = omega arith
from_more n (y ∷ t) x = omega (arith, from_more n t x)

-- frame f of side s asks for so many sendings of section n, and for none of a later one
abbrev pub Asks : ℕ → Side → Frame → ℕ → Type 0
Asks n s f asked = (asks_for n s f ≡ asked) × (asks_from (suc n) s f ≡ 0)

-- t' has so many more of section n than t, and as many of the later ones
abbrev pub AsksMore : ℕ → List Passing → List Passing → ℕ → Type 0
AsksMore n t t' asked = (sendings_before n t' ≡ sendings_before n t + asked) × (sendings_from (suc n) t' ≡ sendings_from (suc n) t)

pub asks_more : (n : ℕ) (t : List Passing) (x : Passing) (asked : ℕ) → Asks n x.sender x.packet.frame asked → AsksMore n t (t ++ (x ∷ [])) asked
asks_more n t x asked a =
    omega (
      arith,
      asks_split n x.sender x.packet.frame,
      sendings_split n t,
      sendings_split n (t ++ (x ∷ [])),
      from_more n t x,
      from_more (suc n) t x,
    )

-- a frame that is no request for a sending
pub asks_none : (n : ℕ) (f : Frame) → asks_sending f ≡ false → Asks n by_receiver f 0
unfolding when
asks_none n f e = (simp e, simp e)

-- one that is, for a sending of the section that it names
pub asks_own : (f : Frame) → asks_sending f ≡ true → Asks (named_section f) by_receiver f 1
unfolding when
asks_own f e = (
  simp (e, eq-eqb (named_section f) (named_section f) refl),
  simp (e, lt-leb (suc (named_section f)) (named_section f) (omega arith)),
)
