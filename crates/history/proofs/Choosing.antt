-- Two tests together, and one of two lists joined.
use mathlib.Core.Path.{◌≡◌, sym, ◌∙◌}
use mathlib.Core.Logic.{◌⊎◌, inl, inr}
use mathlib.Core.Bool.{Bool, true, false, true≢false}
use mathlib.Core.List.{List, [], ◌∷◌, ◌++◌}
use Rattle.laws.specs.When.{when}
use Rattle.history.specs.Calls.{Among}

pub both_so : (a b : Bool) → a ≡ true → b ≡ true → when a b false ≡ true
unfolding when
both_so a b p q = rw p q

pub never : (b : Bool) → b ≡ false → b ≡ true → ⊥
never b f t = true≢false (sym t ∙ f)

-- ---- one of two lists joined is one of the first or of the second

pub apart : {A : Type 0} (x : A) (xs ys : List A) → Among x (xs ++ ys) → Among x xs ⊎ Among x ys
apart x [] ys m = inr m
apart x (z ∷ xs) ys (inl e) = inl (inl e)
apart x (z ∷ xs) ys (inr m) = later (apart x xs ys m)
  where
    later : Among x xs ⊎ Among x ys → Among x (z ∷ xs) ⊎ Among x ys
    later (inl k) = inl (inr k)
    later (inr k) = inr k
