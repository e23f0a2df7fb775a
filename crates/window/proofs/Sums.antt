-- Totals over records (`totals_of`, specs/Totals.antt).
use Prim.Native.Nat.{ℕ, zero, suc, ◌+◌, ◌-◌, ◌≤◌}
use lib.ListN.{length, drop}
use mathlib.Core.Bool.{Bool, true, false}
use mathlib.Core.Path.{◌≡◌, refl, ap, ◌∙◌}
use mathlib.Core.List.{List, [], ◌∷◌, ◌++◌}
use native.Mathlib.Omega.{arith}
use Rattle.window.specs.Totals.{whole_count, with_record, totals_of}
use Rattle.window.specs.declared.Ended.{Ended}
use Rattle.window.specs.declared.Totals.{Totals}

pub whole_most : (b : Bool) → whole_count b ≤ 1
whole_most true = omega arith
whole_most false = omega arith

-- which of two records is added first makes no difference
exchanged : (d e : Ended) (t : Totals) → with_record d (with_record e t) ≡ with_record e (with_record d t)
exchanged d e t =
    let octets : t.octets + e.octets + d.octets ≡ t.octets + d.octets + e.octets = omega arith in
    let frames : t.frames + e.frames + d.frames ≡ t.frames + d.frames + e.frames = omega arith in
    let damaged : t.damaged + e.damaged + d.damaged ≡ t.damaged + d.damaged + e.damaged = omega arith in
    let whole : t.whole + whole_count e.whole + whole_count d.whole ≡ t.whole + whole_count d.whole + whole_count e.whole = omega arith in
    cc

-- with a record behind them the totals are those of one record more
pub totals_behind : (es : List Ended) (e : Ended) → totals_of (es ++ (e ∷ [])) ≡ with_record e (totals_of es)
totals_behind [] e = refl
totals_behind (d ∷ es) e = ap (with_record d) (totals_behind es e) ∙ exchanged d e (totals_of es)

drop_of_nil : {A : Type 0} (n : ℕ) → drop {A = A} n [] ≡ []
drop_of_nil zero = refl
drop_of_nil (suc n) = refl

-- a list without so many of its first, part by part
pub drop_apart : {A : Type 0} (n : ℕ) (xs ys : List A) → drop n xs ++ drop (n - length xs) ys ≡ drop n (xs ++ ys)
drop_apart n [] ys = let none : n - 0 ≡ n = omega arith in rw (drop_of_nil n, none)
drop_apart zero (x ∷ xs) ys = let all : 0 - suc (length xs) ≡ 0 = omega arith in rw all refl
drop_apart (suc n) (x ∷ xs) ys = let less : suc n - suc (length xs) ≡ n - length xs = omega arith in rw less (drop_apart n xs ys)
