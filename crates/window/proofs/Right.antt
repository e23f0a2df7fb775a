-- What it is in numbers that a width, and a window, is right.
use Prim.Native.Nat.{ℕ, ◌≤◌, ◌<◌}
use mathlib.Core.Bool.{true}
use mathlib.Core.Path.{◌≡◌}
use lib.Dec.{leb, ltb}
use borrow.Author.Tests.{leb-true, ltb-true, le-leb, lt-ltb}
use Rattle.laws.specs.When.{◌and◌}
use Rattle.laws.proofs.Decide.{whens}
use Rattle.asdu.proofs.Range.{both}
use Rattle.window.specs.Window.{width_right, window_right}
use Rattle.window.specs.declared.Window.{Window}

pub width_numbers : (width : ℕ) → width_right width ≡ true → (1 ≤ width) × (width ≤ 64)
unfolding width_right
width_numbers width e =
    let o = both (leb 1 width) (leb width 64) e in
    (leb-true 1 width o.0, leb-true width 64 o.1)

pub record Right (w : Window) : Type 0 where
  pub wide : width_right w.width ≡ true
  pub some : 1 ≤ w.width
  pub most : w.width ≤ 64
  pub room : w.count ≤ w.width
  pub next : w.place < w.width

pub right_numbers : (w : Window) → window_right w ≡ true → Right w
unfolding window_right
right_numbers w e =
    let o = both (width_right w.width) (leb w.count w.width and ltb w.place w.width) e in
    let p = both (leb w.count w.width) (ltb w.place w.width) o.1 in
    let n = width_numbers w.width o.0 in
    record { wide = o.0; some = n.0; most = n.1; room = leb-true _ _ p.0; next = ltb-true _ _ p.1 }

pub numbers_right : (w : Window) → Right w → window_right w ≡ true
unfolding window_right
numbers_right w r = simp (whens, r.wide, le-leb _ _ r.room, lt-ltb _ _ r.next)

-- what the sums and the places rest on
pub right_bounds : (w : Window) → window_right w ≡ true → (w.place < w.width) × (w.count ≤ w.width) × (1 ≤ w.width) × (w.width ≤ 64)
right_bounds w e = let r = right_numbers w e in (r.next, r.room, r.some, r.most)
