-- What a refusal leaves, and what is refused.
use mathlib.Core.Bool.{Bool, true, false}
use mathlib.Core.Path.{◌≡◌, refl}
use Prim.Native.Nat.{ℕ}
use native.Mathlib.Omega.{arith}
use Rattle.std.specs.Prelude.{Err}
use Rattle.laws.specs.When.{when, unless}
use Rattle.asdu.specs.declared.FtError.{FtError}
use Rattle.window.specs.Window.{window_right, accepted, refused, added, adding}
use Rattle.window.specs.declared.Ended.{Ended}
use Rattle.window.specs.declared.Window.{Window}

-- a refused call hands the window back as it came in
pub refusal_keeps : (w : Window) (e : Ended) (x : FtError) → (adding w e).answer ≡ Err x → (adding w e).window ≡ w
unfolding adding when
refusal_keeps w e x = by_test (window_right w)
  where
    by_test : (b : Bool) → (unless b (refused w) (accepted (added w e))).answer ≡ Err x → (unless b (refused w) (accepted (added w e))).window ≡ w
    by_test true h = let z : ◌≡◌ {A = ℕ} 0 1 = cc in absurd (omega arith)
    by_test false h = refl
