use Rattle.std.proofs.Common.{ℕ, List, ◌≡◌, arith, rules}
use Rattle.window.specs.Window.{added}
use Rattle.window.specs.declared.Ended.{Ended}
use Rattle.window.specs.declared.Window.{Window}
use Rattle.window.proofs.Right.{right_numbers}
use Rattle.window.proofs.Window.added.Goals as goal

-- by the fields that change
same : (width c c' p p' : ℕ) (rs rs' : List Ended) → c ≡ c' → p ≡ p' → rs ≡ rs'
    → ◌≡◌ {A = Window} (record { width = width; count = c; place = p; records = rs }) (record { width = width; count = c'; place = p'; records = rs' })
same width c c' p p' rs rs' a b d = cc

pub returns : goal.returns
unfolding added
returns c = let r = right_numbers c.args.self c.requires in same _ _ _ _ _ _ _ (omega arith) (omega arith) (search rules)
