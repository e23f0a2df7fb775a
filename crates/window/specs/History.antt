-- A window changed only by its calls since its making (document 02, A14).
use Rattle.std.specs.Prelude.{ℕ, List, [], ◌∷◌}
use Rattle.window.specs.Window.{making, adding}
use Rattle.window.specs.declared.Ended.{Ended}
use Rattle.window.specs.declared.Window.{Window}

-- after these records, the first one first
abbrev pub after_all : Window → List Ended → Window
after_all w [] = w
after_all w (e ∷ es) = after_all (adding w e).window es

-- made with this width, and then given the records of a whole history; the totals that are shown in between change nothing
abbrev pub window_after : ℕ → List Ended → Window
window_after width history = after_all (making width).window history
