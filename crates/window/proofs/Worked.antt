-- A window of two, by its definition: its totals empty and after each of four records, and what is inside at the end; and widths that are refused. windows.txt has the same.
use Prim.Native.Nat.{ℕ}
use mathlib.Core.Bool.{Bool, true, false}
use mathlib.Core.Path.{◌≡◌, refl}
use mathlib.Core.List.{List, [], ◌∷◌}
use Rattle.std.specs.Prelude.{Err, Ok, Result}
use Rattle.laws.specs.When.{when}
use Rattle.asdu.specs.declared.FtError.TheVariants.{InvalidWindow}
use Rattle.window.specs.Window.{latest, by_age, inside, width_right, window_right, making, added, adding}
use Rattle.window.specs.Totals.{totals_answer}
use Rattle.window.specs.History.{window_after}
use Rattle.window.specs.declared.Ended.{Ended}
use Rattle.asdu.specs.declared.FtError.{FtError}
use Rattle.window.specs.declared.Totals.{Totals}

abbrev ended : ℕ → ℕ → ℕ → Bool → Ended
ended octets frames damaged whole = record { octets = octets; frames = frames; damaged = damaged; whole = whole }

abbrev totals : ℕ → ℕ → ℕ → ℕ → Result Totals FtError
totals octets frames damaged whole = Ok (record { octets = octets; frames = frames; damaged = damaged; whole = whole })

abbrev shown : ℕ → List Ended → Result Totals FtError
shown width history = totals_answer (window_after width history)

abbrev first : Ended
first = ended 2 13 1 true

abbrev second : Ended
second = ended 0 9 0 true

abbrev third : Ended
third = ended 4096 40 3 false

abbrev fourth : Ended
fourth = ended 8192 69 1 true

pub worked_empty : shown 2 [] ≡ totals 0 0 0 0
unfolding totals_answer inside latest by_age window_right width_right making when
worked_empty = refl

pub worked_one : shown 2 (first ∷ []) ≡ totals 2 13 1 1
unfolding totals_answer inside latest by_age window_right width_right making adding added when
worked_one = refl

pub worked_full : shown 2 (first ∷ second ∷ []) ≡ totals 2 22 1 2
unfolding totals_answer inside latest by_age window_right width_right making adding added when
worked_full = refl

pub worked_first_left : shown 2 (first ∷ second ∷ third ∷ []) ≡ totals 4096 49 3 1
unfolding totals_answer inside latest by_age window_right width_right making adding added when
worked_first_left = refl

pub worked_second_left : shown 2 (first ∷ second ∷ third ∷ fourth ∷ []) ≡ totals 12288 109 4 1
unfolding totals_answer inside latest by_age window_right width_right making adding added when
worked_second_left = refl

pub worked_inside : inside (window_after 2 (first ∷ second ∷ third ∷ fourth ∷ [])) ≡ third ∷ fourth ∷ []
unfolding inside latest by_age window_right width_right making adding added when
worked_inside = refl

pub worked_no_width : shown 0 (first ∷ []) ≡ Err InvalidWindow
unfolding totals_answer window_right width_right making adding added when
worked_no_width = refl

pub worked_too_wide : shown 65 (first ∷ []) ≡ Err InvalidWindow
unfolding totals_answer window_right width_right making adding added when
worked_too_wide = refl
