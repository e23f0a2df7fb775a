-- The last transfers (document 02, A14): a window of 1 to 64 places takes a record for each ended transfer; when it is full the oldest leaves.
use Rattle.std.specs.Prelude.{ℕ, ◌+◌, ◌-◌, ◌%◌, min, Bool, false, List, ◌++◌, leb, ltb, length, take, drop, set, replicate, Ok, Err}
use Rattle.laws.specs.When.{unless, ◌and◌}
use Rattle.asdu.specs.declared.FtError.TheVariants.{InvalidWindow}
use Rattle.window.specs.declared.Ended.{Ended}
use Rattle.window.specs.declared.Window.{Window}
use Rattle.window.specs.declared.WindowStep.{WindowStep}

-- ---- what is inside

-- the last so many of a list, or all of it where it has fewer
unfoldable pub latest : {A : Type 0} → ℕ → List A → List A
latest n xs = drop (length xs - n) xs

-- the records of so many places, the oldest first, where the next one goes to this place: from there on, and again from the first place
unfoldable pub by_age : ℕ → ℕ → List Ended → List Ended
by_age width place records = drop place (take width records) ++ take place records

-- the records inside, the oldest first
unfoldable pub inside : Window → List Ended
inside w = latest w.count (by_age w.width w.place w.records)

-- ---- 33

-- 1 to 64 places
unfoldable pub width_right : ℕ → Bool
width_right width = leb 1 width and leb width 64

-- such a width, a count of at most the width, and for the next record a place from 0 to width − 1
unfoldable pub window_right : Window → Bool
window_right w = width_right w.width and leb w.count w.width and ltb w.place w.width

abbrev pub accepted : Window → WindowStep
accepted w = record { window = w; answer = (Ok tt) }

-- 33, and the window as it came in
abbrev pub refused : Window → WindowStep
refused w = record { window = w; answer = Err InvalidWindow }

-- ---- the calls

-- no record inside; what stands in the places is not looked at
abbrev pub empty_window : ℕ → Window
empty_window width =
    record { width = width; count = 0; place = 0; records = replicate 64 (record { octets = 0; frames = 0; damaged = 0; whole = false }) }

-- the making; what it hands back on 33 has the width that was asked for, and so every call refuses it
unfoldable pub making : ℕ → WindowStep
making width = unless (width_right width) (refused (empty_window width)) (accepted (empty_window width))

-- the record goes to its place, one more is inside up to the width, and the next one goes to the place after it, round the width
unfoldable pub added : Window → Ended → Window
added w e =
    record {
      width = w.width;
      count = min w.width (w.count + 1);
      place = (w.place + 1) % w.width;
      records = set w.records w.place e;
    }

unfoldable pub adding : Window → Ended → WindowStep
adding w e = unless (window_right w) (refused w) (accepted (added w e))
