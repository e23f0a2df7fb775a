-- A window changed only by its calls: its totals are the sums over the latest records of its whole history, as many as the width allows.
use Prim.Native.Nat.{ℕ, ◌+◌, ◌-◌, ◌≤◌, min}
use mathlib.Core.Bool.{Bool, true, false}
use mathlib.Core.Path.{◌≡◌, refl, sym, ap, ◌∙◌}
use mathlib.Core.List.{List, [], ◌∷◌, ◌++◌, append_assoc, append-nil}
use native.Mathlib.Nat.{mod-lt}
use native.Mathlib.Omega.{arith}
use lib.ListN.{length, length-append, length-set}
use lib.Seq.{drop-append-le}
use Rattle.std.specs.Prelude.{Err, Ok}
use Rattle.laws.specs.When.{unless}
use Rattle.laws.proofs.Decide.{whens}
use Rattle.asdu.specs.declared.FtError.TheVariants.{InvalidWindow}
use Rattle.window.specs.Window.{latest, by_age, inside, width_right, window_right, empty_window, accepted, refused, making, added, adding}
use Rattle.window.specs.Totals.{totals_of, totals_answer}
use Rattle.window.specs.History.{after_all, window_after}
use Rattle.window.specs.declared.Ended.{Ended}
use Rattle.window.specs.declared.Window.{Window}
use Rattle.window.proofs.Latest.{length-latest, latest_none, latest_all, latest_behind, latest-drop, latest-latest, latest-append}
use Rattle.window.proofs.Ring.{length-ring, put_in_ring}
use Rattle.window.proofs.Right.{Right, width_numbers, numbers_right}

-- ---- one record more

-- a window that every call takes, with all its places
pub record Sound (w : Window) : Type 0 where
  pub right : Right w
  pub long : length w.records ≡ 64

-- of whatever is inside such a window, one set by hand too, the latest stay, as many as the width allows
pub oldest_leaves : (w : Window) → Sound w → (e : Ended) → inside (added w e) ≡ latest w.width (inside w ++ (e ∷ []))
unfolding inside added
oldest_leaves w h e =
    let r = h.right in
    let few : w.width ≤ length w.records = omega (arith, r.most, h.long) in
    let ring = by_age w.width w.place w.records in
    let long : length ring ≡ w.width = length-ring w.width w.place w.records r.next few in
    let some : 1 ≤ length ring = omega (arith, r.some) in
    let left : 1 ≤ length (ring ++ (e ∷ [])) - min w.width (w.count + 1) = rw length-append (omega arith) in
    ap (latest (min w.width (w.count + 1))) (put_in_ring w.width w.place w.records r.next few e ∙ sym (drop-append-le 1 ring (e ∷ []) some))
    ∙ latest-drop (min w.width (w.count + 1)) 1 (ring ++ (e ∷ [])) left
    ∙ sym (latest-latest w.width (w.count + 1) (ring ++ (e ∷ [])))
    ∙ ap (latest w.width) (latest_behind w.count ring e)

still_sound : (w : Window) → Sound w → (e : Ended) → Sound (added w e)
unfolding added
still_sound w h e =
    let r = h.right in
    record {
      right = record { wide = r.wide; some = r.some; most = r.most; room = omega arith; next = mod-lt (w.place + 1) r.some };
      long = length-set w.records w.place e ∙ h.long;
    }

-- ---- a history

-- such a window takes a record, and no other does
taken : (w : Window) (e : Ended) → window_right w ≡ true → adding w e ≡ accepted (added w e)
unfolding adding
taken w e h = simp (whens, h)

not_taken : (w : Window) (e : Ended) → window_right w ≡ false → adding w e ≡ refused w
unfolding adding
not_taken w e h = simp (whens, h)

inside_few : (w : Window) → Sound w → length (inside w) ≤ w.width
unfolding inside
inside_few w h = let room = h.right.room in rw length-latest (omega arith)

-- after any records such a window is one still, and the latest are inside, as many as the width allows
pub record After (w w' : Window) (es : List Ended) : Type 0 where
  pub sound : Sound w'
  pub within : inside w' ≡ latest w.width (inside w ++ es)

one_more : (w w' : Window) (e : Ended) (es : List Ended) → Sound w → After (added w e) w' es → After w w' (e ∷ es)
unfolding added
one_more w w' e es h a =
    record {
      sound = a.sound;
      within =
          a.within
          ∙ ap (λ (xs : List Ended). latest w.width (xs ++ es)) (oldest_leaves w h e)
          ∙ latest-append w.width (inside w ++ (e ∷ [])) es
          ∙ ap (latest w.width) (append_assoc (inside w) (e ∷ []) es);
    }

after : (es : List Ended) (w : Window) → Sound w → After w (after_all w es) es
after [] w h = record { sound = h; within = sym (rw append-nil (latest_all w.width (inside w) (inside_few w h))) }
after (e ∷ es) w h =
    rw (taken w e (numbers_right w h.right)) (one_more w (after_all (added w e) es) e es h (after es (added w e) (still_sound w h e)))

-- a window that is refused stays as it is
kept : (es : List Ended) (w : Window) → window_right w ≡ false → after_all w es ≡ w
kept [] w h = refl
kept (e ∷ es) w h = rw (not_taken w e h) (kept es w h)

-- ---- since the making

begun : (width : ℕ) → (making width).window ≡ empty_window width
unfolding making
begun width = by_test (width_right width)
  where
    by_test : (b : Bool) → (unless b (refused (empty_window width)) (accepted (empty_window width))).window ≡ empty_window width
    by_test true = simp whens
    by_test false = simp whens

empty_sound : (width : ℕ) → width_right width ≡ true → Sound (empty_window width)
empty_sound width e =
    let n = width_numbers width e in
    record { right = record { wide = e; some = n.0; most = n.1; room = omega arith; next = n.0 }; long = refl }

since : (width : ℕ) (history : List Ended) → width_right width ≡ true → After (empty_window width) (window_after width history) history
since width history e = rw (begun width) (after history (empty_window width) (empty_sound width e))

none_inside : (width : ℕ) → inside (empty_window width) ≡ []
unfolding inside
none_inside width = latest_none _

-- of another width it is refused from the first record on
never_right : (width : ℕ) → width_right width ≡ false → window_right (empty_window width) ≡ false
unfolding window_right
never_right width e = simp (whens, e)

-- after any records a window is right where its width is
pub history_right : (width : ℕ) (history : List Ended) → window_right (window_after width history) ≡ width_right width
history_right width history = by_test (width_right width) refl
  where
    by_test : (b : Bool) → width_right width ≡ b → window_right (window_after width history) ≡ width_right width
    by_test true e = numbers_right _ (since width history e).sound.right ∙ sym e
    by_test false e =
        rw (begun width, kept history (empty_window width) (never_right width e)) (never_right width e ∙ sym e)

-- what is inside is the latest of the whole history, as many as the width allows
pub history_inside : (width : ℕ) (history : List Ended) → width_right width ≡ true → inside (window_after width history) ≡ latest width history
history_inside width history e = (since width history e).within ∙ ap (λ (xs : List Ended). latest width (xs ++ history)) (none_inside width)

-- For every width and every history: the totals shown are the sums over the latest records of the history, as many as the width allows; of a width outside 1 to 64 they are refused.
pub history_totals : (width : ℕ) (history : List Ended)
    → totals_answer (window_after width history) ≡ unless (width_right width) (Err InvalidWindow) (Ok (totals_of (latest width history)))
unfolding totals_answer
history_totals width history = rw (history_right width history) (by_test (width_right width) refl)
  where
    by_test : (b : Bool) → width_right width ≡ b
        → unless b (Err InvalidWindow) (Ok (totals_of (inside (window_after width history)))) ≡ unless b (Err InvalidWindow) (Ok (totals_of (latest width history)))
    by_test true e = rw (history_inside width history e)
    by_test false e = simp whens

-- and every record is taken, or with such a width none
pub history_taken : (width : ℕ) (history : List Ended) (e : Ended) → (adding (window_after width history) e).answer ≡ unless (width_right width) (Err InvalidWindow) (Ok tt)
unfolding adding
history_taken width history e = rw (history_right width history) (by_test (width_right width))
  where
    by_test : (b : Bool) → (unless b (refused (window_after width history)) (accepted (added (window_after width history) e))).answer ≡ unless b (Err InvalidWindow) (Ok tt)
    by_test true = simp whens
    by_test false = simp whens
