-- The store's end part, after what is kept and staged, is lent to the copying function and comes back.
use Prim.Native.Nat.{◌+◌, ◌≤◌}
use mathlib.Core.Path.{sym}
use native.Mathlib.Omega.{arith}
use borrow.Author.Tests.{leb-true}
use lib.ListN.{length, length-take, length-drop}
use Rattle.laws.proofs.Decide.{whens, yes, nay}
use Rattle.store.proofs.Parts.{written_part}
use Rattle.store.proofs.write_at.Goals as goal

pub returns-then-not-has_room : goal.returns-then-not-has_room
returns-then-not-has_room c = (sym (nay c.has_room.ensures c.if-not-has_room.true), simp whens)

pub copy_front-requires : goal.copy_front-requires
copy_front-requires c =
    let a = c.args in
    let h : a.kept + a.staged + length a.octets.now ≤ length a.store.now = leb-true _ _ (yes c.has_room.ensures c.if-not-has_room.false) in
    simp (length-take, length-drop) (omega arith)

pub slice_bounds-copy_front-start : goal.slice_bounds-copy_front-start
slice_bounds-copy_front-start c =
    let a = c.args in
    let h : a.kept + a.staged + length a.octets.now ≤ length a.store.now = leb-true _ _ (yes c.has_room.ensures c.if-not-has_room.false) in
    omega arith

pub returns : goal.returns
returns c =
    let a = c.args in
    let fits = yes c.has_room.ensures c.if-not-has_room.false in
    let h : a.kept + a.staged + length a.octets.now ≤ length a.store.now = leb-true _ _ fits in
    (sym fits, simp whens (written_part a.store.now _ (a.kept + a.staged) (omega arith) (omega arith) a.octets.now c.copy_front.new.part c.copy_front.ensures))
