use Rattle.std.proofs.Common.{ap, Ok, ◌≡◌, true, length, arith, rules}
use Rattle.laws.proofs.Decide.{whens, yes}
use Rattle.window.specs.Window.{window_right, inside}
use Rattle.window.specs.Totals.{totals_of, totals_answer}
use Rattle.window.proofs.Right.{right_numbers}
use Rattle.window.proofs.Ring.{inside_by_parts}
use Rattle.window.proofs.Window.totals.Goals as goal

pub returns : goal.returns
unfolding totals_answer inside
returns c =
    let w = c.args.self in
    let right : window_right w ≡ true = yes c.is_right.ensures c.if-not-is_right.false in
    let r = right_numbers w right in
    let long : length w.records ≡ 64 = search rules in
    let parts = inside_by_parts w.width w.place w.records r.next (omega arith) w.count in
    simp (whens, right) (rw (c.of.ensures, c.from-width.ensures, c.from-place.ensures, c.from.ensures) (ap (λ es. Ok (totals_of es)) parts))
