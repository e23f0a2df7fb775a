use mathlib.Core.Path.{◌≡◌, refl}
use mathlib.Core.List.{[], ◌∷◌, append-nil}
use native.Mathlib.Omega.{arith}
use lib.ListN.{length, set, length-set}
use Rattle.script.proofs.Decimals.{decimal_one}
use Rattle.lines.specs.Putting.{Put}
use Rattle.store.proofs.Written.{written_one}
use Rattle.load_script.proofs.Texts.{put_after, count_put}
use Rattle.load_script.proofs.put_settings.Goals as goal

pub returns : goal.returns
returns c =
    let out = c.args.out.now in
    let first : Put out 0 (50 ∷ []) 1 (set out 0 50) = record { end = refl; text = written_one out 0 50 (omega arith) } in
    let kept : length (set out 0 50) ≡ length out = rw length-set in
    let second = count_put (omega arith) (omega arith) c.put_number-next.ensures in
    let third = count_put (omega arith) (omega (arith, c.put_number-next.auto.out)) c.put_number.ensures in
    let numbers = put_after second.1 (omega arith) third.1 in
    (omega arith, rw (decimal_one 2 (omega arith)) (simp append-nil (put_after first (omega arith) numbers)))
