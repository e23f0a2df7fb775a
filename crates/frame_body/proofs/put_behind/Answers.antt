use Prim.Native.Nat.{◌+◌}
use mathlib.Core.Bool.{true}
use mathlib.Core.Path.{◌≡◌, ◌∙◌}
use native.Mathlib.Omega.{arith}
use borrow.Author.Tests.{le-leb}
use lib.ListN.{length}
use Rattle.laws.proofs.Decide.{whens}
use Rattle.store.proofs.Written.{wrote, then_wrote}
use Rattle.frame_body.proofs.put_behind.Goals as goal

pub returns : goal.returns
returns c =
    let rest = c.args.rest.now in
    let room : c.write_at.result ≡ true = c.write_at.ensures.0 ∙ le-leb (4 + 0 + length rest) (length c.put.new.out) (omega arith) in
    (then_wrote (wrote c.put.ensures) (wrote (simp (room, whens) at c.write_at.ensures.1)) (omega arith) (omega arith)).text
