use Prim.Native.Nat.{◌≤◌}
use native.Mathlib.Omega.{arith}
use lib.ListN.{length}
use Rattle.laws.specs.When.{when}
use Rattle.body_reader.specs.Reading.{elements_len}
use Rattle.body_reader.proofs.payload_in.Goals as goal

pub bounds-body-3 : goal.bounds-body-3
unfolding elements_len when
bounds-body-3 c =
    let front : 4 ≤ length c.args.body.now = rw c.if-type_id-eq-F_SG_NA_1.true at c.requires in
    omega arith
