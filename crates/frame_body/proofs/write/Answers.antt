use mathlib.Core.Path.{◌∙◌}
use native.Mathlib.Omega.{arith}
use Rattle.laws.proofs.Decide.{nay}
use Rattle.frame_body.proofs.Answers.{tested, told_unsupported, told_range, told_short, told_written}
use Rattle.frame_body.proofs.write.Goals as goal

pub returns-then-not-is_body_type : goal.returns-then-not-is_body_type
returns-then-not-is_body_type c =
    let a = c.args in
    told_unsupported a.frame a.payload.now a.out.now (rw (← c.type_id.ensures) (nay c.is_body_type.ensures c.if-not-is_body_type.true))

pub returns-then-not-is_in_range : goal.returns-then-not-is_in_range
returns-then-not-is_in_range c =
    let a = c.args in
    let k = tested a.frame a.payload.now c.type_id.ensures c.is_body_type.ensures c.if-not-is_body_type.false c.is_in_range.ensures in
    told_range a.frame a.payload.now a.out.now (k.0, k.1 ∙ c.if-not-is_in_range.true)

pub returns-then-out-length : goal.returns-then-out-length
returns-then-out-length c =
    let a = c.args in
    let k = tested a.frame a.payload.now c.type_id.ensures c.is_body_type.ensures c.if-not-is_body_type.false c.is_in_range.ensures in
    told_short a.frame a.payload.now a.out.now (k.0, k.1 ∙ c.if-not-is_in_range.false) (omega arith)

pub put_body-requires : goal.put_body-requires
put_body-requires c =
    let a = c.args in
    let k = tested a.frame a.payload.now c.type_id.ensures c.is_body_type.ensures c.if-not-is_body_type.false c.is_in_range.ensures in
    (k.1 ∙ c.if-not-is_in_range.false, omega arith)

pub returns : goal.returns
returns c =
    let a = c.args in
    let k = tested a.frame a.payload.now c.type_id.ensures c.is_body_type.ensures c.if-not-is_body_type.false c.is_in_range.ensures in
    let told = told_written a.frame a.payload.now a.out.now (k.0, k.1 ∙ c.if-not-is_in_range.false) (omega arith) in
    (rw c.body_len-length.ensures told.0, c.put_body.ensures ∙ told.1)
