use Rattle.laws.proofs.Decide.{yes}
use Rattle.body_reader.proofs.Bodies.{formed_long}
use Rattle.body_reader.proofs.read.Goals as goal

pub frame_of-requires : goal.frame_of-requires
frame_of-requires c =
    let a = c.args in
    formed_long a.type_id a.body.now (yes c.is_well_formed.ensures c.if-not-is_well_formed.false)

pub payload_in-requires : goal.payload_in-requires
payload_in-requires c =
    let a = c.args in
    formed_long a.type_id a.body.now (yes c.is_well_formed.ensures c.if-not-is_well_formed.false)
