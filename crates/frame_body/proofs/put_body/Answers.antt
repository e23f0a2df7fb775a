use native.Mathlib.Omega.{arith}
use lib.ListN.{length}
use Rattle.frame_body.proofs.Bodies.{file_ready_fits, section_ready_fits, sc_fits, ack_fits}
use Rattle.frame_body.proofs.put_body.Goals as goal

pub file_ready-requires : goal.file_ready-requires
file_ready-requires c = let f = file_ready_fits c.args.payload.now (length c.args.out.now) c.requires c.in-FileReady.is in (f.1, f.2)

pub section_ready-requires : goal.section_ready-requires
section_ready-requires c = let f = section_ready_fits c.args.payload.now (length c.args.out.now) c.requires c.in-SectionReady.is in (f.1, f.2)

pub action_octet-requires : goal.action_octet-requires
action_octet-requires c =
    let f = sc_fits c.args.payload.now (length c.args.out.now) c.requires c.in-Sc.is in
    let action = f.1 in
    let error = f.2 in
    (omega arith, omega arith)

pub action_octet-requires-in-Ack : goal.action_octet-requires-in-Ack
action_octet-requires-in-Ack c = let f = ack_fits c.args.payload.now (length c.args.out.now) c.requires c.in-Ack.is in (f.1, f.2)
