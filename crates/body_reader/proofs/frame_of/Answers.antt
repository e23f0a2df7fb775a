use Rattle.std.proofs.Common.{◌≡◌, arith}
use Rattle.laws.specs.When.{when}
use Rattle.laws.proofs.Decide.{decide}
use Rattle.body_reader.specs.Reading.{elements_len}
use Rattle.body_reader.proofs.frame_of.Goals as goal

pub file_ready-requires : goal.file_ready-requires
unfolding elements_len when
file_ready-requires c = rw c.in-120.is at c.requires

pub section_ready-requires : goal.section_ready-requires
unfolding elements_len when
section_ready-requires c = rw c.in-121.is at c.requires

pub sc-requires : goal.sc-requires
unfolding elements_len when
sc-requires c = rw c.in-122.is at c.requires

pub last_section-requires : goal.last_section-requires
unfolding elements_len when
last_section-requires c = rw c.in-123.is at c.requires

pub ack-requires : goal.ack-requires
unfolding elements_len when
ack-requires c = rw c.in-124.is at c.requires

pub segment-requires : goal.segment-requires
unfolding elements_len
segment-requires c =
    let front : elements_len c.args.type_id ≡ 4 = search decide in
    omega (arith, c.requires)
