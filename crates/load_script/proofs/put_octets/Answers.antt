-- The numbers of the octets passed stand in the text, in at most four octets each.
use Rattle.std.proofs.Common.{◌≡◌, ◌<◌, length, arith, rules}
use lib.Seq.{take-length}
use Rattle.load_script.proofs.Texts.{put_nothing, put_after, octet_put, spaced_next}
use Rattle.load_script.proofs.put_octets.Goals as goal

pub loop-octet-init : goal.loop-octet-init
loop-octet-init c = record { most = search rules; text = put_nothing _ _ }

pub loop-octet-preserved : goal.loop-octet-preserved
loop-octet-preserved c =
    let o = c.args.octets.now in
    let i = c.loop-octet.octet-index in
    let within : i < length o = omega arith in
    let put = octet_put (omega arith) (omega arith) (rw c.from.ensures at c.put_number-next.ensures) in
    record {
      most = omega arith;
      text = rw (← (spaced_next o i within)) (put_after c.loop-octet.invariant.text (omega arith) put.1);
    }

pub returns : goal.returns
returns c =
    let e : c.loop-octet.octet-index ≡ length c.args.octets.now = omega arith in
    (omega arith, rw (e, take-length) at c.loop-octet.invariant.text)
