use native.Mathlib.Omega.{arith}
use Rattle.load_script.proofs.Texts.{put_after, count_put}
use Rattle.load_script.proofs.put_counted.Goals as goal

pub put_octets-requires : goal.put_octets-requires
put_octets-requires c =
    let put = count_put (omega arith) (omega arith) c.put_number-next.ensures in
    omega (arith, c.put_number-next.auto.out)

pub returns : goal.returns
returns c =
    let put = count_put (omega arith) (omega arith) c.put_number-next.ensures in
    (omega arith, put_after put.1 (omega arith) c.put_octets.ensures.1)
