use Rattle.lines.proofs.Writing.{put_front}
use Rattle.load_script.proofs.Load.write.Goals as goal

pub returns : goal.returns
returns c =
    let text = rw (c.file.ensures.1, c.damage-damage.ensures) at (put_front c.put_script.ensures.1) in
    (text.0, text.1, c.put_script.ensures.0)
