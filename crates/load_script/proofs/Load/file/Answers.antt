use Rattle.std.proofs.Common.{arith}
use Rattle.load_script.proofs.Filling.{file_front}
use Rattle.load_script.proofs.Load.file.Goals as goal

pub returns : goal.returns
returns c =
    file_front c.args.self c.args.buffer.now (omega arith) (omega arith) c.in-Ok.after c.fill_file.new.file c.in-Ok.ensures.0 c.in-Ok.ensures.1
