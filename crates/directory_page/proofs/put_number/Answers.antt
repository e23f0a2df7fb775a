use Rattle.std.proofs.Common.{refl}
use Rattle.directory_page.proofs.Places.{first_place}
use Rattle.directory_page.proofs.put_number.Goals as goal

pub loop-i-init : goal.loop-i-init
loop-i-init c = (refl, first_place c.args.filler c.args.n _ c.args.places.now refl)
