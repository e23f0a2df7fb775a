use Rattle.std.proofs.Common.{◌≤◌, sym, arith, length-take, length-take-le}
use Rattle.load_script.proofs.Filling.{damage_front, damage_places}
use Rattle.load_script.proofs.Load.damage.Goals as goal

pub returns : goal.returns
returns c =
    let a = c.args in
    let g = c.requires.2 in
    damage_front a.self a.buffer.now (omega arith) (omega arith) c.in-Ok.field-0.generator c.in-Ok.field-0.count c.fill_damage.new.list
    (rw g at c.in-Ok.ensures.0) (rw g at c.in-Ok.ensures.1)

pub slice_bounds-result-end : goal.slice_bounds-result-end
slice_bounds-result-end c =
    let a = c.args in
    let most : c.in-Ok.field-0.count ≤ a.self.entries =
    damage_places a.self a.buffer.now (omega arith) (omega arith) c.in-Ok.field-0.generator c.in-Ok.field-0.count (rw c.requires.2 at c.in-Ok.ensures.0) in
    sym (length-take-le _ _ (omega (arith, most, simp length-take at c.fill_damage.auto.list)))
