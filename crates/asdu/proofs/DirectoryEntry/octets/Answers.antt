use Rattle.std.proofs.Common.{rules}
use Prim.Native.Nat.{◌/◌, ◌%◌}
use mathlib.Core.Path.{◌≡◌}
use lib.ListN.{get_or}
use native.Mathlib.Omega.{arith}
use Rattle.asdu.specs.Entry.{entry_octets, time_octets}
use Rattle.asdu.proofs.Range.{entry_fits, time_fits}
use Rattle.asdu.proofs.DirectoryEntry.octets.Goals as goal

pub sof_octet-requires : goal.sof_octet-requires
sof_octet-requires c = (entry_fits _ c.requires).sof

pub overflow_add-result : goal.overflow_add-result
overflow_add-result c = let f = time_fits _ (entry_fits _ c.requires).time in omega arith

pub overflow_add-result-2 : goal.overflow_add-result-2
overflow_add-result-2 c = let f = time_fits _ (entry_fits _ c.requires).time in omega arith

pub overflow_add-result-3 : goal.overflow_add-result-3
overflow_add-result-3 c = let f = time_fits _ (entry_fits _ c.requires).time in omega arith

pub overflow_mul-result : goal.overflow_mul-result
overflow_mul-result c = let f = time_fits _ (entry_fits _ c.requires).time in omega arith

pub overflow_add-result-4 : goal.overflow_add-result-4
overflow_add-result-4 c = let f = time_fits _ (entry_fits _ c.requires).time in omega arith

pub returns : goal.returns
unfolding entry_octets time_octets
returns c =
    let nof = c.args.self.nof.value in
    let lof = c.args.self.lof.value in
    let fits = entry_fits _ c.requires in
    let name_low : get_or c.to_le_bytes.result 0 0 ≡ nof % 256 = search rules in
    let name_high : get_or c.to_le_bytes.result 1 0 ≡ nof / 256 = search rules in
    let low : get_or c.to_le_bytes-2.result 0 0 ≡ lof % 256 = search rules in
    let middle : get_or c.to_le_bytes-2.result 1 0 ≡ lof / 256 % 256 = search rules in
    let high : get_or c.to_le_bytes-2.result 2 0 ≡ lof / 65536 = search rules in
    let milliseconds_low : get_or c.to_le_bytes-3.result 0 0 ≡ c.args.self.time.milliseconds % 256 = search rules in
    let milliseconds_high : get_or c.to_le_bytes-3.result 1 0 ≡ c.args.self.time.milliseconds / 256 = search rules in
    simp (name_low, name_high, low, middle, high, milliseconds_low, milliseconds_high, c.sof_octet.ensures, c.weight_of.ensures.0, c.weight_of-2.ensures.0, c.weight_of-3.ensures.0)
