use Prim.Native.Nat.{◌+◌}
use mathlib.Core.Path.{refl}
use mathlib.Core.List.{[], ◌∷◌, append_assoc}
use native.Mathlib.Omega.{arith}
use lib.ListN.{set}
use Rattle.script.specs.Script.{text_of}
use Rattle.script.proofs.Meaning.{spaced-append}
use Rattle.lines.specs.Putting.{Put}
use Rattle.store.proofs.Written.{written_one}
use Rattle.load_script.proofs.Texts.{put_after}
use Rattle.load_script.proofs.put_script.Goals as goal

pub returns : goal.returns
unfolding text_of
returns c =
    let newline : Put c.put_counted-at-2.new.out c.put_counted-at-2.result (10 ∷ []) (c.put_counted-at-2.result + 1) (set c.put_counted-at-2.new.out c.put_counted-at-2.result 10) =
    record { end = refl; text = written_one _ _ 10 (omega arith) } in
    let damage = put_after c.put_counted-at-2.ensures.1 (omega arith) newline in
    let file = put_after c.put_counted-at.ensures.1 (omega arith) damage in
    let text = put_after c.put_settings-at.ensures.1 (omega arith) file in
    (omega arith, simp (spaced-append, append_assoc) (simp append_assoc at text))
