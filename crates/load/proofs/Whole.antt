-- What the load program prints, the transfer program plays to its end (document 02, A2): the transfer is whole, after the frames of the two-party theorem.
use Prim.Native.Nat.{ℕ, ◌≤◌}
use mathlib.Core.Path.{◌≡◌, refl, sym, ap, ◌∙◌}
use mathlib.Core.List.{List, ◌++◌}
use native.Mathlib.Omega.{arith}
use lib.ListN.{length, drop}
use borrow.Author.Tests.{le-leb}
use Rattle.std.specs.Prelude.{Ok}
use Rattle.laws.specs.When.{when}
use Rattle.asdu.specs.Sizes.{within, sizes_right, max_common_address, max_ioa}
use Rattle.ft.specs.Procedure.{address_right, addressed}
use Rattle.script.specs.Script.{text_of}
use Rattle.script.specs.Reader.{script_of}
use Rattle.twoparty.specs.declared.Settings.{Settings}
use Rattle.run.specs.Run.{script_frames}
use Rattle.run.specs.declared.Ending.TheVariants.{Whole}
use Rattle.run.proofs.Running.{Accepted}
use Rattle.run.proofs.Endings.{run_whole}
use Rattle.run.proofs.Longest.{longest}
use Rattle.console.specs.Program.{settings_with, played}
use Rattle.load_script.specs.Load.{Within, object, name, file_of, damage_of, script_for}
use Rattle.load_script.specs.declared.Load.{Load}
use Rattle.load_script.proofs.Filling.{file_length}
use Rattle.load_script.proofs.Right.{script_right, load_script_read, load_damage_named}

-- what the transfer program gives a run of such a script
abbrev pub settings : Settings
settings = settings_with object (record { value = name })

load_accepted : (l : Load) → Within l → (store : List ℕ) → l.octets ≤ length store → Accepted settings (file_of l) (damage_of l) store
unfolding sizes_right within max_common_address max_ioa addressed address_right when
load_accepted l w store room =
    record {
      widths = refl;
      addresses = refl;
      short = le-leb (length (file_of l)) 0xFFFFFF (omega (arith, file_length l, w.octets));
      named = load_damage_named l;
      room = le-leb (length (file_of l)) (length store) (omega (arith, file_length l));
    }

pub load_whole : (l : Load) → Within l → (store : List ℕ) → l.octets ≤ length store
    → played store (script_of (text_of (script_for l)))
    ≡ record { result = (Ok (Whole l.octets (script_frames settings (file_of l) (damage_of l)))); store = file_of l ++ drop l.octets store }
load_whole l w store room =
    let right = script_right l w in
    let few = longest settings (file_of l) (damage_of l) refl right.file_length right.damage_length in
    let frames : ℕ = script_frames settings (file_of l) (damage_of l) in
    rw (load_script_read l w)
    (run_whole settings (file_of l) (damage_of l) store (load_accepted l w store room) 65535 (omega arith)
    ∙ ap (λ (n : ℕ). record { result = (Ok (Whole n frames)); store = file_of l ++ drop n store }) (sym (file_length l)))
