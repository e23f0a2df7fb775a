-- The offer of a record and file that agree: 21, 22, or the positive file ready. What else `build` refuses cannot come.
use Prim.Native.Nat.{ℕ}
use mathlib.Core.Path.{◌≡◌, refl}
use mathlib.Core.Bool.{Bool, true, false}
use mathlib.Core.List.{List}
use Rattle.std.specs.Prelude.{Err, Ok}
use Rattle.laws.specs.When.{when, unless}
use Rattle.asdu.specs.Sizes.{sizes_right}
use Rattle.asdu.proofs.Range.{both}
use Rattle.asdu.specs.declared.FtError.TheVariants as E
use Rattle.ft.specs.Directions.{uses_function}
use Rattle.ft.specs.Procedure.{settled, address_right, addressed}
use Rattle.ft.specs.Admission.{serves}
use Rattle.ft.specs.Building.{header_of, framed, built}
use Rattle.ft.specs.declared.Asdu.{Asdu}
use Rattle.provide.specs.Record.{file_agrees}
use Rattle.provide.specs.Replies.{file_ready, frame_of, announced}
use Rattle.provide.specs.declared.Provider.{Provider}
use Rattle.provide.proofs.Making.{agrees}

framed_when : (u s : Bool) (a : Asdu)
    → frame_of (unless u (Err E.FunctionNotUsed) (unless s (Err E.NotSelectedDirection) (Ok a)))
    ≡ unless u (Err E.FunctionNotUsed) (unless s (Err E.NotSelectedDirection) (Ok a.frame))
unfolding when
framed_when true true a = refl
framed_when true false a = refl
framed_when false s a = refl

pub announced_is : (p : Provider) (file : List ℕ) → file_agrees p file ≡ true
    → announced p file
    ≡ unless (uses_function p.procedure.selection) (Err E.FunctionNotUsed)
    (unless (serves p.procedure p.procedure.role false) (Err E.NotSelectedDirection) (Ok (file_ready p)))
unfolding announced built framed addressed settled when
announced_is p file e =
    let g = agrees p file e in
    let b = both (sizes_right p.procedure.sizes) (address_right p.procedure.sizes p.procedure.ca p.procedure.org) g.settings in
    simp (e, b.0, b.1, g.short, g.object)
    (framed_when (uses_function p.procedure.selection) (serves p.procedure p.procedure.role false)
    (record { header = header_of p.procedure.ca p.procedure.org (file_ready p); frame = file_ready p }))

-- and of those that do not, 26
pub announced_off : (p : Provider) (file : List ℕ) → file_agrees p file ≡ false → announced p file ≡ Err E.RecordMismatch
unfolding announced when
announced_off p file e = simp e
