-- The start of a record and store that agree: 21, 22, 3, or the call's frame. What else `build` refuses cannot come.
use Prim.Native.Nat.{ℕ}
use mathlib.Core.Path.{◌≡◌, refl}
use mathlib.Core.Bool.{Bool, true, false}
use mathlib.Core.List.{List}
use lib.Dec.{leb}
use Rattle.std.specs.Prelude.{Err, Ok}
use Rattle.laws.specs.When.{when, unless}
use Rattle.asdu.specs.Sizes.{sizes_right, max_ioa}
use Rattle.asdu.specs.Elements.{scq_in_range}
use Rattle.asdu.specs.declared.FtError.TheVariants as E
use Rattle.asdu.proofs.Range.{both}
use Rattle.ft.specs.Directions.{uses_function}
use Rattle.ft.specs.Procedure.{settled, address_right, addressed}
use Rattle.ft.specs.Admission.{serves}
use Rattle.ft.specs.Building.{header_of, framed, built}
use Rattle.ft.specs.declared.Asdu.{Asdu}
use Rattle.collector.specs.Record.{call_agrees, call_frame, starting, start_step, started_with, started}
use Rattle.collector.specs.declared.DirectoryCall.{DirectoryCall}
use Rattle.collector.proofs.Agreement.{agrees_settled}

started_when : (c : DirectoryCall) (u s w : Bool) (a : Asdu)
    → started_with c (unless u (Err E.FunctionNotUsed) (unless s (Err E.NotSelectedDirection) (unless w (Err E.AddressOutOfRange) (Ok a))))
    ≡ unless u (start_step c (Err E.FunctionNotUsed))
    (unless s (start_step c (Err E.NotSelectedDirection))
    (unless w (start_step c (Err E.AddressOutOfRange))
    (start_step (starting c) (Ok a.frame))))
unfolding when
started_when c true true true a = refl
started_when c true true false a = refl
started_when c true false w a = refl
started_when c false s w a = refl

pub started_is : (c : DirectoryCall) (store : List ℕ) (ioa : ℕ) → call_agrees c store ≡ true
    → started c store ioa
    ≡ unless (uses_function c.procedure.selection) (start_step c (Err E.FunctionNotUsed))
    (unless (serves c.procedure c.procedure.role true) (start_step c (Err E.NotSelectedDirection))
    (unless (leb ioa (max_ioa c.procedure.sizes)) (start_step c (Err E.AddressOutOfRange))
    (start_step (starting c) (Ok (call_frame ioa)))))
unfolding started built framed addressed settled scq_in_range when
started_is c store ioa e =
    let p = c.procedure in
    let b = both (sizes_right p.sizes) (address_right p.sizes p.ca p.org) (agrees_settled c store e) in
    simp (e, b.0, b.1)
    (started_when c (uses_function p.selection) (serves p p.role true) (leb ioa (max_ioa p.sizes))
    (record { header = header_of p.ca p.org (call_frame ioa); frame = call_frame ioa }))
