-- The start of a record and store that agree: 21, 22, or the select. What else `build` refuses cannot come.
use Prim.Native.Nat.{ℕ, ◌+◌, ◌≤◌}
use mathlib.Core.Path.{◌≡◌, refl}
use mathlib.Core.Bool.{Bool, true, false}
use mathlib.Core.List.{List}
use lib.Dec.{leb}
use lib.ListN.{length}
use borrow.Author.Tests.{leb-true}
use Rattle.std.specs.Prelude.{Err, Ok}
use Rattle.laws.specs.When.{when, unless}
use Rattle.asdu.specs.Sizes.{sizes_right, max_ioa}
use Rattle.asdu.specs.Elements.{scq_in_range}
use Rattle.asdu.proofs.Range.{both}
use Rattle.asdu.specs.declared.FtError.TheVariants as E
use Rattle.ft.specs.Directions.{uses_function}
use Rattle.ft.specs.Procedure.{settled, address_right, addressed}
use Rattle.ft.specs.Admission.{serves}
use Rattle.ft.specs.Building.{header_of, framed, built}
use Rattle.ft.specs.declared.Asdu.{Asdu}
use Rattle.receive.specs.Record.{store_agrees, awaiting, opening, select, stepped, started_with, started}
use Rattle.receive.specs.declared.Receiver.{Receiver}
use Rattle.receive.specs.declared.ReceiverAnswer.TheVariants.{Send, Err}

-- what the agreement of a record and a store says
pub record Agrees (r : Receiver) (store : List ℕ) : Type 0 where
  pub settings : settled r.procedure ≡ true
  pub object : leb r.ioa (max_ioa r.procedure.sizes) ≡ true
  pub held : leb (r.kept + r.staged) (length store) ≡ true

pub agrees : (r : Receiver) (store : List ℕ) → store_agrees r store ≡ true → Agrees r store
unfolding store_agrees
agrees r store e =
    let s = both _ _ e in
    let o = both _ _ s.1 in
    record { settings = s.0; object = o.0; held = o.1 }

pub agrees_held : (r : Receiver) (store : List ℕ) → store_agrees r store ≡ true → r.kept + r.staged ≤ length store
agrees_held r store e = leb-true (r.kept + r.staged) (length store) (agrees r store e).held

started_when : (r : Receiver) (u s : Bool) (a : Asdu)
    → started_with r (unless u (Err E.FunctionNotUsed) (unless s (Err E.NotSelectedDirection) (Ok a)))
    ≡ unless u (stepped r (Err E.FunctionNotUsed))
    (unless s (stepped r (Err E.NotSelectedDirection)) (stepped (awaiting r opening) Send))
unfolding when
started_when r true true a = refl
started_when r true false a = refl
started_when r false s a = refl

pub started_is : (r : Receiver) (store : List ℕ) → store_agrees r store ≡ true
    → started r store
    ≡ unless (uses_function r.procedure.selection) (stepped r (Err E.FunctionNotUsed))
    (unless (serves r.procedure r.procedure.role true) (stepped r (Err E.NotSelectedDirection))
    (stepped (awaiting r opening) Send))
unfolding started built framed addressed settled scq_in_range when
started_is r store e =
    let g = agrees r store e in
    let b = both (sizes_right r.procedure.sizes) (address_right r.procedure.sizes r.procedure.ca r.procedure.org) g.settings in
    simp (e, b.0, b.1, g.object)
    (started_when r (uses_function r.procedure.selection) (serves r.procedure r.procedure.role true)
    (record { header = header_of r.procedure.ca r.procedure.org (select r); frame = select r }))
