-- What a making that accepts says of its arguments.
use Prim.Native.Nat.{ℕ}
use mathlib.Core.Path.{◌≡◌, refl}
use mathlib.Core.Bool.{Bool, true, false}
use lib.Dec.{leb}
use Rattle.std.specs.Prelude.{Err, Ok, Result}
use Rattle.laws.specs.When.{when, unless}
use Rattle.asdu.specs.Sizes.{sizes_right, max_ioa}
use Rattle.asdu.proofs.Range.{both}
use Rattle.asdu.specs.declared.Nof.{Nof}
use Rattle.asdu.specs.declared.FtError.{FtError}
use Rattle.ft.specs.Procedure.{settled, address_right, addressed}
use Rattle.ft.specs.declared.FileTransferProcedure.{FileTransferProcedure}
use Rattle.receive.specs.Record.{fresh_receiver, receiver_made}
use Rattle.receive.specs.declared.Receiver.{Receiver}

-- settings whose widths and own addresses are right
settled_by : (p : FileTransferProcedure) → sizes_right p.sizes ≡ true → address_right p.sizes p.ca p.org ≡ true → settled p ≡ true
unfolding settled when
settled_by p z a = simp (z, a)

-- a test that is passed before an answer
test_held : (b : Bool) (e : FtError) (y : Result Receiver FtError) (x : Receiver) → unless b (Err e) y ≡ Ok x → (b ≡ true) × (y ≡ Ok x)
unfolding when
test_held true e y x h = (refl, h)
test_held false e y x h = (cc, cc)

module _ (p : FileTransferProcedure) (ioa : ℕ) (nof : Nof) where
  pub record Made (x : Receiver) : Type 0 where
    pub settings : settled p ≡ true
    pub object : leb ioa (max_ioa p.sizes) ≡ true
    pub fresh : x ≡ fresh_receiver p ioa nof

  pub made : (x : Receiver) → receiver_made p ioa nof ≡ Ok x → Made x
  unfolding receiver_made addressed
  made x e =
      let z = test_held _ _ _ x e in
      let a = test_held _ _ _ x z.1 in
      let o = both _ _ a.0 in
      record { settings = settled_by p z.0 o.0; object = o.1; fresh = cc a.1 }
