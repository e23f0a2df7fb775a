-- What a making that accepts says of its arguments, and that its record agrees with its file.
use Prim.Native.Nat.{ℕ, ◌≤◌}
use mathlib.Core.Path.{◌≡◌, refl}
use mathlib.Core.Bool.{Bool, true, false}
use mathlib.Core.List.{List}
use lib.Dec.{leb}
use lib.ListN.{length}
use borrow.Author.Tests.{leb-true, le-leb, eq-eqb, eqb-true}
use Rattle.std.specs.Prelude.{Err, Ok, Result}
use Rattle.laws.specs.When.{when, unless}
use Rattle.asdu.specs.Sizes.{sizes_right, max_ioa}
use Rattle.asdu.proofs.Range.{both}
use Rattle.asdu.specs.declared.Nof.{Nof}
use Rattle.asdu.specs.declared.FtError.{FtError}
use Rattle.ft.specs.Procedure.{settled, address_right, addressed}
use Rattle.ft.specs.declared.FileTransferProcedure.{FileTransferProcedure}
use Rattle.sections.specs.Sections.{section_length}
use Rattle.provide.specs.Record.{fresh_provider, provider_made, file_agrees}
use Rattle.provide.specs.declared.Provider.{Provider}

-- settings whose widths and own addresses are right
pub settled_by : (p : FileTransferProcedure) → sizes_right p.sizes ≡ true → address_right p.sizes p.ca p.org ≡ true → settled p ≡ true
unfolding settled when
settled_by p z a = simp (z, a)

-- a test that is passed before an answer
test_held : (b : Bool) (e : FtError) (y : Result Provider FtError) (x : Provider) → unless b (Err e) y ≡ Ok x → (b ≡ true) × (y ≡ Ok x)
unfolding when
test_held true e y x h = (refl, h)
test_held false e y x h = (cc, cc)

module _ (p : FileTransferProcedure) (ioa : ℕ) (nof : Nof) (n : ℕ) where
  pub record Made (x : Provider) : Type 0 where
    pub settings : settled p ≡ true
    pub object : leb ioa (max_ioa p.sizes) ≡ true
    pub short : n ≤ 0xFFFFFF
    pub fresh : x ≡ fresh_provider p ioa nof n

  pub made : (x : Provider) → provider_made p ioa nof n ≡ Ok x → Made x
  unfolding provider_made addressed
  made x e =
      let z = test_held _ _ _ x e in
      let a = test_held _ _ _ x z.1 in
      let l = test_held _ _ _ x a.1 in
      let o = both _ _ a.0 in
      record { settings = settled_by p z.0 o.0; object = o.1; short = leb-true _ _ l.0; fresh = cc l.1 }

-- what a making gives agrees with its file
pub made_agrees : (p : FileTransferProcedure) (ioa : ℕ) (nof : Nof) (file : List ℕ) (x : Provider)
    → Made p ioa nof (length file) x → file_agrees x file ≡ true
unfolding file_agrees when
made_agrees p ioa nof file x m =
    rw m.fresh (simp (m.settings, m.object, le-leb _ _ m.short, eq-eqb (length file) (length file) refl, eq-eqb (section_length (length file)) (section_length (length file)) refl))

-- what the agreement of a record and a file says
pub record Agrees (p : Provider) (file : List ℕ) : Type 0 where
  pub settings : settled p.procedure ≡ true
  pub object : leb p.ioa (max_ioa p.procedure.sizes) ≡ true
  pub short : leb p.length 0xFFFFFF ≡ true
  pub length : p.length ≡ length file
  pub section : p.section_len ≡ section_length p.length

pub agrees : (p : Provider) (file : List ℕ) → file_agrees p file ≡ true → Agrees p file
unfolding file_agrees
agrees p file e =
    let s = both _ _ e in
    let o = both _ _ s.1 in
    let h = both _ _ o.1 in
    let l = both _ _ h.1 in
    record { settings = s.0; object = o.0; short = h.0; length = eqb-true _ _ l.0; section = eqb-true _ _ l.1 }
