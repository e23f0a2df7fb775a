-- What document 02, A11, says of a header that is no mirror: where it is broadcast, which field it is answered by; and that all others are answered as before.
use mathlib.Core.Bool.{true, false}
use mathlib.Core.List.{List}
use mathlib.Core.Path.{◌≡◌, refl}
use Prim.Native.Nat.{ℕ}
use Rattle.std.specs.Prelude.{None, Option, Some}
use Rattle.laws.specs.When.{when}
use Rattle.asdu.specs.declared.Header.{Header}
use Rattle.asdu.specs.declared.Unspecified.{Unspecified}
use Rattle.asdu.specs.declared.Unspecified.TheVariants.{TypeIdentification, Cause, CommonAddress, InformationObjectAddress}
use Rattle.ft.specs.Admission.{unspecified, is_broadcast, is_first, admit_received, admit_known}
use Rattle.ft.specs.declared.FileTransferProcedure.{FileTransferProcedure}
use Rattle.ft.specs.declared.Received.{Received}

module _ (p : FileTransferProcedure) (h : Header) (received : Received) (beside : List ℕ) where
  -- an unknown type or cause is named, broadcast or not
  pub type_named : admit_known p h (Some TypeIdentification) received beside ≡ unspecified p.role TypeIdentification
  unfolding admit_known when
  type_named = refl

  pub cause_named : admit_known p h (Some Cause) received beside ≡ unspecified p.role Cause
  unfolding admit_known when
  cause_named = refl

  -- any other broadcast header is answered by its common address
  pub broadcast_named : is_broadcast p.sizes h ≡ true → (unknown : Option Unspecified)
      → is_first unknown TypeIdentification ≡ false → is_first unknown Cause ≡ false
      → admit_known p h unknown received beside ≡ unspecified p.role CommonAddress
  unfolding admit_known when
  broadcast_named all unknown type cause = simp (all, type, cause)

  -- not broadcast: an unknown field is answered by its own cause, and where there is none steps 5 to 7 answer
  pub field_named : is_broadcast p.sizes h ≡ false → (which : Unspecified)
      → admit_known p h (Some which) received beside ≡ unspecified p.role which
  unfolding admit_known when
  field_named one TypeIdentification = refl
  field_named one Cause = refl
  field_named one CommonAddress = simp one
  field_named one InformationObjectAddress = simp one

  pub known_admitted : is_broadcast p.sizes h ≡ false → admit_known p h None received beside ≡ admit_received p h received beside
  unfolding admit_known when
  known_admitted one = simp one
