-- The mirror of IEC 60870-5-101, 7.2.3: an ASDU with an unknown field comes back negative, with a cause that names the field.
use Rattle.std.specs.Prelude.{Bool, leb}
use Rattle.laws.specs.When.{◌and◌}
use Rattle.asdu.specs.declared.Cause.{Cause}
use Rattle.asdu.specs.declared.Header.{Header}
use Rattle.asdu.specs.declared.Unspecified.{Unspecified}
use Rattle.asdu.specs.declared.Unspecified.TheVariants as U

-- 44 to 47, in the order of the header's fields
abbrev pub unspecified_cause : Unspecified → Cause
unspecified_cause U.TypeIdentification = record { value = 44 }
unspecified_cause U.Cause = record { value = 45 }
unspecified_cause U.CommonAddress = record { value = 46 }
unspecified_cause U.InformationObjectAddress = record { value = 47 }

-- negative, and its cause one of the four unknowns
unfoldable pub is_mirror : Header → Bool
is_mirror h = h.negative and leb 44 h.cause.value and leb h.cause.value 47
