-- Where the type does not answer, the code does not look at the address, and the definition does, before a choice that is false either way: the address does not matter.
use mathlib.Core.Path.{◌≡◌, refl}
use mathlib.Core.Bool.{Bool, false}
use Rattle.laws.specs.When.{when}
use Rattle.laws.proofs.Choices.{either}

pub no_match : (b : Bool) → when b false false ≡ false
no_match b = either (λ r. r ≡ false) b false false refl refl
