-- A script's damage is damage in the theorem's sense, so that every script's transfer is whole.
use Prim.Native.Nat.{ℕ, zero, suc, ◌+◌, ◌%◌, ◌<◌}
use mathlib.Core.Path.{◌≡◌, refl, ap, ◌∙◌}
use mathlib.Core.Logic.{◌≢◌}
use mathlib.Core.List.{List, [], ◌∷◌, ◌++◌}
use native.Mathlib.Omega.{arith}
use lib.ListN.{length, replicate}
use Rattle.lists.specs.Parts.{joined}
use Rattle.lists.proofs.Parts.{Fit, length-parts, joined_all, fit_all}
use Rattle.checksum.specs.Checksum.{octet_sum, sum_after, checksum}
use Rattle.sections.specs.Sections.{section_length, section_count, sections, segments}
use Rattle.exchange.specs.Transfer.{FatesOf, arrived, AllDamaged, Damaged, DamagedThenIntact}
use Rattle.exchange.specs.Damaging.{raised, unhurt, hurt, namings, script_radio, Nameable}

sending_unhurt : (os : List (List ℕ)) → FatesOf os (unhurt os)
sending_unhurt [] = tt
sending_unhurt (o ∷ os) = (refl, sending_unhurt os)

arrived_unhurt : (os : List (List ℕ)) → arrived (unhurt os) ≡ joined os
arrived_unhurt [] = refl
arrived_unhurt (o ∷ os) = ap (λ (r : List ℕ). o ++ r) (arrived_unhurt os)

length-raised : (o : List ℕ) → length (raised o) ≡ length o
length-raised [] = refl
length-raised (x ∷ o) = refl

sending_hurt : (os : List (List ℕ)) → FatesOf os (hurt os)
sending_hurt [] = tt
sending_hurt (o ∷ os) = (length-raised o, sending_unhurt os)

-- one octet raised changes the sum
sum_differs : (s x t : ℕ) → (s + ((x + 1) % 256 + t)) % 256 ≢ (s + (x + t)) % 256
sum_differs s x t e = omega arith

hurt_differs : (limit : ℕ) (os : List (List ℕ)) → Fit limit os → 0 < length (joined os) → checksum (arrived (hurt os)) ≢ checksum (joined os)
unfolding sum_after octet_sum
hurt_differs limit [] fit some = absurd (omega arith)
hurt_differs limit ([] ∷ os) fit some = absurd (omega (arith, fit.0))
hurt_differs limit ((x ∷ o) ∷ os) fit some = rw (arrived_unhurt os) (sum_differs 0 x (octet_sum (o ++ joined os)))

module _ (limit : ℕ) (pos : 0 < limit) where
  -- a raised first octet is a damaged sending
  pub hurt_damages : (o : List ℕ) → 0 < length o → Damaged limit o hurt
  unfolding segments
  hurt_damages o some = (
    sending_hurt (segments limit o),
    rw (joined_all limit pos o) at (hurt_differs limit (segments limit o) (fit_all limit pos o) (rw (joined_all limit pos o) some)),
  )

  all_damaged : (o : List ℕ) (n : ℕ) → (0 < n → 0 < length o) → AllDamaged limit o (replicate n hurt)
  all_damaged o zero some = tt
  all_damaged o (suc n) some = (hurt_damages o (some (omega arith)), all_damaged o n (λ h. some (omega arith)))

  arrived_whole : (o : List ℕ) → arrived (unhurt (segments limit o)) ≡ o
  unfolding segments
  arrived_whole o = arrived_unhurt (segments limit o) ∙ joined_all limit pos o

  -- the radio of a script is one that the theorem speaks of
  pub script_radio_lem : (damage : List ℕ) (nos : ℕ) (os : List (List ℕ)) → Nameable damage nos os → DamagedThenIntact limit os (script_radio damage nos (length os))
  script_radio_lem damage nos [] named = tt
  script_radio_lem damage nos (o ∷ os) named =
      (all_damaged o (namings nos damage) named.0, (sending_unhurt (segments limit o), arrived_whole o), script_radio_lem damage (suc nos) os named.1)

  pub script_sendings : (damage file : List ℕ) → Nameable damage 1 (sections file) → DamagedThenIntact limit (sections file) (script_radio damage 1 (section_count (length file)))
  unfolding sections
  script_sendings damage file named = rw (length-parts (section_count (length file)) (section_length (length file)) file) at (script_radio_lem damage 1 (sections file) named)
