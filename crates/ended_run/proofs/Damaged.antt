-- Of a script that a run accepts, as many sendings are damaged as its damage list has entries: so its length is the number that the record of a whole run wants.
use Prim.Native.Nat.{ℕ, zero, suc, ◌+◌, ◌≤◌, ◌<◌}
use mathlib.Core.Bool.{true}
use mathlib.Core.Path.{◌≡◌}
use mathlib.Core.List.{List, [], ◌∷◌}
use native.Mathlib.Decide.{dec_lt}
use native.Mathlib.Omega.{arith}
use lib.ListN.{length}
use borrow.Author.Tests.{eq-eqb, ne_eqb, ltb-true}
use Rattle.laws.specs.When.{when}
use Rattle.asdu.proofs.Range.{both}
use Rattle.sections.specs.Sections.{section_length, section_count, section_octets}
use Rattle.sections.proofs.SectionLaws.{section_zero, section_past}
use Rattle.exchange.specs.Transfer.{damaged_sendings}
use Rattle.exchange.specs.Damaging.{script_radio}
use Rattle.radio.specs.Radio.{has_octets, all_have_octets}
use Rattle.run.proofs.Longest.{names, names_none, damaged_more, damaged_none}

-- an entry names one of k sections from number `nos` on, where it is among them
names_some : (d nos k : ℕ) → nos ≤ d → d < nos + k → names d nos k ≡ 1
unfolding when
names_some d nos zero h g = absurd (omega arith)
names_some d nos (suc k) h g = by_test (dec_lt nos d) (λ lt. names_some d (suc nos) k (omega arith) (omega arith))
  where
    by_test : Dec (nos < d) → (nos < d → names d (suc nos) k ≡ 1) → names d nos (suc k) ≡ 1
    by_test (yes lt) later = simp (ne_eqb d nos (λ e. omega arith), later lt)
    by_test (no ge) later =
        let e : d ≡ nos = omega arith in
        simp (eq-eqb d nos e, names_none d (suc nos) k (omega arith))

module _ (file : List ℕ) where
  abbrev size : ℕ
  size = section_length (length file)

  -- a section with octets is one of the file's
  first_or_later : (d : ℕ) → 0 < length (section_octets size file d) → 1 ≤ d
  first_or_later d h = by_test (dec_lt 0 d)
    where
      by_test : Dec (0 < d) → 1 ≤ d
      by_test (yes some) = omega arith
      by_test (no none) =
          let e : d ≡ 0 = omega arith in
          let empty : length (section_octets size file d) ≡ 0 = rw (e, section_zero) in
          absurd (omega arith)

  last_or_earlier : (d : ℕ) → 0 < length (section_octets size file d) → d ≤ section_count (length file)
  last_or_earlier d h = by_test (dec_lt (section_count (length file)) d)
    where
      by_test : Dec (section_count (length file) < d) → d ≤ section_count (length file)
      by_test (yes past) =
          let empty : length (section_octets size file d) ≡ 0 = rw (section_past file d past) in
          absurd (omega arith)
      by_test (no past) = omega arith

  has_octets_lem : (d : ℕ) → has_octets size file d ≡ true → 0 < length (section_octets size file d)
  unfolding has_octets
  has_octets_lem d h = ltb-true 0 (length (section_octets size file d)) h

  pub script_damaged : (damage : List ℕ) → all_have_octets size file damage ≡ true → damaged_sendings (script_radio damage 1 (section_count (length file))) ≡ length damage
  script_damaged [] h = damaged_none 1 (section_count (length file))
  script_damaged (d ∷ ds) h =
      let o = both (has_octets size file d) (all_have_octets size file ds) h in
      let some = has_octets_lem d o.0 in
      let last = last_or_earlier d some in
      let one = names_some d 1 (section_count (length file)) (first_or_later d some) (omega arith) in
      omega (arith, damaged_more d ds 1 (section_count (length file)), script_damaged ds o.1)
