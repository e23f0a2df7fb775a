-- The longest script takes 5,149 frames, so none reaches the transfer program's budget of 65,535.
use Prim.Native.Nat.{ℕ, zero, suc, ◌+◌, ◌-◌, ◌*◌, ◌≤◌, ◌<◌}
use mathlib.Core.Path.{◌≡◌, refl, ap}
use mathlib.Core.Bool.{Bool, true, false}
use mathlib.Core.List.{List, [], ◌∷◌}
use native.Mathlib.Omega.{arith}
use lib.Dec.{eqb}
use lib.ListN.{length, take, drop, length-take, length-replicate}
use borrow.Author.Tests.{eqb-true, ne_eqb}
use Rattle.laws.specs.When.{when}
use Rattle.lists.specs.Parts.{div_ceil, parts}
use Rattle.ft.specs.Procedure.{conventional}
use Rattle.sections.specs.Sections.{section_length, section_count, sections}
use Rattle.exchange.specs.Transfer.{sending_frames, damaged_sendings}
use Rattle.exchange.specs.Damaging.{namings, script_radio}
use Rattle.exchange.proofs.Script.{limit_is}
use Rattle.run.specs.Run.{script_frames}
use Rattle.twoparty.specs.declared.Settings.{Settings}

-- ---- no more sendings are damaged than the list has entries

-- how many of k sections, from number `nos` on, one entry names
abbrev pub names : ℕ → ℕ → ℕ → ℕ
names d nos zero = 0
names d nos (suc k) = when (eqb d nos) 1 0 + names d (suc nos) k

pub names_none : (d nos k : ℕ) → d < nos → names d nos k ≡ 0
unfolding when
names_none d nos zero h = refl
names_none d nos (suc k) h = simp (ne_eqb d nos (λ e. omega arith), names_none d (suc nos) k (omega arith))

names_one : (d nos k : ℕ) → names d nos k ≤ 1
unfolding when
names_one d nos zero = omega arith
names_one d nos (suc k) = by_test (eqb d nos) refl (names_one d (suc nos) k)
  where
    by_test : (b : Bool) → eqb d nos ≡ b → names d (suc nos) k ≤ 1 → when b 1 0 + names d (suc nos) k ≤ 1
    by_test true e h = omega (arith, names_none d (suc nos) k (omega (arith, eqb-true d nos e)))
    by_test false e h = omega arith

-- an entry more names at most one section more
pub damaged_more : (d : ℕ) (ds : List ℕ) (nos k : ℕ) → damaged_sendings (script_radio (d ∷ ds) nos k) ≡ names d nos k + damaged_sendings (script_radio ds nos k)
damaged_more d ds nos zero = refl
damaged_more d ds nos (suc k) =
    simp length-replicate (omega (arith, damaged_more d ds (suc nos) k))

pub damaged_none : (nos k : ℕ) → damaged_sendings (script_radio [] nos k) ≡ 0
damaged_none nos zero = refl
damaged_none nos (suc k) = omega (arith, damaged_none (suc nos) k)

damaged_most : (damage : List ℕ) (nos k : ℕ) → damaged_sendings (script_radio damage nos k) ≤ length damage
damaged_most [] nos k = omega (arith, damaged_none nos k)
damaged_most (d ∷ ds) nos k = omega (arith, damaged_more d ds nos k, names_one d nos k, damaged_most ds nos k)

-- ---- the frames of a sending: at most 18 segments and a close

-- a section of at most 4,096 octets has at most 18 segments
segments_most : (n : ℕ) → n ≤ 4096 → div_ceil n 236 ≤ 18
unfolding div_ceil
segments_most n h = omega arith

times : (m g : ℕ) → g ≤ 18 → (1 + m) * (g + 1) ≤ 19 + 19 * m
times m g h =
    let rest : 19 ≡ (g + 1) + (18 - g) = omega arith in
    omega (arith, ap (λ (z : ℕ). (1 + m) * z) rest)

frames_most : (damage : List ℕ) (k nos : ℕ) (rem : List ℕ)
    → sending_frames 236 (parts k 4096 rem) (script_radio damage nos k) ≤ 19 * (k + damaged_sendings (script_radio damage nos k))
frames_most damage zero nos rem = omega arith
frames_most damage (suc k) nos rem =
    let few : div_ceil (length (take 4096 rem)) 236 ≤ 18 = segments_most _ (simp length-take (omega arith)) in
    simp length-replicate (omega (arith, times (namings nos damage) (div_ceil (length (take 4096 rem)) 236) few, frames_most damage k (suc nos) (drop 4096 rem)))

-- ---- the whole script

sized : (n : ℕ) → n ≤ 8192 → section_length n ≡ 4096
unfolding section_length div_ceil
sized n h = omega arith

two_sections : (n : ℕ) → n ≤ 8192 → section_count n ≤ 2
unfolding section_count div_ceil
two_sections n h = rw (sized n h) (omega arith)

pub longest : (s : Settings) (file damage : List ℕ) → s.sizes ≡ conventional → length file ≤ 8192 → length damage ≤ 255 → script_frames s file damage ≤ 5149
unfolding script_frames sections
longest s file damage widths short few =
    rw (widths, limit_is, sized (length file) short)
    (omega (
      arith,
      two_sections (length file) short,
      frames_most damage (section_count (length file)) 1 file,
      damaged_most damage 1 (section_count (length file)),
    ))
