-- The run's radio record stands for the sendings to come of the exchange's radio.
use Prim.Native.Nat.{ℕ, zero, suc, ◌+◌, ◌-◌, ◌≤◌, ◌<◌}
use mathlib.Core.Path.{◌≡◌, refl}
use mathlib.Core.Bool.{Bool, true, false}
use mathlib.Core.List.{List, [], ◌∷◌, ◌++◌, map}
use native.Mathlib.Omega.{arith}
use native.Mathlib.Numerals.{add-one}
use lib.Dec.{ltb}
use lib.ListN.{replicate}
use borrow.Author.Tests.{lt-ltb}
use Rattle.laws.specs.When.{when}
use Rattle.asdu.specs.declared.Nos.{Nos}
use Rattle.frame.specs.declared.Frame.{Frame}
use Rattle.provide.specs.Replies.{bare, segment_packet}
use Rattle.provide.specs.declared.Provider.{Provider}
use Rattle.exchange.specs.Exchange.{Noise, next_sending, sendings_left, flown}
use Rattle.exchange.specs.Transfer.{in_order}
use Rattle.exchange.specs.Damaging.{hurt, unhurt, namings, script_radio}
use Rattle.radio.specs.Radio.{first_section, next_section, after_sending}
use Rattle.radio.specs.declared.Radio.{Radio}
use Rattle.radio.proofs.Told.{told, flown_none, flown_unhurt, flown_hurt}

one_less : (n : ℕ) → suc n - 1 ≡ n
one_less n = omega arith

-- no section past the last is named
abbrev pub Unnamed : List ℕ → ℕ → Type 0
Unnamed damage count = (d : ℕ) → count < d → namings d damage ≡ 0

module _ (damage : List ℕ) (count : ℕ) where
  pub data Tuned (r : Radio) (radio : List Noise) : Type 0 where
    -- so many damaged ones of this section, an intact one, and k more sections
    ahead : (k : ℕ) → r.section + k ≡ count → radio ≡ replicate r.left hurt ++ (unhurt ∷ in_order (script_radio damage (suc r.section) k)) → Tuned r radio
    -- all sections were sent
    beyond : radio ≡ [] → r.left ≡ 0 → count ≤ r.section → Tuned r radio

  pub tuned_first : (k : ℕ) → count ≡ suc k → Tuned (first_section damage) (in_order (script_radio damage 1 count))
  tuned_first k e = ahead k (omega arith) (rw e)

  -- ---- one more sending

  module _ (few : count ≤ 255) (unnamed : Unnamed damage count) where
    -- past the last section
    past : (c : ℕ) → count ≤ c → Tuned (next_section damage (record { section = c; left = 0 })) []
    unfolding next_section when
    past c h = by_test (ltb c 255)
      where
        by_test : (b : Bool) → Tuned (when b (record { section = c + 1; left = namings (c + 1) damage }) (record { section = c; left = 0 })) []
        by_test true = beyond refl (unnamed (c + 1) (omega arith)) (omega arith)
        by_test false = beyond refl refl h

    intact_next : (c k : ℕ) → c + k ≡ count → Tuned (next_section damage (record { section = c; left = 0 })) (in_order (script_radio damage (suc c) k))
    unfolding next_section when
    intact_next c zero e = past c (omega arith)
    intact_next c (suc k) e = rw (lt-ltb c 255 (omega arith), add-one c) (ahead k (omega arith) refl)

    pub tuned_next : (r : Radio) (radio : List Noise) → Tuned r radio → Tuned (after_sending damage r) (sendings_left true radio)
    unfolding after_sending when
    tuned_next r radio t = by_left r.section r.left radio t
      where
        by_left : (c n : ℕ) (radio' : List Noise) → Tuned (record { section = c; left = n }) radio' → Tuned (after_sending damage (record { section = c; left = n })) (sendings_left true radio')
        by_left c zero radio' (ahead k e is) = rw is (intact_next c k e)
        by_left c (suc n) radio' (ahead k e is) = rw (is, lt-ltb 0 (suc n) (omega arith), one_less n) (ahead k e refl)
        by_left c zero radio' (beyond none empty last) = rw none (past c last)
        by_left c (suc n) radio' (beyond none empty last) = absurd (omega arith)

  -- the sending that begins is damaged where the record says so
  pub tuned_sent : (p : Provider) (nos : Nos) (c : Frame) (os : List (List ℕ)) (r : Radio) (radio : List Noise) → Tuned r radio
      → flown (next_sending true radio os) (map (segment_packet p nos) os ++ (bare c ∷ [])) ≡ told (ltb 0 r.left) (map (segment_packet p nos) os ++ (bare c ∷ []))
  tuned_sent p nos c os r radio t = by_left r.left t
    where
      by_left : (n : ℕ) → Tuned (record { section = r.section; left = n }) radio
          → flown (next_sending true radio os) (map (segment_packet p nos) os ++ (bare c ∷ [])) ≡ told (ltb 0 n) (map (segment_packet p nos) os ++ (bare c ∷ []))
      by_left zero (ahead k e is) = rw is (flown_unhurt p nos c os)
      by_left (suc n) (ahead k e is) = rw (is, lt-ltb 0 (suc n) (omega arith)) (flown_hurt p nos c os)
      by_left zero (beyond none empty last) = rw none (flown_none (map (segment_packet p nos) os ++ (bare c ∷ [])))
      by_left (suc n) (beyond none empty last) = absurd (omega arith)
