-- The frames that a transfer shows are those that pass in its exchange.
use Prim.Native.Nat.{ℕ, zero, suc, ◌≤◌}
use mathlib.Core.Path.{◌≡◌, refl, sym, ap, ◌∙◌}
use mathlib.Core.List.{List, [], ◌∷◌, ◌++◌, map, append-nil}
use lib.ListN.{length, length-map}
use Rattle.std.specs.Prelude.{Ok}
use Rattle.laws.specs.When.{when}
use Rattle.sections.specs.Sections.{section_count}
use Rattle.requests.specs.declared.ProviderAnswer.{ProviderAnswer}
use Rattle.sections.proofs.SectionLaws.{few_sections}
use Rattle.receive.specs.declared.ReceiverAnswer.{ReceiverAnswer}
use Rattle.exchange.specs.Exchange.{Passing, Noise, Exchange, run, own_headers}
use Rattle.exchange.proofs.Budget.{stays, whole_frames}
use Rattle.radio.proofs.Tuning.{Unnamed, Tuned}
use Rattle.radio.proofs.Named.{unnamed}
use Rattle.twoparty.specs.Party.{party_made, advanced, went, party_stepped}
use Rattle.twoparty.specs.Shown.{shown_as, first_of}
use Rattle.twoparty.specs.declared.Settings.{Settings}
use Rattle.twoparty.specs.declared.TwoParty.{TwoParty}
use Rattle.twoparty.proofs.Standing.{next_shown}
use Rattle.run.specs.Run.{exchange_of, script_frames}
use Rattle.run.specs.Shown.{shown}
use Rattle.run.proofs.Following.{stands_for, Fits, Sight, over, going, sight}
use Rattle.run.proofs.Running.{Accepted, beginning, from_start}
use Rattle.run.proofs.Endings.{made_accepted, transfer}

-- the last of a list stands before what follows the list
map_more : {A B : Type 0} (f : A → B) (xs : List A) (x : A) (later : List B) → map f (xs ++ (x ∷ [])) ++ later ≡ map f xs ++ (f x ∷ later)
map_more f [] x later = refl
map_more f (y ∷ xs) x later = ap (λ r. f y ∷ r) (map_more f xs x later)

module _ (file damage : List ℕ) (ca count : ℕ) (few : count ≤ 255) (none : Unnamed damage count) where
  -- no step of a record that fits is refused
  step_goes : (t : TwoParty) (store : List ℕ) → Fits file damage ca count t store → party_stepped t file damage store ≡ went (advanced t file damage store)
  unfolding party_stepped when
  step_goes t store fits = simp (fits.agrees, fits.holds)

  -- with those that have passed before, the frames shown are those passed of its exchange
  unfoldable Shows : ℕ → Type 0
  Shows frames =
      (t : TwoParty) (store : List ℕ) (radio : List Noise) (ps : List Passing) (u : ProviderAnswer) (v : ReceiverAnswer)
      → Tuned damage count t.radio radio → Fits file damage ca count t store
      → map shown_as ps ++ shown file damage frames t store ≡ map shown_as (run file (own_headers ca) frames (stands_for file damage ca count t store radio ps u v)).passed

  shows_none : Shows zero
  unfolding Shows
  shows_none t store radio ps u v tuned fits = append-nil (map shown_as ps)

  shows_more : (frames : ℕ) → Shows frames → Shows (suc frames)
  unfolding Shows
  shows_more frames later t store radio ps u v tuned fits = by_sight (sight file damage ca count few none t store radio ps u v tuned fits)
    where
      by_sight : Sight file damage ca count t store radio ps u v
          → map shown_as ps ++ shown file damage (suc frames) t store
          ≡ map shown_as (run file (own_headers ca) (suc frames) (stands_for file damage ca count t store radio ps u v)).passed
      by_sight (over empty) =
          rw (next_shown t file fits.agrees ∙ ap first_of empty, stays file (own_headers ca) (suc frames) (stands_for file damage ca count t store radio ps u v) empty)
          (append-nil (map shown_as ps))
      by_sight (going x rest more next) =
          rw (next_shown t file fits.agrees ∙ ap first_of more, step_goes t store fits)
          (sym (map_more shown_as ps x _)
          ∙ later (advanced t file damage store).party (advanced t file damage store).store next.radio' (ps ++ (x ∷ [])) next.u' next.v' next.tuned next.fits
          ∙ ap (λ (e : Exchange). map shown_as (run file (own_headers ca) frames e).passed) (sym next.does))

  shows : (frames : ℕ) → Shows frames
  shows zero = shows_none
  shows (suc frames) = shows_more frames (shows frames)

module _ (s : Settings) (file damage store : List ℕ) where
  accepted_shown : Accepted s file damage store → (frames : ℕ) → shown file damage frames (beginning s file damage store) store ≡ map shown_as (exchange_of s file damage store frames).passed
  unfolding Shows
  accepted_shown a frames =
      from_start s file damage store a (λ (e : Exchange). shown file damage frames (beginning s file damage store) store ≡ map shown_as e.passed) frames
      (λ radio. shows file damage s.common_address (section_count (length file)) (few_sections (length file)) (unnamed file damage a.named) frames (beginning s file damage store) store radio [])

  -- a transfer that was made shows sender and frame of each frame that passes in as many steps of the exchange, in order, and nothing else: no step is refused
  pub frames_shown : (t : TwoParty) → party_made s file damage store ≡ Ok t → (frames : ℕ)
      → shown file damage frames t store ≡ map shown_as (exchange_of s file damage store frames).passed
  frames_shown t made frames =
      let m = made_accepted s file damage store t made in
      rw (sym m.1) (accepted_shown m.0 frames)

  -- with as many steps as the script takes frames, or more, it shows exactly so many: then nothing
  pub all_shown : (t : TwoParty) → party_made s file damage store ≡ Ok t → (frames : ℕ) → script_frames s file damage ≤ frames
      → length (shown file damage frames t store) ≡ script_frames s file damage
  unfolding script_frames transfer
  all_shown t made frames h =
      let a = (made_accepted s file damage store t made).0 in
      rw (frames_shown t made frames, length-map) (whole_frames (transfer s file damage store a) frames h)
