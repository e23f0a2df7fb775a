-- The run is the exchange: frame by frame over the record, it ends as the exchange does after as many steps as the budget.
use Prim.Native.Nat.{ℕ, zero, suc, ◌+◌, ◌≤◌}
use mathlib.Core.Path.{◌≡◌, refl, sym, ap, ◌∙◌, subst}
use mathlib.Core.Bool.{Bool, true, false}
use mathlib.Core.List.{List, [], ◌∷◌, ◌++◌}
use native.Mathlib.Omega.{arith}
use lib.Dec.{leb}
use lib.ListN.{length, length-append}
use borrow.Author.Tests.{le-leb}
use Rattle.std.specs.Prelude.{Err, Ok, Result}
use Rattle.laws.specs.When.{when}
use Rattle.asdu.specs.Sizes.{sizes_right}
use Rattle.asdu.specs.declared.FtError.TheVariants as E
use Rattle.ft.specs.Directions.{other_role}
use Rattle.ft.specs.Procedure.{addressed}
use Rattle.ft.specs.Building.{built}
use Rattle.sections.specs.Sections.{section_length, section_count}
use Rattle.provide.specs.Record.{fresh_provider, provider_made}
use Rattle.requests.specs.declared.ProviderAnswer.{ProviderAnswer}
use Rattle.provide.specs.declared.Provider.{Provider}
use Rattle.provide.proofs.Making.{made, made_agrees}
use Rattle.sections.proofs.SectionLaws.{some_section, few_sections}
use Rattle.receive.specs.Record.{fresh_receiver, receiver_made, store_agrees, awaiting, opening, select, stepped, started_with, started}
use Rattle.receive.proofs.Making as R
use Rattle.receive.specs.declared.Receiver.{Receiver}
use Rattle.receive.specs.declared.ReceiverAnswer.{ReceiverAnswer}
use Rattle.receive.specs.declared.ReceiverAnswer.TheVariants as Ra
use Rattle.exchange.specs.Exchange.{Passing, Noise, Exchange, run, own_headers}
use Rattle.exchange.specs.Transfer.{in_order}
use Rattle.exchange.specs.Damaging.{script_radio}
use Rattle.exchange.proofs.Budget.{stays}
use Rattle.twoparty.specs.Party.{station_of, started_party, advanced}
use Rattle.twoparty.specs.Shown.{first_of}
use Rattle.twoparty.proofs.Standing.{next_shown}
use Rattle.run.specs.Loop.{is_over, used_up, ran_on}
use Rattle.radio.specs.Radio.{first_section, all_have_octets}
use Rattle.run.specs.Run.{exchange_of, ending}
use Rattle.twoparty.specs.declared.Settings.{Settings}
use Rattle.twoparty.specs.declared.TwoParty.{TwoParty}
use Rattle.radio.proofs.Tuning.{Unnamed, Tuned, tuned_first}
use Rattle.run.proofs.Following.{stands_for, Fits, Sight, over, going, sight, start_stands}
use Rattle.radio.proofs.Named.{unnamed}
use Rattle.asdu.specs.declared.FtError.{FtError}
use Rattle.ft.specs.declared.Asdu.{Asdu}

module _ (file damage : List ℕ) (ca count : ℕ) (few : count ≤ 255) (none : Unnamed damage count) where
  -- with this budget the record ends as its exchange
  unfoldable pub Ends : ℕ → Type 0
  Ends budget =
      (t : TwoParty) (store : List ℕ) (radio : List Noise) (ps : List Passing) (u : ProviderAnswer) (v : ReceiverAnswer)
      → Tuned damage count t.radio radio → Fits file damage ca count t store
      → ran_on budget (length ps) t file damage store ≡ ending (run file (own_headers ca) budget (stands_for file damage ca count t store radio ps u v))

  spends : Ends zero
  unfolding Ends used_up is_over when
  spends t store radio ps u v tuned fits = by_sight (sight file damage ca count few none t store radio ps u v tuned fits)
    where
      by_sight : Sight file damage ca count t store radio ps u v → ran_on zero (length ps) t file damage store ≡ ending (stands_for file damage ca count t store radio ps u v)
      by_sight (over empty) = rw (next_shown t file fits.agrees, empty)
      by_sight (going x rest more next) = rw (next_shown t file fits.agrees, more)

  goes_on : (budget : ℕ) → Ends budget → Ends (suc budget)
  unfolding Ends used_up is_over when
  goes_on budget later t store radio ps u v tuned fits = by_sight (sight file damage ca count few none t store radio ps u v tuned fits)
    where
      by_sight : Sight file damage ca count t store radio ps u v
          → ran_on (suc budget) (length ps) t file damage store ≡ ending (run file (own_headers ca) (suc budget) (stands_for file damage ca count t store radio ps u v))
      by_sight (over empty) = rw (next_shown t file fits.agrees, stays file (own_headers ca) (suc budget) (stands_for file damage ca count t store radio ps u v) empty, empty)
      by_sight (going x rest more next) =
          let one : length (ps ++ (x ∷ [])) ≡ length ps + 1 = length-append ps (x ∷ []) in
          rw (next_shown t file fits.agrees ∙ ap first_of more)
          (ap (λ (n : ℕ). ran_on budget n (advanced t file damage store).party file damage (advanced t file damage store).store) (sym one)
          ∙ later (advanced t file damage store).party (advanced t file damage store).store next.radio' (ps ++ (x ∷ [])) next.u' next.v' next.tuned next.fits
          ∙ ap (λ (e : Exchange). ending (run file (own_headers ca) budget e)) (sym next.does))

  pub ran_is : (budget : ℕ) → Ends budget
  ran_is zero = spends
  ran_is (suc budget) = goes_on budget (ran_is budget)

-- ---- from the start

-- a start leaves all of the record as it is but what was sent
module _ {B : Type 0} (g : Receiver → B) (r : Receiver) (same : g (awaiting r opening) ≡ g r) where
  started_with_same : (a : Result Asdu FtError) → g (started_with r a).receiver ≡ g r
  started_with_same (Ok a) = same
  started_with_same (Err e) = refl

  start_same : (store : List ℕ) → g (started r store).receiver ≡ g r
  unfolding started when
  start_same store = by_test (store_agrees r store)
    where
      by_test : (b : Bool) → g (when b (started_with r (built r.procedure (select r) [])) (stepped r (Ra.Err E.RecordMismatch))).receiver ≡ g r
      by_test true = started_with_same (built r.procedure (select r) [])
      by_test false = refl

start_agrees : (r : Receiver) (store : List ℕ) → store_agrees r store ≡ true → store_agrees (started r store).receiver store ≡ true
unfolding store_agrees
start_agrees r store e = start_same (λ (z : Receiver). store_agrees z store) r refl store ∙ e

module _ (s : Settings) (file damage store : List ℕ) where
  -- what the tests before any frame accept
  pub record Accepted : Type 0 where
    pub widths : sizes_right s.sizes ≡ true
    pub addresses : addressed s.sizes s.common_address 0 s.ioa ≡ true
    pub short : leb (length file) 0xFFFFFF ≡ true
    pub named : all_have_octets (section_length (length file)) file damage ≡ true
    pub room : leb (length file) (length store) ≡ true

  abbrev pub providing : Provider
  providing = fresh_provider (station_of s s.role) s.ioa s.nof (length file)

  abbrev pub receiving : Receiver
  receiving = fresh_receiver (station_of s (other_role s.role)) s.ioa s.nof

  -- the record before any frame
  abbrev pub beginning : TwoParty
  beginning = started_party providing damage (started receiving store)

  module _ (a : Accepted) where
    pub provider_is_made : provider_made (station_of s s.role) s.ioa s.nof (length file) ≡ Ok providing
    unfolding provider_made when
    provider_is_made = simp (a.widths, a.addresses, a.short)

    pub receiver_is_made : receiver_made (station_of s (other_role s.role)) s.ioa s.nof ≡ Ok receiving
    unfolding receiver_made when
    receiver_is_made = simp (a.widths, a.addresses)

    receiver_agrees : store_agrees receiving store ≡ true
    unfolding store_agrees when
    receiver_agrees =
        let m = R.made (station_of s (other_role s.role)) s.ioa s.nof receiving receiver_is_made in
        simp (m.settings, m.object, le-leb 0 (length store) (omega arith))

    begins_fit : Fits file damage s.common_address (section_count (length file)) beginning store
    begins_fit =
        record {
          agrees = made_agrees (station_of s s.role) s.ioa s.nof file providing (made (station_of s s.role) s.ioa s.nof (length file) providing provider_is_made);
          holds = start_agrees receiving store receiver_agrees;
          provider_ca = refl;
          provider_org = refl;
          receiver_ca = start_same (λ (z : Receiver). z.procedure.ca) receiving refl store;
          receiver_org = start_same (λ (z : Receiver). z.procedure.org) receiving refl store;
        }

    first_tuned : (n : ℕ) → section_count (length file) ≡ n → Tuned damage (section_count (length file)) (first_section damage) (in_order (script_radio damage 1 (section_count (length file))))
    first_tuned zero e = absurd (omega (arith, some_section (length file)))
    first_tuned (suc k) e = tuned_first damage (section_count (length file)) k e

    -- what holds after so many frames of the exchange that the record before any frame stands for holds of this one
    pub from_start : (P : Exchange → Type 0) (frames : ℕ)
        → ((radio : List Noise) (u : ProviderAnswer) (v : ReceiverAnswer) → Tuned damage (section_count (length file)) beginning.radio radio
        → Fits file damage s.common_address (section_count (length file)) beginning store
        → P (run file (own_headers s.common_address) frames (stands_for file damage s.common_address (section_count (length file)) beginning store radio [] u v)))
        → P (exchange_of s file damage store frames)
    from_start P frames h =
        let radio : List Noise = in_order (script_radio damage 1 (section_count (length file))) in
        subst (λ (e : Exchange). P (run file (own_headers s.common_address) frames e))
        (sym (start_stands file damage s.common_address (section_count (length file)) providing receiving store radio))
        (h radio _ _ (first_tuned (section_count (length file)) refl) begins_fit)

    -- the run over the record is the exchange
    pub run_is : (budget : ℕ) → ran_on budget 0 beginning file damage store ≡ ending (exchange_of s file damage store budget)
    unfolding Ends
    run_is budget =
        from_start (λ (e : Exchange). ran_on budget 0 beginning file damage store ≡ ending e) budget
        (λ radio. ran_is file damage s.common_address (section_count (length file)) (few_sections (length file)) (unnamed file damage a.named) budget beginning store radio [])
