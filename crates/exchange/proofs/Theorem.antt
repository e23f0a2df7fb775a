-- Demand 3, entire: the two-party result.
use Prim.Native.Nat.{ℕ, zero, suc, ◌+◌, ◌*◌, ◌<◌}
use mathlib.Core.Path.{◌≡◌, refl, subst}
use mathlib.Core.Bool.{true, false}
use mathlib.Core.List.{[], ◌∷◌}
use native.Mathlib.Omega.{arith}
use native.Mathlib.Nat.{zero-mul}
use lib.ListN.{length}
use borrow.Author.Tests.{le-leb, eq-eqb}
use Rattle.std.specs.Prelude.{None, Some}
use Rattle.laws.specs.When.{when}
use Rattle.lists.specs.Parts.{parts}
use Rattle.asdu.specs.declared.Nos.{Nos}
use Rattle.asdu.specs.declared.Lof.{Lof}
use Rattle.frame.specs.declared.Frame.TheVariants as F
use Rattle.frame.specs.Answers.{answers_to, names_agree, called_section, sc_answered, file_answered}
use Rattle.sections.specs.Sections.{sections}
use Rattle.provide.specs.Replies.{file_ready}
use Rattle.requests.specs.declared.Reply.TheVariants.{Nothing, FileReady, SectionReady}
use Rattle.requests.specs.declared.ProviderAnswer.TheVariants as PA
use Rattle.provide.proofs.Building.{wide}
use Rattle.provide.proofs.Facts.{selects_file, requests_file}
use Rattle.sections.proofs.SectionLaws.{some_section}
use Rattle.receive.specs.Record.{awaited}
use Rattle.receive.specs.Answers.{on_file_ready, to_send}
use Rattle.receive.specs.declared.Sent.TheVariants as S
use Rattle.receive.specs.declared.ReceiverAnswer.TheVariants as Ra
use Rattle.exchange.specs.Exchange.{Exchange, begun}
use Rattle.exchange.specs.Transfer.{Transfer, Transferred, TwoPartyTransfer, DamagedThenIntact, in_order, sending_frames, damaged_sendings, provider_frames, receiver_frames, exchanged}
use Rattle.exchange.proofs.Hearing.{P, R, short, settings, provider_fresh, receiver_fresh, starts}
use Rattle.exchange.proofs.Asking.{asks_none}
use Rattle.exchange.proofs.Steps.{Ends, Ex, sc, asking, ask, asked_sc, takes}
use Rattle.exchange.proofs.Sendings.{limit}
use Rattle.exchange.proofs.Sections.{Awaits, size, count, number, Pass, sections_pass}

module _ (m : Transfer) where
  fits : 0 < limit m
  fits = wide m.provider_station (settings m)

  abbrev none : Nos
  none = record { value = 0 }

  offers : (x : Lof) → answers_to (asking m (sc m 1 none)) (F.FileReady m.object m.name x (record { value = 0; negative_confirm = false })) ≡ true
  unfolding answers_to names_agree called_section sc_answered when
  offers x = simp (eq-eqb m.object m.object refl, eq-eqb m.name.value m.name.value refl)

  awaits_first : Awaits m (sc m 2 none) (number m 0)
  unfolding answers_to names_agree called_section sc_answered file_answered when
  awaits_first x = simp (eq-eqb m.object m.object refl, eq-eqb m.name.value m.name.value refl)

  -- from the select to the first section
  opens : (c : ℕ) → count m ≡ suc c
      → DamagedThenIntact (limit m) (parts (suc c) (size m) m.file) m.radio
      → 2 + suc c + sending_frames (limit m) (parts (suc c) (size m) m.file) m.radio ≡ provider_frames m
      → 3 + 2 * suc c + damaged_sendings m.radio ≡ receiver_frames m
      → Ends m (Ex m (ask m (sc m 1 none) ∷ []) (sc m 1 none) None [] [] m.store (in_order m.radio) [] (PA.Running Nothing) Ra.Send)
  unfolding on_file_ready Pass to_send awaited when
  opens c e hit na mb =
      asked_sc m 0 (sc m 1 none) None [] [] m.store (in_order m.radio) [] _ _ none 1 FileReady 0 refl (selects_file (P m) none 0) tt (asks_none 0 (asking m (sc m 1 none)) refl)
      (λ t₁ d₁. takes m 0 (sc m 1 none) None [] [] m.store (in_order m.radio) t₁ _ _ (file_ready (P m)) []
      (λ t'. Ex m (ask m (sc m 2 none) ∷ []) (sc m 2 none) (Some (length m.file)) [] [] m.store (in_order m.radio) t' (PA.Running FileReady) Ra.Send)
      refl refl (simp (le-leb (length m.file) 0xFFFFFF (short m))) (offers _) refl
      (λ t₂ d₂. asked_sc m 0 (sc m 2 none) (Some (length m.file)) [] [] m.store (in_order m.radio) t₂ _ _ none 2 (SectionReady (number m 0)) 0 refl (requests_file (P m) none 0) tt (asks_none 0 (asking m (sc m 2 none)) refl)
      (λ t₃ d₃. sections_pass m fits c 0 m.radio [] m.file m.store t₃ _ _ (sc m 2 none)
      refl (omega arith) (rw zero-mul) refl m.room refl (omega arith) awaits_first hit (omega arith) (omega arith))))

  begins : (c : ℕ) → count m ≡ c
      → DamagedThenIntact (limit m) (parts c (size m) m.file) m.radio
      → 2 + c + sending_frames (limit m) (parts c (size m) m.file) m.radio ≡ provider_frames m
      → 3 + 2 * c + damaged_sendings m.radio ≡ receiver_frames m
      → Ends m (begun (P m) (R m S.Nothing None 0 0) m.store (in_order m.radio))
  unfolding to_send awaited when
  begins zero e hit na mb = absurd (omega (arith, some_section (length m.file)))
  begins (suc c) e hit na mb = rw (starts m) (opens c e hit na mb)

  made : begun (P m) (R m S.Nothing None 0 0) m.store (in_order m.radio) ≡ begun m.provider m.receiver m.store (in_order m.radio)
  made = rw (provider_fresh m, receiver_fresh m)

  pub all_pass : Ends m (begun m.provider m.receiver m.store (in_order m.radio))
  unfolding sections
  all_pass = subst (λ (e : Exchange). Ends m e) made (begins (count m) refl m.damage refl refl)

pub two_party_transfer : TwoPartyTransfer
two_party_transfer m =
    let t = all_pass m in
    let steps : t.0 ≡ provider_frames m + receiver_frames m = omega (arith, t.1) in
    subst (λ (k : ℕ). Transferred m (exchanged m k)) steps t.3
