-- A sending of a section: its segments and its close, and the sendings that are damaged.
use Prim.Native.Nat.{ℕ, ◌+◌, ◌-◌, ◌*◌, ◌≤◌, ◌<◌}
use mathlib.Core.Path.{◌≡◌, refl, sym, ap, ◌∙◌}
use mathlib.Core.Logic.{◌≢◌}
use mathlib.Core.Bool.{true}
use mathlib.Core.List.{List, [], ◌∷◌, ◌++◌, map, append-nil, append_assoc}
use native.Mathlib.Omega.{arith}
use lib.ListN.{length, drop, length-append, length-drop}
use lib.Seq.{drop-append-add, drop-drop}
use borrow.Author.Tests.{eq-eqb}
use Rattle.std.specs.Prelude.{Option}
use Rattle.laws.specs.When.{when}
use Rattle.lists.specs.Parts.{div_ceil, joined}
use Rattle.lists.proofs.Parts.{Fit, length-parts, joined_all, fit_all}
use Rattle.asdu.specs.Sizes.{segment_limit}
use Rattle.asdu.specs.declared.Nos.{Nos}
use Rattle.asdu.specs.declared.Los.{Los}
use Rattle.asdu.specs.declared.Lsq.{Lsq}
use Rattle.asdu.specs.declared.Chs.{Chs}
use Rattle.frame.specs.declared.Frame.{Frame}
use Rattle.frame.specs.declared.Frame.TheVariants as F
use Rattle.frame.specs.Answers.{answers_to, names_agree, called_section, sc_answered, section_answered, ack_answered, one_of}
use Rattle.checksum.specs.Checksum.{checksum}
use Rattle.sections.specs.Sections.{segments}
use Rattle.provide.specs.Replies.{Packet, bare, octets_of, close_frame, segment_packet}
use Rattle.provide.proofs.Facts.{section_again}
use Rattle.requests.specs.declared.Reply.TheVariants.{Section}
use Rattle.requests.specs.declared.ProviderAnswer.{ProviderAnswer}
use Rattle.requests.specs.declared.ProviderAnswer.TheVariants as PA
use Rattle.receive.specs.Record.{awaited}
use Rattle.receive.specs.Answers.{on_close, to_send}
use Rattle.receive.specs.declared.ReceiverAnswer.{ReceiverAnswer}
use Rattle.receive.specs.declared.ReceiverAnswer.TheVariants as Ra
use Rattle.receive.specs.declared.Sent.{Sent}
use Rattle.receive.proofs.Facts.{section_accepted, section_dropped}
use Rattle.exchange.specs.Exchange.{Fate, lost, arrives, Passing, Noise, flown, payloads, next_sending, sendings_left}
use Rattle.exchange.specs.Transfer.{Transfer, FatesOf, arrived, Damaged, AllDamaged}
use Rattle.exchange.specs.Order.{Meets, sendings_before}
use Rattle.exchange.proofs.Begins.{payloads_behind}
use Rattle.exchange.proofs.Hearing.{P, R}
use Rattle.exchange.proofs.Asking.{asks_own}
use Rattle.exchange.proofs.Steps.{Adds, Ends, Ex, sc, ack, asking, ask, tell, asked_ack, takes, loses, gains}

-- no more arrives than was sent
arrived_fits : (os : List (List ℕ)) (fs : List Fate) → FatesOf os fs → length (arrived fs) ≤ length (joined os)
arrived_fits [] [] h = omega arith
arrived_fits [] (f ∷ fs) h = absurd h
arrived_fits (o ∷ os) [] h = absurd h
arrived_fits (o ∷ os) (lost ∷ fs) h = simp length-append (omega (arith, arrived_fits os fs h))
arrived_fits (o ∷ os) (arrives a ∷ fs) h = simp length-append (omega (arith, h.0, arrived_fits os fs h.1))

-- octets a over the beginning of the rest: as long, and the same from n on
over_length : (a rest : List ℕ) → length a ≤ length rest → length (a ++ drop (length a) rest) ≡ length rest
over_length a rest h = simp (length-append, length-drop) (omega arith)

over_behind : (n : ℕ) (a rest : List ℕ) → length a ≤ n → drop n (a ++ drop (length a) rest) ≡ drop n rest
over_behind n a rest h =
    let more : length a + (n - length a) ≡ n = omega arith in
    ap (λ (k : ℕ). drop k (a ++ drop (length a) rest)) (sym more)
    ∙ drop-append-add a (drop (length a) rest) (n - length a) ∙ drop-drop (n - length a) (length a) rest ∙ ap (λ (k : ℕ). drop k rest) more

module _ (m : Transfer) where
  abbrev pub limit : ℕ
  limit = segment_limit m.provider_station.sizes

  -- what was asked is answered by this section's segments and its close
  pub record Heard (s : Sent) (nos : Nos) : Type 0 where
    pub segment : (x : Los) → answers_to (asking m s) (F.Segment m.object m.name nos x) ≡ true
    pub close : (q : Lsq) (c : Chs) → answers_to (asking m s) (F.LastSection m.object m.name nos q c) ≡ true

  -- segments, and the frame behind them
  abbrev behind : Nos → List (List ℕ) → Frame → List Packet
  behind nos os c = map (segment_packet (P m) nos) os ++ (bare c ∷ [])

  -- ---- the segments: each lemma is one clause of the recursion

  module _ (l : Option ℕ) (nos : Nos) (acc : List ℕ) (radio : List Noise) (s : Sent) (u : ProviderAnswer) (c : Frame) (heard : Heard s nos) where
    -- these segments pass with these fates: what arrives of them is under way, and frame c is next
    unfoldable Pass : List (List ℕ) → List Fate → Type 0
    Pass os fs =
        (sec rest : List ℕ) (t : List Passing) (v : ReceiverAnswer)
        → Fit limit os → FatesOf os fs → length (joined os) ≤ length rest
        → ((t' : List Passing) (v' : ReceiverAnswer) → Adds nos.value t t' (length os) 0 0
        → Ends m (Ex m (tell m c ∷ []) s l acc (sec ++ arrived fs) (drop (length (arrived fs)) rest) radio t' u v'))
        → Ends m (Ex m (flown fs (behind nos os c)) s l acc sec rest radio t u v)

    none_passes : Pass [] []
    unfolding Pass
    none_passes sec rest t v fit hit fits k = rw append-nil at (k t v (omega arith))

    none_left : (f : Fate) (fs : List Fate) → Pass [] (f ∷ fs)
    unfolding Pass
    none_left f fs sec rest t v fit hit fits k = absurd hit

    none_said : (o : List ℕ) (os : List (List ℕ)) → Pass (o ∷ os) []
    unfolding Pass
    none_said o os sec rest t v fit hit fits k = absurd hit

    one_lost : (o : List ℕ) (os : List (List ℕ)) (fs : List Fate) → Pass os fs → Pass (o ∷ os) (lost ∷ fs)
    unfolding Pass when
    one_lost o os fs others sec rest t v fit hit fits k =
        loses m nos.value s l acc sec rest radio t u v nos o _
        (λ t' d. others sec rest t' v fit.2 hit (omega (arith, simp length-append at fits)) (λ t'' v' d'. k t'' v' (omega arith)))

    one_arrives : (o x : List ℕ) (os : List (List ℕ)) (fs : List Fate) → Pass os fs → Pass (o ∷ os) (arrives x ∷ fs)
    unfolding Pass when
    one_arrives o x os fs others sec rest t v fit hit fits k =
        let whole : length o + length (joined os) ≤ length rest = simp length-append at fits in
        gains m nos.value s l acc sec rest radio t u v nos o x _ fit.0 fit.1 hit.0 (omega arith) (heard.segment _)
        (λ t' d. others (sec ++ x) (drop (length x) rest) t' Ra.Running fit.2 hit.1 (simp length-drop (omega (arith, hit.0)))
        (λ t'' v' d'. rw (append_assoc sec x (arrived fs), drop-drop, ← (length-append x (arrived fs))) (k t'' v' (omega arith))))

    segments_pass : (os : List (List ℕ)) (fs : List Fate) → Pass os fs
    segments_pass [] [] = none_passes
    segments_pass [] (f ∷ fs) = none_left f fs
    segments_pass (o ∷ os) [] = none_said o os
    segments_pass (o ∷ os) (lost ∷ fs) = one_lost o os fs (segments_pass os fs)
    segments_pass (o ∷ os) (arrives x ∷ fs) = one_arrives o x os fs (segments_pass os fs)

  -- the frames of one sending
  abbrev pub packets : Nos → List ℕ → List Packet
  packets nos o = behind nos (segments limit o) (close_frame (P m) nos 3 o)

  -- the noise sees the section's segments
  pub sent_payloads : (nos : Nos) (o : List ℕ) → payloads (packets nos o) ≡ segments limit o
  sent_payloads nos o = payloads_behind (P m) nos (close_frame (P m) nos 3 o) refl (segments limit o)

  module _ (wide : 0 < limit) (l : Option ℕ) (nos : Nos) (acc o : List ℕ) where
    pub sending_passes : (radio : List Noise) (s : Sent) (fs : List Fate) (rest : List ℕ) (t : List Passing) (u : ProviderAnswer) (v : ReceiverAnswer)
        → Heard s nos → FatesOf (segments limit o) fs → length o ≤ length rest
        → ((t' : List Passing) (v' : ReceiverAnswer) → Adds nos.value t t' (div_ceil (length o) limit) 0 0
        → Ends m (Ex m (tell m (close_frame (P m) nos 3 o) ∷ []) s l acc (arrived fs) (drop (length (arrived fs)) rest) radio t' u v'))
        → Ends m (Ex m (flown fs (packets nos o)) s l acc [] rest radio t u v)
    unfolding segments Pass
    sending_passes radio s fs rest t u v heard hit fits k =
        segments_pass l nos acc radio s u _ heard (segments limit o) fs [] rest t v (fit_all limit wide o) hit
        (rw (joined_all limit wide o) fits)
        (λ t' v' d. k t' v' (rw length-parts at d))

    module _ (s : Sent) (heard : Heard s nos) (sec rest : List ℕ) (radio : List Noise) (t : List Passing) (u : ProviderAnswer) (v : ReceiverAnswer) where
      -- the close finds another sum: the section is dropped, and asked for again
      refuses : checksum sec ≢ checksum o
          → ((t' : List Passing) → Adds nos.value t t' 1 0 0
          → Ends m (Ex m (ask m (ack m 4 nos) ∷ []) (ack m 4 nos) l acc [] (sec ++ rest) radio t' u Ra.Send))
          → Ends m (Ex m (tell m (close_frame (P m) nos 3 o) ∷ []) s l acc sec rest radio t u v)
      unfolding on_close to_send awaited when
      refuses differs =
          takes m nos.value s l acc sec rest radio t u v _ []
          (λ t'. Ex m (ask m (ack m 4 nos) ∷ []) (ack m 4 nos) l acc [] (sec ++ rest) radio t' u Ra.Send)
          refl refl refl (heard.close _ _)
          (simp (section_dropped (R m s l (length acc) (length sec)) acc sec rest refl refl nos (record { value = checksum o }) differs))

      -- the same sum: it is accepted
      pub accepts : checksum sec ≡ checksum o
          → ((t' : List Passing) → Adds nos.value t t' 1 0 0
          → Ends m (Ex m (ask m (ack m 3 nos) ∷ []) (ack m 3 nos) l (acc ++ sec) [] rest radio t' u Ra.Send))
          → Ends m (Ex m (tell m (close_frame (P m) nos 3 o) ∷ []) s l acc sec rest radio t u v)
      unfolding on_close to_send awaited when
      accepts equals =
          takes m nos.value s l acc sec rest radio t u v _ []
          (λ t'. Ex m (ask m (ack m 3 nos) ∷ []) (ack m 3 nos) l (acc ++ sec) [] rest radio t' u Ra.Send)
          refl refl refl (heard.close _ _)
          (simp (section_accepted (R m s l (length acc) (length sec)) acc sec rest refl refl nos (record { value = checksum o }) equals, length-append, append_assoc))

  -- a section request and a negative acknowledgement are answered by the section
  pub heard_call : (nos : Nos) → Heard (sc m 6 nos) nos
  unfolding answers_to names_agree called_section sc_answered section_answered one_of when
  heard_call nos =
      record {
        segment = λ x. simp (eq-eqb m.object m.object refl, eq-eqb m.name.value m.name.value refl, eq-eqb nos.value nos.value refl);
        close = λ q c. simp (eq-eqb m.object m.object refl, eq-eqb m.name.value m.name.value refl, eq-eqb nos.value nos.value refl);
      }

  heard_refusal : (nos : Nos) → Heard (ack m 4 nos) nos
  unfolding answers_to names_agree ack_answered one_of when
  heard_refusal nos =
      record {
        segment = λ x. simp (eq-eqb m.object m.object refl, eq-eqb m.name.value m.name.value refl);
        close = λ q c. simp (eq-eqb m.object m.object refl, eq-eqb m.name.value m.name.value refl);
      }

  -- with `done` of the damaged noises met, the section's next sending meets the next of its noises
  abbrev pub MeetsEach : Nos → List Noise → Noise → List Noise → Type 0
  MeetsEach nos damaged good radio =
      (done left : List Noise) → done ++ left ≡ damaged → (k : ℕ) → k ≡ length done → Meets m nos.value k (left ++ (good ∷ radio))

  module _ (wide : 0 < limit) (l : Option ℕ) (nos : Nos) (acc o : List ℕ) (is : octets_of (P m) m.file nos ≡ o) where
    -- a damaged sending passes: nothing is kept of it, and the next one begins
    damaged_one : (radio : List Noise) (x : Noise) (s : Sent) (rest : List ℕ) (t : List Passing) (u : ProviderAnswer) (v : ReceiverAnswer)
        → ((k : ℕ) → k ≡ sendings_before nos.value t → Meets m nos.value k radio) → Heard s nos → Damaged limit o x → length o ≤ length rest
        → ((t' : List Passing) → Adds nos.value t t' (div_ceil (length o) limit + 1) 1 1
        → Ends m (Ex m (flown (next_sending true radio (segments limit o)) (packets nos o)) (ack m 4 nos) l acc [] (arrived (x (segments limit o)) ++ drop (length (arrived (x (segments limit o)))) rest)
        (sendings_left true radio) t' (PA.Running (Section nos)) Ra.Send))
        → Ends m (Ex m (flown (x (segments limit o)) (packets nos o)) s l acc [] rest radio t u v)
    damaged_one radio x s rest t u v own heard bad fits k =
        sending_passes wide l nos acc o radio s (x (segments limit o)) rest t u v heard bad.0 fits
        (λ t' v' d. refuses wide l nos acc o s heard (arrived (x (segments limit o))) (drop (length (arrived (x (segments limit o)))) rest) radio t' u v' bad.1
        (λ t'' d'. asked_ack m nos.value (ack m 4 nos) l acc [] (arrived (x (segments limit o)) ++ drop (length (arrived (x (segments limit o)))) rest) radio t'' u _ nos 4 (Section nos) 1 refl (section_again (P m) nos 0) (own _ (omega arith)) (asks_own (asking m (ack m 4 nos)) refl)
        (λ t''' d''. rw (is, sent_payloads nos o) (k t''' (omega arith)))))

    -- all of them, up to the intact one: the store behind the section is as it was
    pub damaged_pass : (good : Noise) (radio all : List Noise) → MeetsEach nos all good radio
        → (done xs : List Noise) → done ++ xs ≡ all → (s : Sent) (rest : List ℕ) (t : List Passing) (u : ProviderAnswer) (v : ReceiverAnswer)
        → sendings_before nos.value t ≡ length done + 1
        → Heard s nos → AllDamaged limit o xs → length o ≤ length rest
        → ((s' : Sent) (rest' : List ℕ) (t' : List Passing) (u' : ProviderAnswer) (v' : ReceiverAnswer)
        → Heard s' nos → length rest' ≡ length rest → drop (length o) rest' ≡ drop (length o) rest
        → Adds nos.value t t' (length xs * (div_ceil (length o) limit + 1)) (length xs) (length xs)
        → Ends m (Ex m (flown (good (segments limit o)) (packets nos o)) s' l acc [] rest' radio t' u' v'))
        → Ends m (Ex m (flown (next_sending true (xs ++ (good ∷ radio)) (segments limit o)) (packets nos o)) s l acc [] rest (sendings_left true (xs ++ (good ∷ radio))) t u v)
    unfolding segments
    damaged_pass good radio all own done [] e s rest t u v before heard bad fits k = k s rest t u v heard refl refl (omega arith)
    damaged_pass good radio all own done (x ∷ xs) e s rest t u v before heard bad fits k =
        let one_more : length (done ++ (x ∷ [])) ≡ length done + 1 = length-append done (x ∷ []) in
        let e' : (done ++ (x ∷ [])) ++ xs ≡ all = append_assoc done (x ∷ []) xs ∙ e in
        let small : length (arrived (x (segments limit o))) ≤ length o = rw (joined_all limit wide o) at (arrived_fits (segments limit o) (x (segments limit o)) bad.0.0) in
        let alike : length (arrived (x (segments limit o)) ++ drop (length (arrived (x (segments limit o)))) rest) ≡ length rest = over_length (arrived (x (segments limit o))) rest (omega arith) in
        damaged_one (xs ++ (good ∷ radio)) x s rest t u v (λ k h. own (done ++ (x ∷ [])) xs e' k (omega arith)) heard bad.0 fits
        (λ t' d.
        damaged_pass good radio all own (done ++ (x ∷ [])) xs e' (ack m 4 nos) (arrived (x (segments limit o)) ++ drop (length (arrived (x (segments limit o)))) rest) t' _ _ (omega arith) (heard_refusal nos) bad.1 (rw alike fits)
        (λ s' rest' t'' u' v' heard' g b d'.
        k s' rest' t'' u' v' heard' (g ∙ alike) (b ∙ over_behind (length o) (arrived (x (segments limit o))) rest small) (omega arith)))
