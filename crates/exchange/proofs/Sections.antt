-- The sections in turn, and the end.
use Prim.Native.Nat.{ℕ, zero, suc, ◌+◌, ◌-◌, ◌*◌, ◌≤◌, ◌<◌}
use mathlib.Core.Path.{◌≡◌, refl, sym, ap, ◌∙◌, subst}
use mathlib.Core.Bool.{true, false}
use mathlib.Core.List.{List, [], ◌∷◌, ◌++◌, append_assoc}
use native.Mathlib.Omega.{arith}
use native.Mathlib.Numerals.{add-one}
use native.Mathlib.Nat.{suc-mul}
use lib.ListN.{length, take, drop, length-append, length-drop, length-take, take-append-drop}
use lib.Seq.{take_all, drop-drop, drop-append_seam}
use borrow.Author.Tests.{le-leb, eq-eqb}
use Rattle.std.specs.Prelude.{Option, Some}
use Rattle.laws.specs.When.{when}
use Rattle.lists.specs.Parts.{div_ceil, parts}
use Rattle.asdu.specs.declared.Nos.{Nos}
use Rattle.asdu.specs.declared.Lof.{Lof}
use Rattle.asdu.specs.declared.Lsq.{Lsq}
use Rattle.asdu.specs.declared.Chs.{Chs}
use Rattle.frame.specs.declared.Frame.TheVariants as F
use Rattle.frame.specs.Answers.{answers_to, names_agree, ack_answered, one_of}
use Rattle.checksum.specs.Checksum.{checksum}
use Rattle.sections.specs.Sections.{section_length, section_count, segments}
use Rattle.provide.specs.Replies.{octets_of, section_ready, close_frame}
use Rattle.provide.specs.Requests.{replying, on_ack}
use Rattle.requests.specs.declared.Reply.TheVariants.{SectionReady, Section, FileClose}
use Rattle.provide.specs.declared.ProviderStep.{ProviderStep}
use Rattle.requests.specs.declared.ProviderAnswer.{ProviderAnswer}
use Rattle.provide.proofs.Facts.{requests_section, next_section_lem, no_section, file_accepted}
use Rattle.sections.proofs.SectionLaws.{enough, section_from}
use Rattle.receive.proofs.Facts as RF
use Rattle.receive.specs.Record.{with_state, awaited}
use Rattle.receive.specs.Answers.{on_section_ready, on_close, to_send}
use Rattle.receive.specs.declared.Sent.{Sent}
use Rattle.receive.specs.declared.Sent.TheVariants as S
use Rattle.receive.specs.declared.ReceiverAnswer.{ReceiverAnswer}
use Rattle.receive.specs.declared.ReceiverAnswer.TheVariants as Ra
use Rattle.exchange.specs.Exchange.{by_provider, by_receiver, Noise, Passing, flown, Exchange, provided, sent_by}
use Rattle.exchange.specs.Transfer.{Transfer, Sendings, AllDamaged, Intact, arrived, DamagedThenIntact, in_order, sending_frames, damaged_sendings, provider_frames, receiver_frames}
use Rattle.exchange.specs.Order.{AnswersInOrder, sendings_before}
use Rattle.exchange.proofs.Hearing.{P, R, short, provider_fresh, receiver_fresh, hears_ack}
use Rattle.exchange.proofs.Asking.{sendings_from, sendings_split, asks_none, asks_own}
use Rattle.exchange.proofs.Steps.{Adds, sends, Ends, Ex, sc, ack, asking, ask, tell, back, asked_sc, asked_ack, takes}
use Rattle.exchange.proofs.Sendings.{limit, Heard, packets, sent_payloads, sending_passes, accepts, heard_call, MeetsEach, damaged_pass}

module _ (m : Transfer) where
  -- what was asked is answered by the section that is ready
  abbrev pub Awaits : Sent → Nos → Type 0
  Awaits s nos = (x : Lof) → answers_to (asking m s) (F.SectionReady m.object m.name nos x (record { value = 0; not_ready = false })) ≡ true

  -- ---- one section, from its announcement to its acceptance

  module _ (wide : 0 < limit m) (l : Option ℕ) (nos : Nos) (acc o : List ℕ) (is : octets_of (P m) m.file nos ≡ o) (small : length o ≤ 0xFFFFFF)
      (x : Sendings) (bad : AllDamaged (limit m) o x.damaged) (good : Intact (limit m) o x.intact) where
    -- its last sending
    intact_passes : (radio : List Noise) (s : Sent) (rest : List ℕ) (t : List Passing) (u : ProviderAnswer) (v : ReceiverAnswer) → Heard m s nos → length o ≤ length rest
        → ((t' : List Passing) → Adds nos.value t t' (div_ceil (length o) (limit m) + 1) 0 0
        → Ends m (Ex m (ask m (ack m 3 nos) ∷ []) (ack m 3 nos) l (acc ++ o) [] (drop (length o) rest) radio t' u Ra.Send))
        → Ends m (Ex m (flown (x.intact (segments (limit m) o)) (packets m nos o)) s l acc [] rest radio t u v)
    intact_passes radio s rest t u v heard fits k =
        sending_passes m wide l nos acc o radio s (x.intact (segments (limit m) o)) rest t u v heard good.0 fits
        (λ t' v' d. accepts m wide l nos acc o s heard (arrived (x.intact (segments (limit m) o))) (drop (length (arrived (x.intact (segments (limit m) o)))) rest) radio t' u v' (ap checksum good.1)
        (λ t'' d'. rw good.1 (k t'' (omega arith))))

    pub section_passes : (radio : List Noise) → MeetsEach m nos x.damaged x.intact radio
        → (s : Sent) (rest : List ℕ) (t : List Passing) (u : ProviderAnswer) (v : ReceiverAnswer) → sendings_before nos.value t ≡ 0 → Awaits s nos → length o ≤ length rest
        → ((t' : List Passing) (u' : ProviderAnswer) → Adds nos.value t t' (1 + (1 + length x.damaged) * (div_ceil (length o) (limit m) + 1)) (1 + length x.damaged) (1 + length x.damaged)
        → Ends m (Ex m (ask m (ack m 3 nos) ∷ []) (ack m 3 nos) l (acc ++ o) [] (drop (length o) rest) radio t' u' Ra.Send))
        → Ends m (Ex m (tell m (section_ready (P m) m.file nos) ∷ []) s l acc [] rest (x.damaged ++ (x.intact ∷ radio)) t u v)
    unfolding on_section_ready to_send awaited when
    section_passes radio own s rest t u v before awaits fits k =
        takes m nos.value s l acc [] rest _ t u v _ []
        (λ t'. Ex m (ask m (sc m 6 nos) ∷ []) (sc m 6 nos) l acc [] rest (x.damaged ++ (x.intact ∷ radio)) t' u Ra.Send)
        refl refl (simp (is, le-leb (length o) 0xFFFFFF small)) (awaits _) refl
        (λ t₁ d₁. asked_sc m nos.value (sc m 6 nos) l acc [] rest _ t₁ u _ nos 6 (Section nos) 1 refl (requests_section (P m) nos 0) (own [] x.damaged refl _ (omega arith)) (asks_own (asking m (sc m 6 nos)) refl)
        (λ t₂ d₂. rw (is, sent_payloads m nos o)
        (damaged_pass m wide l nos acc o is x.intact radio x.damaged own [] x.damaged refl (sc m 6 nos) rest t₂ _ _ (omega arith) (heard_call m nos) bad fits
        (λ s' rest' t₃ u' v' heard e b d₃.
        intact_passes radio s' rest' t₃ u' v' heard (rw e fits) (λ t₄ d₄. rw b (k t₄ u' (omega arith)))))))

  abbrev pub size : ℕ
  size = section_length (length m.file)

  abbrev pub count : ℕ
  count = section_count (length m.file)

  abbrev pub number : ℕ → Nos
  number j = record { value = suc j }

  -- ---- what a positive acknowledgement is followed by

  next : (j : ℕ) → suc j < count → on_ack (P m) (number j) (record { action = 3; error = 0 }) ≡ replying (P m) (SectionReady (number (suc j)))
  next j h = next_section_lem (P m) (number j) 0 h ∙ rw (add-one (suc j))

  none_next : (j : ℕ) → suc j ≡ count → on_ack (P m) (number j) (record { action = 3; error = 0 }) ≡ replying (P m) (FileClose (number j))
  none_next j e = no_section (P m) (number j) 0 (omega arith)

  awaits_next : (nos nos' : Nos) → Awaits (ack m 3 nos) nos'
  unfolding answers_to names_agree ack_answered one_of when
  awaits_next nos nos' x = simp (eq-eqb m.object m.object refl, eq-eqb m.name.value m.name.value refl)

  closes_file_lem : (nos : Nos) (q : Lsq) (c : Chs) → answers_to (asking m (ack m 3 nos)) (F.LastSection m.object m.name nos q c) ≡ true
  unfolding answers_to names_agree ack_answered one_of when
  closes_file_lem nos q c = simp (eq-eqb m.object m.object refl, eq-eqb m.name.value m.name.value refl)

  -- ---- the file's close, its acknowledgement, and the end

  -- the Receiver has ended
  abbrev closed : Nos → List ℕ → List Noise → ProviderAnswer → List Passing → Exchange
  closed nos rest radio u t =
      record {
        queue = ask m (ack m 1 nos) ∷ [];
        provider = P m;
        receiver = with_state (R m S.Nothing (Some 0) 0 0) (ack m 1 nos) (Some (length m.file)) (length m.file) 0 true;
        store = m.file ++ rest;
        radio = radio;
        passed = t;
        provider_said = u;
        receiver_said = Ra.Complete (length m.file);
      }

  ends : (nos : Nos) (rest : List ℕ) (radio : List Noise) (u : ProviderAnswer) (t : List Passing)
      → nos ≡ record { value = count } → rest ≡ drop (length m.file) m.store
      → sent_by by_provider t ≡ provider_frames m → sent_by by_receiver t + 1 ≡ receiver_frames m → Ends m (closed nos rest radio u t)
  ends nos rest radio u t last behind na mb =
      let heard = hears_ack m (m.headers t (ask m (ack m 1 nos))) nos 1 refl (m.sound t (ask m (ack m 1 nos))) ∙ file_accepted (P m) nos 0 in
      back m (ask m (ack m 1 nos)) (closed nos rest radio u t) _ (subst (λ (z : ProviderStep). AnswersInOrder m t radio z.answer) (sym heard) tt)
      (ap (provided m.file (closed nos rest radio u t) (ask m (ack m 1 nos)) []) heard) refl (
        0,
        omega (arith, sends t (ask m (ack m 1 nos))),
        tt,
        record {
          over = refl;
          provider_complete = refl;
          provider_ended = rw (provider_fresh m);
          receiver_complete = refl;
          receiver_ended = rw (receiver_fresh m, last);
          stored = rw behind;
          provider_sent = omega (arith, sends t (ask m (ack m 1 nos)));
          receiver_sent = omega (arith, sends t (ask m (ack m 1 nos)));
        },
      )

  finish : (nos : Nos) (rest : List ℕ) (radio : List Noise) (t : List Passing) (u : ProviderAnswer) (v : ReceiverAnswer)
      → nos ≡ record { value = count } → rest ≡ drop (length m.file) m.store
      → sent_by by_provider t + 1 ≡ provider_frames m → sent_by by_receiver t + 1 ≡ receiver_frames m
      → Ends m (Ex m (tell m (close_frame (P m) nos 1 m.file) ∷ []) (ack m 3 nos) (Some (length m.file)) m.file [] rest radio t u v)
  unfolding on_close to_send awaited when
  finish nos rest radio t u v last behind na mb =
      takes m nos.value (ack m 3 nos) (Some (length m.file)) m.file [] rest radio t u v _ [] (closed nos rest radio u) refl refl refl (closes_file_lem nos _ _)
      (simp (RF.file_accepted (R m (ack m 3 nos) (Some (length m.file)) (length m.file) 0) m.file [] rest refl refl nos (record { value = checksum m.file }) refl))
      (λ t' d. ends nos rest radio u t' last behind (omega arith) (omega arith))

  -- ---- the sections in turn: acc is accepted, rem is left of the file, and section j + 1 is announced

  octets_at_lem : (j : ℕ) (rem : List ℕ) → drop (j * size) m.file ≡ rem → octets_of (P m) m.file (number j) ≡ take size rem
  octets_at_lem j rem e = section_from size j m.file ∙ ap (take size) e

  last_fits : (j : ℕ) (rem : List ℕ) → suc j ≡ count → drop (j * size) m.file ≡ rem → length rem ≤ size
  last_fits j rem e is =
      omega (arith, simp length-drop at (ap length is), enough (length m.file), ap (λ (k : ℕ). k * size) e)

  own_section : (j : ℕ) (x : Sendings) (xs : List Sendings) → drop j m.radio ≡ x ∷ xs → drop (suc j - 1) m.radio ≡ x ∷ xs
  own_section j x xs at = let one_less : suc j - 1 ≡ j = omega arith in rw one_less at

  -- a section's noises from number k on, where k damaged ones are done
  own_left : (x : Sendings) (done left : List Noise) → done ++ left ≡ x.damaged → (k : ℕ) → k ≡ length done
      → drop k (x.damaged ++ (x.intact ∷ [])) ≡ left ++ (x.intact ∷ [])
  own_left x done left e k h = rw (← e, append_assoc done left (x.intact ∷ []), h) (drop-append_seam done (left ++ (x.intact ∷ [])))

  -- the noises of section j + 1
  meets_own : (j : ℕ) (x : Sendings) (xs : List Sendings) → drop j m.radio ≡ x ∷ xs → MeetsEach m (number j) x.damaged x.intact (in_order xs)
  meets_own j x xs at done [] e k h =
      record { sendings = x; later = xs; section = own_section j x xs at; met = x.intact; behind = []; number = own_left x done [] e k h; to_come = refl }
  meets_own j x xs at done (y ∷ ys) e k h =
      record {
        sendings = x;
        later = xs;
        section = own_section j x xs at;
        met = y;
        behind = ys ++ (x.intact ∷ []);
        number = own_left x done (y ∷ ys) e k h;
        to_come = rw (append_assoc ys (x.intact ∷ []) (in_order xs));
      }

  -- what is behind the file in the store
  abbrev beyond : List ℕ
  beyond = drop (length m.file) m.store

  module _ (wide : 0 < limit m) (j : ℕ) (x : Sendings) (acc rem rest : List ℕ) (t : List Passing) (u : ProviderAnswer) (v : ReceiverAnswer) (s : Sent)
      (is : drop (j * size) m.file ≡ rem) (kept : acc ++ rem ≡ m.file) (fits : length rem ≤ length rest) (behind : drop (length rem) rest ≡ beyond)
      (before : sendings_before (suc j) t ≡ 0) (awaits : Awaits s (number j)) (bad : AllDamaged (limit m) (take size rem) x.damaged) (good : Intact (limit m) (take size rem) x.intact) where
    small : length (take size rem) ≤ 0xFFFFFF
    small = simp length-take (omega (arith, simp length-append at (ap length kept), short m))

    -- the Provider's frames of this section
    abbrev mine : ℕ
    mine = (1 + length x.damaged) * (div_ceil (length (take size rem)) (limit m) + 1)

    -- a section that is followed by another
    one_passes : (xs : List Sendings) → drop j m.radio ≡ x ∷ xs → suc j < count
        → ((t' : List Passing) (u' : ProviderAnswer) (v' : ReceiverAnswer) → Adds (suc j) t t' (1 + mine) (2 + length x.damaged) (1 + length x.damaged)
        → Ends m (Ex m (tell m (section_ready (P m) m.file (number (suc j))) ∷ []) (ack m 3 (number j)) (Some (length m.file)) (acc ++ take size rem) []
        (drop (length (take size rem)) rest) (in_order xs) t' u' v'))
        → Ends m (Ex m (tell m (section_ready (P m) m.file (number j)) ∷ []) s (Some (length m.file)) acc [] rest (x.damaged ++ (x.intact ∷ in_order xs)) t u v)
    one_passes xs at more k =
        section_passes wide (Some (length m.file)) (number j) acc (take size rem) (octets_at_lem j rem is) small x bad good (in_order xs) (meets_own j x xs at) s rest t u v before awaits (simp length-take (omega arith))
        (λ t₁ u' d₁. asked_ack m (suc j) (ack m 3 (number j)) (Some (length m.file)) (acc ++ take size rem) [] (drop (length (take size rem)) rest) (in_order xs) t₁ u' _ (number j) 3 (SectionReady (number (suc j))) 0 refl (next j more) tt (asks_none (suc j) (asking m (ack m 3 (number j))) refl)
        (λ t₂ d₂. k t₂ _ _ (omega arith)))

    -- the last one
    last_passes : drop j m.radio ≡ x ∷ [] → suc j ≡ count → sent_by by_provider t + (2 + mine) ≡ provider_frames m → sent_by by_receiver t + (3 + length x.damaged) ≡ receiver_frames m
        → Ends m (Ex m (tell m (section_ready (P m) m.file (number j)) ∷ []) s (Some (length m.file)) acc [] rest (x.damaged ++ (x.intact ∷ [])) t u v)
    last_passes at e na mb =
        section_passes wide (Some (length m.file)) (number j) acc (take size rem) (octets_at_lem j rem is) small x bad good [] (meets_own j x [] at) s rest t u v before awaits (simp length-take (omega arith))
        (λ t₁ u' d₁. asked_ack m (suc j) (ack m 3 (number j)) (Some (length m.file)) (acc ++ take size rem) [] (drop (length (take size rem)) rest) [] t₁ u' _ (number j) 3 (FileClose (number j)) 0 refl (none_next j e) tt (asks_none (suc j) (asking m (ack m 3 (number j))) refl)
        (λ t₂ d₂. rw (take_all size rem (last_fits j rem e is), kept)
        (finish (number j) (drop (length rem) rest) [] t₂ _ _ (ap (λ (n : ℕ). record { value = n }) e) behind (omega arith) (omega arith))))

  -- the sections from j + 1 on pass, c of them after that one
  unfoldable pub Pass : ℕ → ℕ → List Sendings → Type 0
  Pass c j xs =
      (acc rem rest : List ℕ) (t : List Passing) (u : ProviderAnswer) (v : ReceiverAnswer) (s : Sent)
      → drop j m.radio ≡ xs → j + suc c ≡ count → drop (j * size) m.file ≡ rem → acc ++ rem ≡ m.file → length rem ≤ length rest → drop (length rem) rest ≡ beyond
      → sendings_from (suc j) t ≡ 0 → Awaits s (number j)
      → DamagedThenIntact (limit m) (parts (suc c) size rem) xs
      → sent_by by_provider t + (suc c + sending_frames (limit m) (parts (suc c) size rem) xs) + 1 ≡ provider_frames m
      → sent_by by_receiver t + (2 * suc c + damaged_sendings xs) + 1 ≡ receiver_frames m
      → Ends m (Ex m (tell m (section_ready (P m) m.file (number j)) ∷ []) s (Some (length m.file)) acc [] rest (in_order xs) t u v)

  none_said : (c j : ℕ) → Pass c j []
  unfolding Pass
  none_said c j acc rem rest t u v s at e is kept fits behind before awaits hit na mb = absurd hit

  too_many : (j : ℕ) (x y : Sendings) (ys : List Sendings) → Pass 0 j (x ∷ y ∷ ys)
  unfolding Pass
  too_many j x y ys acc rem rest t u v s at e is kept fits behind before awaits hit na mb = absurd hit.2

  last_one : (wide : 0 < limit m) (j : ℕ) (x : Sendings) → Pass 0 j (x ∷ [])
  unfolding Pass
  last_one wide j x acc rem rest t u v s at e is kept fits behind before awaits hit na mb =
      last_passes wide j x acc rem rest t u v s is kept fits behind (omega (arith, sendings_split (suc j) t)) awaits hit.0 hit.1 at (omega arith) (omega arith) (omega arith)

  later : (j : ℕ) (rem : List ℕ) → drop (j * size) m.file ≡ rem → drop (suc j * size) m.file ≡ drop size rem
  later j rem is = simp (suc-mul, ← is, drop-drop)

  cut_length : (n : ℕ) (a : List ℕ) → length (take n a) + length (drop n a) ≡ length a
  cut_length n a = sym (length-append (take n a) (drop n a)) ∙ ap length (take-append-drop n a)

  next_sendings : (j : ℕ) (x : Sendings) (xs : List Sendings) → drop j m.radio ≡ x ∷ xs → drop (suc j) m.radio ≡ xs
  next_sendings j x xs at = rw (← (add-one j), ← (drop-drop 1 j m.radio), at)

  one_more : (wide : 0 < limit m) (c j : ℕ) (x : Sendings) (xs : List Sendings) → Pass c (suc j) xs → Pass (suc c) j (x ∷ xs)
  unfolding Pass
  one_more wide c j x xs others acc rem rest t u v s at e is kept fits behind before awaits hit na mb =
      one_passes wide j x acc rem rest t u v s is kept fits behind (omega (arith, sendings_split (suc j) t)) awaits hit.0 hit.1 xs at (omega arith)
      (λ t' u' v' d.
      others (acc ++ take size rem) (drop size rem) (drop (length (take size rem)) rest) t' u' v' (ack m 3 (number j))
      (next_sendings j x xs at) (omega arith) (later j rem is) (simp (append_assoc, take-append-drop, kept)) (omega (arith, cut_length size rem, length-drop (length (take size rem)) rest))
      (rw (drop-drop, cut_length size rem) behind) (omega (arith, sendings_split (suc j) t)) (awaits_next (number j) (number (suc j))) hit.2 (omega arith) (omega arith))

  pub sections_pass : (wide : 0 < limit m) (c j : ℕ) (xs : List Sendings) → Pass c j xs
  sections_pass wide c j [] = none_said c j
  sections_pass wide zero j (x ∷ []) = last_one wide j x
  sections_pass wide zero j (x ∷ y ∷ ys) = too_many j x y ys
  sections_pass wide (suc c) j (x ∷ xs) = one_more wide c j x xs (sections_pass wide c (suc j) xs)
