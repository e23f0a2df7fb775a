-- The run's record, frame by frame, is the exchange: one step of the record is one step of the exchange that it stands for.
use Prim.Native.Nat.{ℕ, suc, ◌+◌, ◌≤◌, ◌<◌}
use mathlib.Core.Path.{◌≡◌, refl, sym, ap, ◌∙◌}
use mathlib.Core.Bool.{Bool, true, false, true≢false}
use mathlib.Core.List.{List, [], ◌∷◌, ◌++◌, map, append-nil}
use native.Mathlib.Omega.{arith}
use native.Mathlib.Decide.{dec_lt}
use lib.ListN.{length}
use borrow.Author.Tests.{lt-ltb}
use Rattle.std.specs.Prelude.{Err, None, Ok, Result, Some}
use Rattle.laws.specs.When.{when}
use Rattle.asdu.specs.declared.Nos.{Nos}
use Rattle.frame.specs.declared.Frame.{Frame}
use Rattle.ft.specs.Building.{header_of}
use Rattle.ft.specs.declared.Received.TheVariants as D
use Rattle.ft.specs.declared.FileTransferProcedure.{FileTransferProcedure}
use Rattle.provide.specs.Record.{file_agrees}
use Rattle.provide.specs.Replies.{Packet, bare, file_ready, segment_frame, close_frame, octets_of, limit_of, segment_count, segment_of, replies, section_frame, reply_frame, reply_payload, payload_of}
use Rattle.sections.specs.Sections.{segments}
use Rattle.provide.specs.declared.Provider.{Provider}
use Rattle.provide.specs.Requests.{provide}
use Rattle.provide.specs.declared.ProviderStep.{ProviderStep}
use Rattle.requests.specs.declared.ProviderAnswer.{ProviderAnswer}
use Rattle.requests.specs.declared.ProviderAnswer.TheVariants as PA
use Rattle.requests.specs.declared.Reply.{Reply}
use Rattle.requests.specs.declared.Reply.TheVariants.{Nothing, FileReady, SectionReady, Section, FileClose}
use Rattle.provide.proofs.Indexed.{count_is, replies_agree}
use Rattle.receive.specs.Record.{store_agrees, awaited, started}
use Rattle.receive.specs.Answers.{Outcome, receive, sends, to_send}
use Rattle.receive.specs.declared.Receiver.{Receiver}
use Rattle.receive.specs.declared.ReceiverAnswer.{ReceiverAnswer}
use Rattle.receive.specs.declared.ReceiverStep.{ReceiverStep}
use Rattle.exchange.specs.Exchange.{by_receiver, Passing, untouched, provider_sends, packets_of, receiver_sends, is_sending, Noise, on_the_way, sendings_left, Exchange, provided, taken, step_on, step, begun, own_headers}
use Rattle.exchange.proofs.Begins.{payloads_behind}
use Rattle.delivery.specs.Handed.{header_by, arriving}
use Rattle.twoparty.specs.Party.{started_party, asked, replied, after_provider, after_receiver, advanced}
use Rattle.twoparty.proofs.Standing.{queue_of, none, packet_at, frame_is, first_is}
use Rattle.radio.specs.Radio.{after_sending, is_damaged}
use Rattle.twoparty.specs.declared.Queue.{Queue}
use Rattle.twoparty.specs.declared.Queue.TheVariants as Q
use Rattle.radio.specs.declared.Radio.{Radio}
use Rattle.twoparty.specs.declared.TwoParty.{TwoParty}
use Rattle.run.proofs.Machines.{station_same, agreement_same, Stays, receive_stays, agreement_stays, segment_silent}
use Rattle.radio.proofs.Told.{told, bare_told, flown_none, told_past}
use Rattle.twoparty.proofs.Passing.{passing_at}
use Rattle.radio.proofs.Tuning.{Unnamed, Tuned, tuned_next, tuned_sent}
use Rattle.asdu.specs.declared.FtError.{FtError}

-- ---- the queue

module _ (p : Provider) (file : List ℕ) where
  -- what the Provider's answer puts into it
  module _ (damage : List ℕ) (count : ℕ) (r : Radio) (radio : List Noise) (tuned : Tuned damage count r radio) where
    one : (f : Frame) → on_the_way radio false (bare f ∷ []) ≡ told false (bare f ∷ [])
    one f = flown_none (bare f ∷ []) ∙ sym (bare_told false f)

    reply_sent : (reply : Reply) → on_the_way radio (is_sending (PA.Running reply)) (replies p file reply) ≡ told (is_damaged r reply) (replies p file reply)
    unfolding is_damaged when
    reply_sent Nothing = refl
    reply_sent FileReady = one _
    reply_sent (SectionReady nos) = one _
    reply_sent (Section nos) =
        rw (payloads_behind p nos (close_frame p nos 3 (octets_of p file nos)) refl (segments (limit_of p) (octets_of p file nos)))
        (tuned_sent damage count p nos (close_frame p nos 3 (octets_of p file nos)) (segments (limit_of p) (octets_of p file nos)) r radio tuned)
    reply_sent (FileClose nos) = one _

    answer_sent : (o : Receiver) (a : ProviderAnswer) → on_the_way radio (is_sending a) (provider_sends p file a) ≡ queue_of p file o (replied r a)
    answer_sent o (PA.Running reply) = reply_sent reply
    answer_sent o PA.Complete = refl
    answer_sent o (PA.Deactivated scq) = refl
    answer_sent o (PA.FileRejected afq) = refl
    answer_sent o (PA.Refused cause mirror) = refl
    answer_sent o (PA.Err e) = refl

  -- what the Receiver's does: it sends nothing, or there is no rest
  data Apart (rest : List Passing) (b : Bool) : Type 0 where
    silent : b ≡ false → Apart rest b
    last : rest ≡ [] → Apart rest b

  chosen : (r r' : Receiver) (rest : Queue) (b : Bool) → queue_of p file r rest ≡ queue_of p file r' rest → Apart (queue_of p file r rest) b
      → queue_of p file r rest ++ map (untouched by_receiver) (packets_of (when b (Some (awaited r')) None)) ≡ queue_of p file r' (when b Q.Receiver rest)
  unfolding when
  chosen r r' rest false same h = append-nil (queue_of p file r rest) ∙ same
  chosen r r' rest true same (silent e) = absurd (true≢false e)
  chosen r r' rest true same (last e) = rw e

  asked_sent : (r : Receiver) (rest : Queue) (s : ReceiverStep) → queue_of p file r rest ≡ queue_of p file s.receiver rest → Apart (queue_of p file r rest) (sends s.answer)
      → queue_of p file r rest ++ map (untouched by_receiver) (receiver_sends s) ≡ queue_of p file s.receiver (asked rest s.answer)
  unfolding to_send asked
  asked_sent r rest s same apart = chosen r s.receiver rest (sends s.answer) same apart

  -- ---- a frame of a reply is its last, or a segment

  data Place (reply : Reply) (i : ℕ) : Type 0 where
    at_end : length (replies p file reply) ≤ suc i → Place reply i
    within : (nos : Nos) (o : List ℕ) → (packet_at p file reply i).frame ≡ segment_frame p nos o → Place reply i

  abbrev frame_in : Result Frame FtError → Frame
  frame_in (Ok f) = f
  frame_in (Err e) = file_ready p

  place : file_agrees p file ≡ true → (reply : Reply) (i : ℕ) → i < length (replies p file reply) → Place reply i
  unfolding reply_frame section_frame when
  place e Nothing i h = at_end (omega arith)
  place e FileReady i h = at_end (omega arith)
  place e (SectionReady nos) i h = at_end (omega arith)
  place e (FileClose nos) i h = at_end (omega arith)
  place e (Section nos) i h = by_test (dec_lt i (segment_count p file nos))
    where
      by_test : Dec (i < segment_count p file nos) → Place (Section nos) i
      by_test (yes lt) =
          within nos (segment_of p file nos i)
          (sym (ap frame_in (frame_is p file e (Section nos) i h)) ∙ simp (e, lt-ltb i (segment_count p file nos) lt))
      by_test (no ge) = at_end (omega (arith, count_is p file (Section nos)))

-- ---- one step

module _ (file damage : List ℕ) (ca count : ℕ) where
  -- the exchange that a record stands for
  abbrev pub stands_for : TwoParty → List ℕ → List Noise → List Passing → ProviderAnswer → ReceiverAnswer → Exchange
  stands_for t store radio ps u v =
      record {
        queue = queue_of t.provider file t.receiver t.queue;
        provider = t.provider;
        receiver = t.receiver;
        store = store;
        radio = radio;
        passed = ps;
        provider_said = u;
        receiver_said = v;
      }

  -- the Provider is of this file, the store holds the Receiver's octets, and both stations have this common address and no originator
  pub record Fits (t : TwoParty) (store : List ℕ) : Type 0 where
    pub agrees : file_agrees t.provider file ≡ true
    pub holds : store_agrees t.receiver store ≡ true
    pub provider_ca : t.provider.procedure.ca ≡ ca
    pub provider_org : t.provider.procedure.org ≡ 0
    pub receiver_ca : t.receiver.procedure.ca ≡ ca
    pub receiver_org : t.receiver.procedure.org ≡ 0

  -- the exchange after one more frame, x
  pub record Next (t : TwoParty) (store : List ℕ) (radio : List Noise) (ps : List Passing) (u : ProviderAnswer) (v : ReceiverAnswer) (x : Passing) : Type 0 where
    pub radio' : List Noise
    pub u' : ProviderAnswer
    pub v' : ReceiverAnswer
    pub does : step file (own_headers ca) (stands_for t store radio ps u v)
        ≡ stands_for (advanced t file damage store).party (advanced t file damage store).store radio' (ps ++ (x ∷ [])) u' v'
    pub tuned : Tuned damage count (advanced t file damage store).party.radio radio'
    pub fits : Fits (advanced t file damage store).party (advanced t file damage store).store

  pub data Sight (t : TwoParty) (store : List ℕ) (radio : List Noise) (ps : List Passing) (u : ProviderAnswer) (v : ReceiverAnswer) : Type 0 where
    over : queue_of t.provider file t.receiver t.queue ≡ [] → Sight t store radio ps u v
    going : (x : Passing) (rest : List Passing) → queue_of t.provider file t.receiver t.queue ≡ x ∷ rest → Next t store radio ps u v x → Sight t store radio ps u v

  module _ (few : count ≤ 255) (unnamed : Unnamed damage count) (p : Provider) (r : Receiver) (w : Radio)
      (store : List ℕ) (radio : List Noise) (ps : List Passing) (u : ProviderAnswer) (v : ReceiverAnswer)
      (tuned : Tuned damage count w radio) where
    abbrev with_queue : Queue → TwoParty
    with_queue q = record { provider = p; receiver = r; queue = q; radio = w }

    -- the Provider is handed a frame
    provider_moves : (q : Queue) (x : Passing) (s : ProviderStep)
        → provided file (stands_for (with_queue q) store radio ps u v) x [] s
        ≡ stands_for (after_provider (with_queue q) damage s) store (sendings_left (is_sending s.answer) radio) (ps ++ (x ∷ [])) s.answer v
    provider_moves q x s =
        ap (λ (z : List Passing).
        record {
          queue = z;
          provider = s.provider;
          receiver = r;
          store = store;
          radio = sendings_left (is_sending s.answer) radio;
          passed = ps ++ (x ∷ []);
          provider_said = s.answer;
          receiver_said = v;
        }) (answer_sent s.provider file damage count w radio tuned r s.answer)

    still_tuned : (b : Bool) → Tuned damage count (when b (after_sending damage w) w) (sendings_left b radio)
    unfolding when
    still_tuned true = tuned_next damage count few unnamed w radio tuned
    still_tuned false = tuned

    asks_on : Fits (with_queue Q.Receiver) store → Next (with_queue Q.Receiver) store radio ps u v (untouched by_receiver (bare (awaited r)))
    unfolding advanced
    asks_on fits =
        let f : Frame = awaited r in
        let s : ProviderStep = provide p file (header_by r.procedure f) None (D.Frame f) [] in
        let same : s.provider.procedure ≡ p.procedure = station_same p file (header_by r.procedure f) None (D.Frame f) [] in
        record {
          radio' = sendings_left (is_sending s.answer) radio;
          u' = s.answer;
          v' = v;
          does = rw (← fits.receiver_ca, ← fits.receiver_org) (provider_moves Q.Receiver (untouched by_receiver (bare f)) s);
          tuned = still_tuned (is_sending s.answer);
          fits =
              record {
                agrees = agreement_same p file (header_by r.procedure f) None (D.Frame f) [] ∙ fits.agrees;
                holds = fits.holds;
                provider_ca = ap (λ (z : FileTransferProcedure). z.ca) same ∙ fits.provider_ca;
                provider_org = ap (λ (z : FileTransferProcedure). z.org) same ∙ fits.provider_org;
                receiver_ca = fits.receiver_ca;
                receiver_org = fits.receiver_org;
              };
        }

    -- the Receiver is
    receiver_moves : (q rest : Queue) (x : Passing) (o : Outcome) → queue_of p file r rest ≡ queue_of p file o.step.receiver rest
        → Apart p file (queue_of p file r rest) (sends o.step.answer)
        → taken (stands_for (with_queue q) store radio ps u v) x (queue_of p file r rest) o
        ≡ stands_for (after_receiver (with_queue q) rest o).party (after_receiver (with_queue q) rest o).store radio (ps ++ (x ∷ [])) u o.step.answer
    receiver_moves q rest x o same apart =
        ap (λ (z : List Passing).
        record {
          queue = z;
          provider = p;
          receiver = o.step.receiver;
          store = o.store;
          radio = radio;
          passed = ps ++ (x ∷ []);
          provider_said = u;
          receiver_said = o.step.answer;
        }) (asked_sent p file r rest o.step same apart)

    module _ (reply : Reply) (i : ℕ) (d : Bool) where
      -- the rest of the reply, from its frame i on
      abbrev replying : TwoParty
      replying = with_queue (Q.Provider reply i d)

      abbrev rest : Queue
      rest = Q.Provider reply (i + 1) d

      abbrev x : Packet
      x = packet_at p file reply i

      abbrev outcome : Outcome
      outcome = receive r store (header_of ca 0 x.frame) None (D.Frame x.frame) (arriving d i x.payload)

      apart : Place p file reply i → Apart p file (queue_of p file r rest) (sends outcome.step.answer)
      apart (at_end h) = last (told_past d (i + 1) (replies p file reply) (omega arith))
      apart (within nos o is) = silent (rw is (segment_silent r store (arriving d i x.payload) _ _ _ _ _))

      module _ (fits : Fits replying store) (h : i < length (replies p file reply)) where
        payload_is : payload_of file (reply_payload p file reply i) ≡ x.payload
        payload_is = (replies_agree p file reply fits.agrees).payload i (none p file) h

        moves : advanced replying file damage store ≡ after_receiver replying rest outcome
        unfolding advanced
        moves = rw (frame_is p file fits.agrees reply i h, payload_is, fits.provider_ca, fits.provider_org)

        heard : Stays r outcome
        heard = receive_stays r store fits.holds (header_of ca 0 x.frame) None (D.Frame x.frame) (arriving d i x.payload)

        tells : Next replying store radio ps u v (passing_at d i x)
        tells =
            record {
              radio' = radio;
              u' = u;
              v' = outcome.step.answer;
              does =
                  rw moves
                  (ap (λ (z : List Passing). step_on file (own_headers ca) (stands_for replying store radio ps u v) z) (first_is p file r reply i d h)
                  ∙ receiver_moves (Q.Provider reply i d) rest (passing_at d i x) outcome refl (apart (place p file fits.agrees reply i h)));
              tuned = rw moves tuned;
              fits =
                  rw moves
                  (record {
                    agrees = fits.agrees;
                    holds = agreement_stays r store fits.holds outcome heard;
                    provider_ca = fits.provider_ca;
                    provider_org = fits.provider_org;
                    receiver_ca = ap (λ (z : FileTransferProcedure). z.ca) heard.station ∙ fits.receiver_ca;
                    receiver_org = ap (λ (z : FileTransferProcedure). z.org) heard.station ∙ fits.receiver_org;
                  });
            }

      reply_sight : Fits replying store → Dec (i < length (replies p file reply)) → Sight replying store radio ps u v
      reply_sight fits (yes lt) = going (passing_at d i x) (queue_of p file r rest) (first_is p file r reply i d lt) (tells fits lt)
      reply_sight fits (no ge) = over (told_past d i (replies p file reply) (omega arith))

    sight_of : (q : Queue) → Fits (with_queue q) store → Sight (with_queue q) store radio ps u v
    sight_of Q.Empty fits = over refl
    sight_of Q.Receiver fits = going (untouched by_receiver (bare (awaited r))) [] refl (asks_on fits)
    sight_of (Q.Provider reply i d) fits = reply_sight reply i d fits (dec_lt i (length (replies p file reply)))

  -- the Receiver's start
  pub start_stands : (p : Provider) (r : Receiver) (store : List ℕ) (radio : List Noise)
      → begun p r store radio ≡ stands_for (started_party p damage (started r store)) store radio [] (PA.Running Nothing) (started r store).answer
  start_stands p r store radio =
      ap (λ (z : List Passing).
      record {
        queue = z;
        provider = p;
        receiver = (started r store).receiver;
        store = store;
        radio = radio;
        passed = [];
        provider_said = PA.Running Nothing;
        receiver_said = (started r store).answer;
      }) (asked_sent p file r Q.Empty (started r store) refl (last refl))

  -- a record that stands for an exchange: no frame is left of both, or both go on by one
  pub sight : (few : count ≤ 255) (unnamed : Unnamed damage count) (t : TwoParty) (store : List ℕ) (radio : List Noise) (ps : List Passing) (u : ProviderAnswer) (v : ReceiverAnswer)
      → Tuned damage count t.radio radio → Fits t store → Sight t store radio ps u v
  sight few unnamed t store radio ps u v tuned fits = sight_of few unnamed t.provider t.receiver t.radio store radio ps u v tuned t.queue fits
