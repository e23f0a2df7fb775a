-- The exchange's steps, one lemma for each kind of frame. Each is told backwards: where the exchange ends well after the step, it does so before it.
use Prim.Native.Nat.{ℕ, zero, suc, ◌+◌, ◌≤◌}
use mathlib.Core.Path.{◌≡◌, refl, sym, ap, ◌∙◌, subst}
use mathlib.Core.Bool.{true, false}
use mathlib.Core.List.{List, [], ◌∷◌, ◌++◌, append-nil}
use native.Mathlib.Nat.{le_trans}
use native.Mathlib.Omega.{arith}
use lib.Dec.{leb}
use lib.ListN.{length, drop, length-append}
use borrow.Author.Tests.{le-leb, eq-eqb}
use Rattle.std.specs.Prelude.{Option}
use Rattle.laws.specs.When.{when}
use Rattle.asdu.specs.Sizes.{segment_limit}
use Rattle.asdu.specs.Elements.{los_in_range}
use Rattle.asdu.specs.declared.Nos.{Nos}
use Rattle.frame.specs.declared.Frame.{Frame}
use Rattle.frame.specs.Frames.{receiver_side, ioa_of}
use Rattle.frame.specs.Ranges.{segment_in_range, values_in_range}
use Rattle.frame.specs.Answers.{answers_to}
use Rattle.provide.specs.Replies.{bare, segment_packet, replies}
use Rattle.provide.specs.Requests.{replying, on_sc, on_ack}
use Rattle.requests.specs.declared.Reply.{Reply}
use Rattle.provide.specs.declared.ProviderStep.{ProviderStep}
use Rattle.requests.specs.declared.ProviderAnswer.{ProviderAnswer}
use Rattle.requests.specs.declared.ProviderAnswer.TheVariants as PA
use Rattle.provide.proofs.Building.{limit_most}
use Rattle.receive.specs.Record.{frame_of}
use Rattle.receive.specs.Answers.{on_answered, to_send}
use Rattle.receive.specs.declared.Sent.{Sent}
use Rattle.receive.specs.declared.Sent.TheVariants as S
use Rattle.receive.specs.declared.ReceiverAnswer.{ReceiverAnswer}
use Rattle.receive.specs.declared.ReceiverAnswer.TheVariants as Ra
use Rattle.receive.proofs.Facts.{segment_taken}
use Rattle.exchange.specs.Exchange.{Side, by_provider, by_receiver, Fate, lost, arrives, Passing, untouched, is_section, Noise, sendings_left, on_the_way, Exchange, provided, taken, step, run, one_by, sent_by}
use Rattle.exchange.specs.Transfer.{Transfer, Transferred, provider_frames, receiver_frames}
use Rattle.exchange.specs.Order.{MeetsOwn, AnswersInOrder, InOrder}
use Rattle.exchange.proofs.Hearing.{P, R, hears_sc, hears_ack, receiver_hears}
use Rattle.exchange.proofs.Asking.{Asks, AsksMore, asks_more}

-- t' has p more frames of the Provider's than t, and r more of the Receiver's
abbrev Sends : List Passing → List Passing → ℕ → ℕ → Type 0
Sends t t' p r = (sent_by by_provider t' ≡ sent_by by_provider t + p) × (sent_by by_receiver t' ≡ sent_by by_receiver t + r)

-- and these ask for so many sendings of section n, and for none of a later one
abbrev pub Adds : ℕ → List Passing → List Passing → ℕ → ℕ → ℕ → Type 0
Adds n t t' p r asked = Sends t t' p r × AsksMore n t t' asked

sent_more : (s : Side) (t : List Passing) (x : Passing) → sent_by s (t ++ (x ∷ [])) ≡ sent_by s t + one_by s x.sender
sent_more s [] x = omega arith
sent_more s (y ∷ t) x = omega (arith, sent_more s t x)

pub sends : (t : List Passing) (x : Passing) → Sends t (t ++ (x ∷ [])) (one_by by_provider x.sender) (one_by by_receiver x.sender)
sends t x = (sent_more by_provider t x, sent_more by_receiver t x)

adds : (n : ℕ) (t : List Passing) (x : Passing) (asked : ℕ) → Asks n x.sender x.packet.frame asked
    → Adds n t (t ++ (x ∷ [])) (one_by by_provider x.sender) (one_by by_receiver x.sender) asked
adds n t x asked a = (sends t x, asks_more n t x asked a)

pub one_side : (s : Side) → one_by by_provider s + one_by by_receiver s ≡ 1
one_side by_provider = refl
one_side by_receiver = refl

module _ (m : Transfer) where
  -- along k steps the sendings are in order
  abbrev pub Along : ℕ → Exchange → Type 0
  Along zero e = Unit {0}
  Along (suc k) e = InOrder m e × Along k (step m.file m.headers e)

  -- the exchange ends well once all frames have passed
  abbrev pub Ends : Exchange → Type 0
  Ends e =
      (k : ℕ) × (k + (sent_by by_provider e.passed + sent_by by_receiver e.passed) ≡ provider_frames m + receiver_frames m)
      × Along k e × Transferred m (run m.file m.headers k e)

  -- an exchange under way: the store is what is accepted, what is under way, and the rest; t was passed
  abbrev pub Ex : List Passing → Sent → Option ℕ → List ℕ → List ℕ → List ℕ → List Noise → List Passing → ProviderAnswer → ReceiverAnswer → Exchange
  Ex q s l acc sec rest radio t u v =
      record {
        queue = q;
        provider = P m;
        receiver = R m s l (length acc) (length sec);
        store = acc ++ (sec ++ rest);
        radio = radio;
        passed = t;
        provider_said = u;
        receiver_said = v;
      }

  -- what the Receiver sends, its frame, and that frame on its way
  abbrev pub sc : ℕ → Nos → Sent
  sc action nos = S.Request action nos

  abbrev pub ack : ℕ → Nos → Sent
  ack action nos = S.Acknowledgement action nos

  abbrev pub asking : Sent → Frame
  asking s = frame_of m.object m.name s

  abbrev pub ask : Sent → Passing
  ask s = untouched by_receiver (bare (asking s))

  abbrev pub tell : Frame → Passing
  tell f = untouched by_provider (bare f)

  -- a segment on its way, and what becomes of it
  abbrev pub hit : Nos → List ℕ → Fate → Passing
  hit nos o f = record { sender = by_provider; packet = segment_packet (P m) nos o; fate = f }

  -- what the Provider's reply puts into the queue, and the sendings to come after it
  abbrev pub queued : Reply → List Noise → List Passing
  queued r radio = on_the_way radio (is_section r) (replies (P m) m.file r)

  abbrev pub left : Reply → List Noise → List Noise
  left r radio = sendings_left (is_section r) radio

  pub back : (x : Passing) (e e' : Exchange) → InOrder m e → step m.file m.headers e ≡ e' → e'.passed ≡ e.passed ++ (x ∷ []) → Ends e' → Ends e
  back x e e' own does kept (k, frames, along, ends) = (
    suc k,
    omega (arith, rw kept at frames, sends e.passed x, one_side x.sender),
    (own, subst (λ (z : Exchange). Along k z) (sym does) along),
    subst (λ (z : Exchange). Transferred m (run m.file m.headers k z)) (sym does) ends,
  )

  -- each step, with the sendings of section n that its frame asks for
  module _ (n : ℕ) (s : Sent) (l : Option ℕ) (acc sec rest : List ℕ) where
    room : length acc + length sec ≤ length (acc ++ (sec ++ rest))
    room = simp length-append (omega arith)

    module _ (radio : List Noise) (t : List Passing) (u : ProviderAnswer) (v : ReceiverAnswer) where
      -- the Provider answers a request that keeps it running
      pub asked_sc : (nos : Nos) (action : ℕ) (r : Reply) (asked : ℕ) → leb action 15 ≡ true
          → on_sc (P m) nos (record { action = action; error = 0 }) ≡ replying (P m) r → MeetsOwn m t radio r
          → Asks n by_receiver (asking (sc action nos)) asked
          → ((t' : List Passing) → Adds n t t' 0 1 asked → Ends (Ex (queued r radio) s l acc sec rest (left r radio) t' (PA.Running r) v))
          → Ends (Ex (ask (sc action nos) ∷ []) s l acc sec rest radio t u v)
      asked_sc nos action r asked small does own asks k =
          let heard = hears_sc m (m.headers t (ask (sc action nos))) nos action small (m.sound t (ask (sc action nos))) ∙ does in
          back (ask (sc action nos)) _ _ (subst (λ (z : ProviderStep). AnswersInOrder m t radio z.answer) (sym heard) own)
          (ap (provided m.file (Ex (ask (sc action nos) ∷ []) s l acc sec rest radio t u v) (ask (sc action nos)) [])
          heard) refl
          (k _ (adds n t (ask (sc action nos)) asked asks))

      -- or an acknowledgement
      pub asked_ack : (nos : Nos) (action : ℕ) (r : Reply) (asked : ℕ) → leb action 15 ≡ true
          → on_ack (P m) nos (record { action = action; error = 0 }) ≡ replying (P m) r → MeetsOwn m t radio r
          → Asks n by_receiver (asking (ack action nos)) asked
          → ((t' : List Passing) → Adds n t t' 0 1 asked → Ends (Ex (queued r radio) s l acc sec rest (left r radio) t' (PA.Running r) v))
          → Ends (Ex (ask (ack action nos) ∷ []) s l acc sec rest radio t u v)
      asked_ack nos action r asked small does own asks k =
          let heard = hears_ack m (m.headers t (ask (ack action nos))) nos action small (m.sound t (ask (ack action nos))) ∙ does in
          back (ask (ack action nos)) _ _ (subst (λ (z : ProviderStep). AnswersInOrder m t radio z.answer) (sym heard) own)
          (ap (provided m.file (Ex (ask (ack action nos) ∷ []) s l acc sec rest radio t u v) (ask (ack action nos)) [])
          heard) refl
          (k _ (adds n t (ask (ack action nos)) asked asks))

      -- the Receiver takes a frame that is no segment
      pub takes : (f : Frame) (q : List Passing) (e : List Passing → Exchange) → receiver_side f ≡ false → ioa_of f ≡ m.object
          → values_in_range m.provider_station.sizes f [] ≡ true → answers_to (asking s) f ≡ true
          → taken (Ex (tell f ∷ q) s l acc sec rest radio t u v) (tell f) q
          (on_answered (R m s l (length acc) (length sec)) (acc ++ (sec ++ rest)) [] f) ≡ e (t ++ (tell f ∷ []))
          → ((t' : List Passing) → Adds n t t' 1 0 0 → Ends (e t'))
          → Ends (Ex (tell f ∷ q) s l acc sec rest radio t u v)
      takes f q e side object fits right does k =
          back (tell f) _ (e (t ++ (tell f ∷ []))) tt
          (ap (taken (Ex (tell f ∷ q) s l acc sec rest radio t u v) (tell f) q)
          (receiver_hears m s l _ _ _ [] f _ room (m.sound t (tell f)) side object fits right) ∙ does) (sym (ap (λ (z : Exchange). z.passed) does))
          (k _ (adds n t (tell f) 0 (refl, refl)))

      -- a segment that is lost
      pub loses : (nos : Nos) (o : List ℕ) (q : List Passing)
          → ((t' : List Passing) → Adds n t t' 1 0 0 → Ends (Ex q s l acc sec rest radio t' u v))
          → Ends (Ex (hit nos o lost ∷ q) s l acc sec rest radio t u v)
      loses nos o q k = back (hit nos o lost) _ _ tt refl refl (k _ (adds n t (hit nos o lost) 0 (refl, refl)))

      -- one that arrives, as x
      pub gains : (nos : Nos) (o x : List ℕ) (q : List Passing) → 1 ≤ length o → length o ≤ segment_limit m.provider_station.sizes
          → length x ≡ length o → length o ≤ length rest → answers_to (asking s) (segment_packet (P m) nos o).frame ≡ true
          → ((t' : List Passing) → Adds n t t' 1 0 0 → Ends (Ex q s l acc (sec ++ x) (drop (length x) rest) radio t' u Ra.Running))
          → Ends (Ex (hit nos o (arrives x) ∷ q) s l acc sec rest radio t u v)
      unfolding segment_in_range los_in_range to_send when
      gains nos o x q some short alike fits right k =
          back (hit nos o (arrives x)) _ (Ex q s l acc (sec ++ x) (drop (length x) rest) radio (t ++ (hit nos o (arrives x) ∷ [])) u Ra.Running) tt
          (ap (taken (Ex (hit nos o (arrives x) ∷ q) s l acc sec rest radio t u v) (hit nos o (arrives x)) q)
          (receiver_hears m s l _ _ _ x _ _ room (m.sound t (hit nos o (arrives x))) refl refl
          (simp (
            alike,
            eq-eqb (length o) (length o) refl,
            le-leb 1 (length o) some,
            le-leb (length o) 240 (le_trans short (limit_most m.provider_station.sizes)),
            le-leb (length o) (segment_limit m.provider_station.sizes) short,
          )) right)
          ∙ simp (segment_taken (R m s l (length acc) (length sec)) acc sec rest refl refl x (omega arith), length-append sec x, append-nil)) refl
          (k _ (adds n t (hit nos o (arrives x)) 0 (refl, refl)))
