-- Nothing is freed that the desk does not hold: what stands between the two machines after every event.
use Prim.Native.Nat.{ℕ, ◌≤◌}
use mathlib.Core.Path.{◌≡◌, refl, ◌∙◌}
use mathlib.Core.Logic.{⊎_elim, inl, inr}
use mathlib.Core.Bool.{Bool, true, false, true≢false}
use mathlib.Core.List.{List, [], ◌∷◌, ◌++◌}
use lib.ListN.{length, take}
use Rattle.asdu.specs.declared.Nof.{Nof}
use Rattle.frame.specs.declared.Frame.{Frame}
use Rattle.checksum.specs.Checksum.{checksum}
use Rattle.ft.specs.declared.Received.{Received}
use Rattle.ft.specs.declared.Received.TheVariants as D
use Rattle.provide.specs.Replies.{announced}
use Rattle.provide.specs.declared.Provider.{Provider}
use Rattle.provide.specs.declared.ProviderStep.{ProviderStep}
use Rattle.requests.specs.declared.ProviderAnswer.{ProviderAnswer}
use Rattle.requests.specs.declared.ProviderAnswer.TheVariants as P
use Rattle.provide.proofs.Making as PM
use Rattle.receive.specs.Record.{started}
use Rattle.receive.specs.Answers.{Outcome, leaving}
use Rattle.receive.specs.declared.Receiver.{Receiver}
use Rattle.receive.specs.declared.ReceiverAnswer.{ReceiverAnswer}
use Rattle.receive.specs.declared.ReceiverAnswer.TheVariants as R
use Rattle.receive.proofs.Making as RM
use Rattle.exchange.specs.Lines.{stated_sum}
use Rattle.history.specs.Calls.{accepts_file, closes_file, Input, provides, receives, frames_by_provider, frames_by_receiver, Among, ClosedWith}
use Rattle.history.specs.Events.{Completion, provider_completes, receiver_completes, provider_completion, receiver_completion, Event, starts, announces, to_provider, to_receiver, State, receiver_called, announced_frames, next, state_after, Throughout}
use Rattle.history.specs.Held.{History, initial, reached, AcceptanceSent, CloseSent, Held, NothingFreedUnheld}
use Rattle.history.proofs.Choosing.{apart}
use Rattle.history.proofs.Receiving as Rec
use Rattle.history.proofs.Providing as Pro

-- what holds of the frames of two lists
joined_none : (fs gs : List Frame) → Rec.NoAcceptance fs → Rec.NoAcceptance gs → Rec.NoAcceptance (fs ++ gs)
joined_none fs gs h k object name f m e = ⊎_elim (λ l. h object name f l e) (λ l. k object name f l e) (apart f fs gs m)

joined_stated : (sum : ℕ) (fs gs : List Frame) → Pro.Stated sum fs → Pro.Stated sum gs → Pro.Stated sum (fs ++ gs)
joined_stated sum fs gs h k object name f m e = ⊎_elim (λ l. h object name f l e) (λ l. k object name f l e) (apart f fs gs m)

module _ (object : ℕ) (name : Nof) (file : List ℕ) where
  -- a Receiver that completed with n octets still has them
  record Has (r : Receiver) (store : List ℕ) (n : ℕ) : Type 0 where
    done : r.done ≡ true
    kept : r.kept ≡ n
    whole : n ≤ length store
    sum : checksum (take n store) ≡ checksum file

  -- by the completions so far: none, and the Receiver has sent no AFQ 1; the Receiver's; the Receiver's and then the Provider's
  abbrev Order : Bool → Receiver → List ℕ → List Frame → List Completion → Type 0
  Order over r store fs [] = Rec.NoAcceptance fs
  Order over r store fs (provider_completes ∷ cs) = ⊥
  Order over r store fs (receiver_completes n ∷ []) = Has r store n
  Order over r store fs (receiver_completes n ∷ receiver_completes k ∷ cs) = ⊥
  Order over r store fs (receiver_completes n ∷ provider_completes ∷ []) = Has r store n × (over ≡ true)
  Order over r store fs (receiver_completes n ∷ provider_completes ∷ c ∷ cs) = ⊥

  record Stands (s : State) : Type 0 where
    provider_object : s.provider.ioa ≡ object
    provider_name : s.provider.nof ≡ name
    receiver_object : s.receiver.ioa ≡ object
    receiver_name : s.receiver.nof ≡ name
    stated : Pro.Stated (checksum file) s.from_provider
    order : Order s.provider.done s.receiver s.store s.from_receiver s.completions

  -- ---- a call of the Provider

  module _ (p : Provider) (x : Input) (r : Receiver) (store : List ℕ) (fs : List Frame) where
    abbrev t : ProviderStep
    t = provides p file x

    -- the first completion is not the Provider's
    not_first : (a : ProviderAnswer) → Pro.AsAnswered p x.received t a
        → ((f : Frame) → x.received ≡ D.Frame f → accepts_file p.ioa p.nof f ≡ true → Among f fs)
        → Rec.NoAcceptance fs → Order t.provider.done r store fs (provider_completion a)
    not_first (P.Running y) d genuine h = h
    not_first P.Complete d genuine h = absurd (h p.ioa p.nof d.frame (genuine d.frame d.handed d.acknowledgement) d.acknowledgement)
    not_first (P.Deactivated q) d genuine h = h
    not_first (P.FileRejected q) d genuine h = h
    not_first (P.Refused cause mirror) d genuine h = h
    not_first (P.Err e) d genuine h = h

    second : (n : ℕ) (a : ProviderAnswer) → Pro.AsAnswered p x.received t a → Has r store n
        → Order t.provider.done r store fs (receiver_completes n ∷ provider_completion a)
    second n (P.Running y) d h = h
    second n P.Complete d h = (h, d.done)
    second n (P.Deactivated q) d h = h
    second n (P.FileRejected q) d h = h
    second n (P.Refused cause mirror) d h = h
    second n (P.Err e) d h = h

    provider_order : (cs : List Completion) → ((f : Frame) → x.received ≡ D.Frame f → accepts_file p.ioa p.nof f ≡ true → Among f fs)
        → Order p.done r store fs cs → Order t.provider.done r store fs (cs ++ provider_completion t.answer)
    provider_order [] genuine h = not_first t.answer (Pro.provides_right p file x).right genuine h
    provider_order (provider_completes ∷ cs) genuine h = absurd h
    provider_order (receiver_completes n ∷ []) genuine h = second n t.answer (Pro.provides_right p file x).right h
    provider_order (receiver_completes n ∷ receiver_completes k ∷ cs) genuine h = absurd h
    provider_order (receiver_completes n ∷ provider_completes ∷ []) genuine h =
        let still = Pro.provides_still p file x h.1 in
        rw still.none (h.0, still.done)
    provider_order (receiver_completes n ∷ provider_completes ∷ c ∷ cs) genuine h = absurd h

  -- ---- a call of the Receiver, the start among them

  module _ (r : Receiver) (store : List ℕ) (received : Received) (o : Outcome) (right : Rec.Right r store received o)
      (still : r.done ≡ true → Rec.Still r store o) (over : Bool) (fs : List Frame) where
    module _ (genuine : (f : Frame) → received ≡ D.Frame f → closes_file r.ioa r.nof f ≡ true → stated_sum f ≡ checksum file) where
      has : (n : ℕ) → ClosedWith r store received n o → Has o.step.receiver o.store n
      has n d =
          record {
            done = d.done;
            kept = d.kept;
            whole = rw (d.stored, d.named) d.whole;
            sum = rw (d.stored, d.named) (d.sum ∙ genuine d.frame d.handed d.close);
          }

      -- the first completion is the Receiver's
      first : (a : ReceiverAnswer) → Rec.AsAnswered r store received o a → Rec.NoAcceptance fs
          → Order over o.step.receiver o.store (fs ++ frames_by_receiver o.step) (receiver_completion a)
      first R.Running d h = joined_none fs (frames_by_receiver o.step) h d
      first R.Send d h = joined_none fs (frames_by_receiver o.step) h d
      first (R.Complete n) d h = has n d
      first (R.FileNotReady frq) d h = joined_none fs (frames_by_receiver o.step) h d
      first (R.SectionNotReady nos srq) d h = joined_none fs (frames_by_receiver o.step) h d
      first (R.FileChecksum expected got) d h = joined_none fs (frames_by_receiver o.step) h d
      first (R.UnknownLsq lsq) d h = joined_none fs (frames_by_receiver o.step) h d
      first (R.Refused cause mirror) d h = joined_none fs (frames_by_receiver o.step) h d
      first (R.Err e) d h = joined_none fs (frames_by_receiver o.step) h d

      still_has : (n : ℕ) → Has r store n → Has o.step.receiver o.store n
      still_has n h =
          let s = still h.done in
          record { done = s.done; kept = s.kept ∙ h.kept; whole = rw s.stored h.whole; sum = rw s.stored h.sum }

      receiver_order : (cs : List Completion) → Order over r store fs cs
          → Order over o.step.receiver o.store (fs ++ frames_by_receiver o.step) (cs ++ receiver_completion o.step.answer)
      receiver_order [] h = first o.step.answer right.right h
      receiver_order (provider_completes ∷ cs) h = absurd h
      receiver_order (receiver_completes n ∷ []) h = rw (still h.done).none (still_has n h)
      receiver_order (receiver_completes n ∷ receiver_completes k ∷ cs) h = absurd h
      receiver_order (receiver_completes n ∷ provider_completes ∷ []) h = rw (still h.0.done).none (still_has n h.0, h.1)
      receiver_order (receiver_completes n ∷ provider_completes ∷ c ∷ cs) h = absurd h

  -- ---- one event

  receiver_called_lem : (s : State) (received : Received) (o : Outcome) → Stands s → Rec.Right s.receiver s.store received o
      → (s.receiver.done ≡ true → Rec.Still s.receiver s.store o)
      → ((f : Frame) → received ≡ D.Frame f → closes_file object name f ≡ true → Among f s.from_provider) → Stands (receiver_called s o)
  receiver_called_lem s received o h right still genuine =
      record {
        provider_object = h.provider_object;
        provider_name = h.provider_name;
        receiver_object = right.object ∙ h.receiver_object;
        receiver_name = right.name ∙ h.receiver_name;
        stated = h.stated;
        order =
            receiver_order s.receiver s.store received o right still s.provider.done s.from_receiver
            (λ f is close.
            let ours : closes_file object name f ≡ true = rw (h.receiver_object, h.receiver_name) at close in
            h.stated object name f (genuine f is ours) ours)
            s.completions h.order;
      }

  provider_called_lem : (s : State) (x : Input) → Stands s → AcceptanceSent object name s (to_provider x) → Stands (next file s (to_provider x))
  provider_called_lem s x h genuine =
      let right = Pro.provides_right s.provider file x in
      record {
        provider_object = right.object ∙ h.provider_object;
        provider_name = right.name ∙ h.provider_name;
        receiver_object = h.receiver_object;
        receiver_name = h.receiver_name;
        stated = joined_stated (checksum file) s.from_provider (frames_by_provider file (provides s.provider file x)) h.stated (Pro.provider_closes_only s.provider file x);
        order =
            provider_order s.provider x s.receiver s.store s.from_receiver s.completions
            (λ f is accepts. genuine f is (rw (h.provider_object, h.provider_name) at accepts)) h.order;
      }

  one_event : (s : State) (e : Event) → Stands s → AcceptanceSent object name s e → CloseSent object name s e → Stands (next file s e)
  one_event s starts h a c =
      receiver_called_lem s D.Undecodable (leaving s.store (started s.receiver s.store)) h (Rec.starts_right s.receiver s.store D.Undecodable)
      (Rec.starts_still s.receiver s.store) (λ f is close. let z : true ≡ false = cc in absurd (true≢false z))
  one_event s announces h a c =
      record {
        provider_object = h.provider_object;
        provider_name = h.provider_name;
        receiver_object = h.receiver_object;
        receiver_name = h.receiver_name;
        stated = joined_stated (checksum file) s.from_provider (announced_frames (announced s.provider file)) h.stated (Pro.announced_states (checksum file) s.provider file);
        order = h.order;
      }
  one_event s (to_provider x) h a c = provider_called_lem s x h a
  one_event s (to_receiver x) h a c =
      receiver_called_lem s x.received (receives s.receiver s.store x) h (Rec.receives_right s.receiver s.store x)
      (λ over. Rec.receives_still s.receiver s.store over x) c

  all_events : (es : List Event) (s : State) → Stands s → Throughout (AcceptanceSent object name) file s es → Throughout (CloseSent object name) file s es
      → Stands (state_after file s es)
  all_events [] s h a c = h
  all_events (e ∷ es) s h a c = all_events es (next file s e) (one_event s e h a.0 c.0) a.1 c.1

-- ---- the theorem

module _ (h : History) where
  made_stands : Stands h.object h.name h.file (initial h)
  made_stands =
      let p = (PM.made h.provider_station h.object h.name (length h.file) h.provider h.provider_is_made).fresh in
      let r = (RM.made h.receiver_station h.object h.name h.receiver h.receiver_is_made).fresh in
      record {
        provider_object = rw p;
        provider_name = rw p;
        receiver_object = rw r;
        receiver_name = rw r;
        stated = Pro.none_states (checksum h.file);
        order = λ object name f m e. m;
      }

  held_by : (cs : List Completion) → (reached h).completions ≡ cs
      → Order h.object h.name h.file (reached h).provider.done (reached h).receiver (reached h).store (reached h).from_receiver cs
      → Among provider_completes cs → Held h
  held_by [] is order m = absurd m
  held_by (provider_completes ∷ cs) is order m = absurd order
  held_by (receiver_completes n ∷ []) is order (inl e) = let z : true ≡ false = cc in absurd (true≢false z)
  held_by (receiver_completes n ∷ []) is order (inr m) = absurd m
  held_by (receiver_completes n ∷ receiver_completes k ∷ cs) is order m = absurd order
  held_by (receiver_completes n ∷ provider_completes ∷ []) is order m =
      record { octets = n; order = is; kept = order.0.kept; whole = order.0.whole; sum = order.0.sum }
  held_by (receiver_completes n ∷ provider_completes ∷ c ∷ cs) is order m = absurd order

pub nothing_freed_unheld : NothingFreedUnheld
nothing_freed_unheld h unforged m =
    held_by h (reached h).completions refl
    (all_events h.object h.name h.file h.events (initial h) (made_stands h) unforged.acceptances unforged.closes).order m
