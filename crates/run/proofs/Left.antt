-- A run by what is left of its budget: over, one frame further, or its budget used up; and which of these it is, by the queue.
use Prim.Native.Nat.{ℕ, zero, suc, ◌+◌, ◌-◌, ◌<◌}
use mathlib.Core.Path.{◌≡◌, refl}
use mathlib.Core.Bool.{Bool, true, false}
use mathlib.Core.List.{List}
use native.Mathlib.Omega.{arith}
use Rattle.std.specs.Prelude.{Ok, Err}
use Rattle.laws.proofs.Decide.{whens}
use Rattle.laws.proofs.Choices.{either}
use Rattle.frame.specs.declared.Frame.{Frame}
use Rattle.provide.specs.Record.{file_agrees}
use Rattle.provide.specs.Replies.{reply_frame}
use Rattle.provide.specs.declared.Provider.{Provider}
use Rattle.requests.specs.declared.Reply.{Reply}
use Rattle.receive.specs.declared.Receiver.{Receiver}
use Rattle.radio.specs.declared.Radio.{Radio}
use Rattle.twoparty.specs.declared.TwoParty.{TwoParty}
use Rattle.twoparty.specs.declared.Queue.{Queue}
use Rattle.twoparty.specs.declared.Queue.TheVariants as Q
use Rattle.twoparty.specs.Party.{first, next_frame, still, to_provider, after_receiver, advanced}
use Rattle.delivery.specs.Handed.{receiver_handed}
use Rattle.run.specs.Loop.{is_nothing, is_over, whole, used_up, ran_on}

-- the record of these parts
abbrev pub standing : Provider → Receiver → Queue → Radio → TwoParty
standing p r q radio = record { provider = p; receiver = r; queue = q; radio = radio }

module _ (frames : ℕ) (t : TwoParty) (file damage store : List ℕ) where
  pub ran_over : (left : ℕ) → is_over t file ≡ true → ran_on left frames t file damage store ≡ record { result = whole t frames; store = store }
  unfolding used_up
  ran_over zero over = simp (whens, over)
  ran_over (suc left) over = simp (whens, over)

  pub ran_next : (budget : ℕ) → frames < budget → is_over t file ≡ false
      → ran_on (budget - frames) frames t file damage store
      ≡ ran_on (budget - (frames + 1)) (frames + 1) (advanced t file damage store).party file damage (advanced t file damage store).store
  ran_next budget some going = let one_less : budget - frames ≡ suc (budget - (frames + 1)) = omega arith in rw one_less (simp (whens, going))

  pub ran_none : (left : ℕ) → left ≡ 0 → ran_on left frames t file damage store ≡ record { result = used_up t file frames; store = store }
  ran_none left none = rw none refl

module _ (t : TwoParty) (file : List ℕ) where
  -- a transfer whose queue has no frame is over
  pub over_none : is_nothing (first t.provider t.receiver file t.queue) ≡ true → is_over t file ≡ true
  unfolding is_over next_frame
  over_none h = either (λ x. is_nothing x ≡ true) (file_agrees t.provider file) _ (Err _) h refl

  -- and one whose Provider and file disagree
  pub over_apart : file_agrees t.provider file ≡ false → is_over t file ≡ true
  unfolding is_over next_frame
  over_apart e = simp (whens, e)

  -- else it goes on
  pub going_on : file_agrees t.provider file ≡ true → is_nothing (first t.provider t.receiver file t.queue) ≡ false → is_over t file ≡ false
  unfolding is_over next_frame
  going_on e h = simp (whens, e) h

-- one frame further, by whose frame is the first
module _ (t : TwoParty) (file damage store : List ℕ) where
  pub moved_receiver : t.queue ≡ Q.Receiver → advanced t file damage store ≡ still (to_provider t file damage) store
  unfolding advanced
  moved_receiver e = rw e refl

  pub moved_provider : (reply : Reply) (i : ℕ) (damaged : Bool) (f : Frame)
      → t.queue ≡ Q.Provider reply i damaged → reply_frame t.provider file reply i ≡ Ok f
      → advanced t file damage store
      ≡ after_receiver t (Q.Provider reply (i + 1) damaged) (receiver_handed t.provider t.receiver file store reply i damaged f)
  unfolding advanced
  moved_provider reply i damaged f e found = rw (e, found) refl
