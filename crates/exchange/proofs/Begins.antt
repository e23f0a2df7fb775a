-- Where a sending begins: on a section request and on a negative section acknowledgement, and nowhere else. What its noise sees: the payloads of its segments.
use Prim.Native.Nat.{ℕ}
use mathlib.Core.Path.{◌≡◌, refl, sym, ap, ◌∙◌}
use mathlib.Core.Bool.{Bool, true, false}
use mathlib.Core.List.{List, [], ◌∷◌, ◌++◌, map}
use lib.Dec.{eqb}
use borrow.Author.Tests.{eqb-true}
use Rattle.laws.specs.When.{when}
use Rattle.laws.proofs.Decide.{eqb_at}
use Rattle.asdu.specs.declared.Nos.{Nos}
use Rattle.asdu.specs.declared.Scq.{Scq}
use Rattle.asdu.specs.declared.Afq.{Afq}
use Rattle.frame.specs.declared.Frame.{Frame}
use Rattle.frame.specs.Frames.{type_of}
use Rattle.provide.specs.Replies.{bare, segment_packet}
use Rattle.provide.specs.Requests.{on_sc, on_ack}
use Rattle.provide.specs.declared.Provider.{Provider}
use Rattle.requests.specs.Answers.{sc_answer, after_section, ack_answer}
use Rattle.requests.specs.declared.Reply.{Reply}
use Rattle.requests.specs.declared.ProviderAnswer.{ProviderAnswer}
use Rattle.exchange.specs.Exchange.{is_section, is_sending, payloads}

-- an answer to another action than n, before the rest of a chain
passed_over : (a k n : ℕ) (x y : ProviderAnswer) → eqb k n ≡ false → is_sending x ≡ false → is_sending y ≡ eqb a n → is_sending (when (eqb a k) x y) ≡ eqb a n
unfolding when
passed_over a k n x y other none rest = by_test (eqb a k) refl
  where
    by_test : (b : Bool) → eqb a k ≡ b → is_sending (when b x y) ≡ eqb a n
    by_test true e = none ∙ sym (eqb_at a k n (eqb-true a k e) other)
    by_test false e = rest

-- the answer to n
chosen : (b : Bool) (x y : ProviderAnswer) → is_sending x ≡ true → is_sending y ≡ false → is_sending (when b x y) ≡ b
unfolding when
chosen true x y yields none = yields
chosen false x y yields none = none

neither : (b : Bool) (x y : ProviderAnswer) → is_sending x ≡ false → is_sending y ≡ false → is_sending (when b x y) ≡ false
unfolding when
neither true x y none rest = none
neither false x y none rest = rest

no_section : (b : Bool) (x y : Reply) → is_section x ≡ false → is_section y ≡ false → is_section (when b x y) ≡ false
unfolding when
no_section true x y none rest = none
no_section false x y none rest = rest

ready_or_close : (sections : ℕ) (nos : Nos) → is_section (after_section sections nos) ≡ false
unfolding after_section
ready_or_close sections nos = no_section _ _ _ refl refl

module _ (p : Provider) (nos : Nos) where
  pub request_is_sending : (q : Scq) → is_sending (on_sc p nos q).answer ≡ eqb q.action 6
  unfolding on_sc sc_answer
  request_is_sending q =
      passed_over q.action 1 6 _ _ refl refl
      (passed_over q.action 2 6 _ _ refl refl (passed_over q.action 5 6 _ _ refl refl (chosen (eqb q.action 6) _ _ refl refl)))

  pub acknowledgement_is_sending : (q : Afq) → is_sending (on_ack p nos q).answer ≡ eqb q.action 4
  unfolding on_ack ack_answer
  acknowledgement_is_sending q =
      passed_over q.action 3 4 _ _ refl (ready_or_close _ nos) (chosen (eqb q.action 4) _ _ refl (neither (eqb q.action 1) _ _ refl refl))

-- segments, and a frame behind them that is none
pub payloads_behind : (p : Provider) (nos : Nos) (c : Frame) → eqb (type_of c) 125 ≡ false → (os : List (List ℕ)) → payloads (map (segment_packet p nos) os ++ (bare c ∷ [])) ≡ os
unfolding when
payloads_behind p nos c other [] = simp other
payloads_behind p nos c other (o ∷ os) = ap (λ (r : List (List ℕ)). o ∷ r) (payloads_behind p nos c other os)
