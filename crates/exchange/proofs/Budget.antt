-- A frame budget: an exchange whose queue is empty stays as it is; with as many steps as frames, or more, a transfer is whole; with fewer exactly so many frames have passed and one is left.
use Prim.Native.Nat.{ℕ, zero, suc, ◌+◌, ◌-◌, ◌≤◌, ◌<◌}
use mathlib.Core.Path.{◌≡◌, refl, sym, ap, ◌∙◌, subst}
use mathlib.Core.Logic.{◌≢◌}
use mathlib.Core.List.{List, [], ◌∷◌, ◌++◌}
use native.Mathlib.Omega.{arith}
use native.Mathlib.Nat.{zero-add, suc-add}
use lib.ListN.{length, length-append}
use Rattle.asdu.specs.declared.Header.{Header}
use Rattle.exchange.specs.Exchange.{Side, by_provider, by_receiver, Fate, lost, arrives, Passing, Exchange, handed, passes, Headers, step_on, step, run, sent_by}
use Rattle.exchange.specs.Transfer.{Transfer, Transferred, provider_frames, receiver_frames, exchanged}
use Rattle.exchange.proofs.Steps.{one_side}
use Rattle.exchange.proofs.Theorem.{two_party_transfer}

module _ (file : List ℕ) where
  -- each step passes the queue's first frame
  handed_one : (h : Header) (e : Exchange) (x : Passing) (q : List Passing) (beside : List ℕ) (s : Side) → (handed file h e x q beside s).passed ≡ e.passed ++ (x ∷ [])
  handed_one h e x q beside by_provider = refl
  handed_one h e x q beside by_receiver = refl

  passed_one : (h : Header) (e : Exchange) (x : Passing) (q : List Passing) (f : Fate) → (passes file h e x q f).passed ≡ e.passed ++ (x ∷ [])
  passed_one h e x q lost = refl
  passed_one h e x q (arrives beside) = handed_one h e x q beside x.sender

  module _ (headers : Headers) where
    -- an empty queue is a fixed point
    pub stays : (k : ℕ) (e : Exchange) → e.queue ≡ [] → run file headers k e ≡ e
    stays zero e over = refl
    stays (suc k) e over = ap (λ (q : List Passing). run file headers k (step_on file headers e q)) over ∙ stays k e over

    run_add : (a b : ℕ) (e : Exchange) → run file headers (a + b) e ≡ run file headers b (run file headers a e)
    run_add zero b e = rw zero-add
    run_add (suc a) b e = rw suc-add (run_add a b (step file headers e))

    one_step : (e : Exchange) (q : List Passing) → length (step_on file headers e q).passed ≤ length e.passed + 1
    one_step e [] = omega arith
    one_step e (x ∷ q) = rw (passed_one (headers e.passed x) e x q x.fate, length-append) (omega arith)

    -- no step passes more than one frame
    at_most : (k : ℕ) (e : Exchange) → length (run file headers k e).passed ≤ length e.passed + k
    at_most zero e = omega arith
    at_most (suc k) e = omega (arith, at_most k (step file headers e), one_step e e.queue)

    -- while a frame is left, as many have passed as steps were made
    pub exact : (k : ℕ) (e : Exchange) → (run file headers k e).queue ≢ [] → length (run file headers k e).passed ≡ length e.passed + k
    exact zero e more = omega arith
    exact (suc k) e more = by_queue e.queue refl (exact k (step file headers e) more)
      where
        by_queue : (q : List Passing) → e.queue ≡ q
            → length (run file headers (suc k) e).passed ≡ length (step file headers e).passed + k → length (run file headers (suc k) e).passed ≡ length e.passed + suc k
        by_queue [] is later = absurd (more (ap (λ (z : Exchange). z.queue) (stays (suc k) e is) ∙ is))
        by_queue (x ∷ q) is later =
            let one : (step file headers e).passed ≡ e.passed ++ (x ∷ []) =
            ap (λ (r : List Passing). (step_on file headers e r).passed) is ∙ passed_one (headers e.passed x) e x q x.fate in
            omega (arith, later, ap length one, length-append e.passed (x ∷ []))

-- each frame passed is of one sender
pub both_counts : (t : List Passing) → length t ≡ sent_by by_provider t + sent_by by_receiver t
both_counts [] = refl
both_counts (x ∷ t) = omega (arith, both_counts t, one_side x.sender)

module _ (m : Transfer) where
  abbrev pub all_frames : ℕ
  all_frames = provider_frames m + receiver_frames m

  -- where no frame is left, more steps change nothing
  later : (k n : ℕ) → (exchanged m k).queue ≡ [] → k ≤ n → exchanged m n ≡ exchanged m k
  later k n over h =
      let more : k + (n - k) ≡ n = omega arith in
      ap (λ (i : ℕ). exchanged m i) (sym more) ∙ run_add m.file m.headers k (n - k) _ ∙ stays m.file m.headers (n - k) (exchanged m k) over

  -- a budget that is enough
  pub whole : (budget : ℕ) → all_frames ≤ budget → Transferred m (exchanged m budget)
  whole budget h =
      subst (λ (e : Exchange). Transferred m e) (sym (later all_frames budget (two_party_transfer m).over h)) (two_party_transfer m)

  -- the frames of the whole transfer, as a count
  pub whole_frames : (budget : ℕ) → all_frames ≤ budget → length (exchanged m budget).passed ≡ all_frames
  whole_frames budget h =
      omega (arith, both_counts (exchanged m budget).passed, (whole budget h).provider_sent, (whole budget h).receiver_sent)

  -- one that is not enough: a frame is left
  pub spent : (budget : ℕ) → budget < all_frames → (exchanged m budget).queue ≢ []
  spent budget h over =
      omega (
        arith,
        at_most m.file m.headers budget (exchanged m 0),
        ap (λ (e : Exchange). length e.passed) (later budget all_frames over (omega arith)),
        whole_frames all_frames (omega arith),
      )

  pub spent_frames : (budget : ℕ) → budget < all_frames → length (exchanged m budget).passed ≡ budget
  spent_frames budget h = omega (arith, exact m.file m.headers budget (exchanged m 0) (spent budget h))
