-- The sendings are in order: the k-th sending of a section meets the k-th noise of that section, whatever the frames before it.
use Prim.Native.Nat.{ℕ, zero, suc, ◌<◌}
use mathlib.Core.Path.{◌≡◌, sym, subst}
use mathlib.Core.List.{List, []}
use native.Mathlib.Omega.{arith}
use native.Mathlib.Decide.{dec_lt}
use Rattle.exchange.specs.Exchange.{Passing, Exchange, step, run}
use Rattle.exchange.specs.Transfer.{Transfer, exchanged}
use Rattle.exchange.specs.Order.{QueueInOrder, InOrder}
use Rattle.exchange.proofs.Steps.{Along}
use Rattle.exchange.proofs.Theorem.{all_pass}
use Rattle.exchange.proofs.Budget as B

module _ (m : Transfer) where
  along_at : (n k : ℕ) (e : Exchange) → Along m n e → k < n → InOrder m (run m.file m.headers k e)
  along_at zero k e along h = absurd (omega arith)
  along_at (suc n) zero e along h = along.0
  along_at (suc n) (suc k) e along h = along_at n k (step m.file m.headers e) along.1 (omega arith)

  -- with no frame left none begins
  none_begins : (e : Exchange) → e.queue ≡ [] → InOrder m e
  none_begins e over = subst (λ (q : List Passing). QueueInOrder m e q) (sym over) tt

  pub in_order : (k : ℕ) → InOrder m (exchanged m k)
  in_order k = by_test (dec_lt k (all_pass m).0)
    where
      by_test : Dec (k < (all_pass m).0) → InOrder m (exchanged m k)
      by_test (yes lt) = along_at (all_pass m).0 k _ (all_pass m).2 lt
      by_test (no ge) = none_begins (exchanged m k) (B.whole m k (omega (arith, (all_pass m).1))).over
