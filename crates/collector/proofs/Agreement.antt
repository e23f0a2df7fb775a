-- What it says that a record and a store agree, and how the store is asked.
use Prim.Native.Nat.{ℕ, ◌*◌, ◌/◌, ◌≤◌, ◌<◌}
use mathlib.Core.Path.{◌≡◌, sym, ◌∙◌}
use mathlib.Core.Bool.{true}
use mathlib.Core.List.{List}
use native.Mathlib.Omega.{arith}
use native.Mathlib.Decide.{dec_le}
use lib.Dec.{leb}
use lib.ListN.{length}
use borrow.Author.Tests.{le-leb, lt-leb}
use Rattle.asdu.proofs.Range.{both}
use Rattle.ft.specs.Procedure.{settled}
use Rattle.collector.specs.Record.{call_agrees}
use Rattle.collector.specs.declared.DirectoryCall.{DirectoryCall}

pub agrees_settled : (c : DirectoryCall) (store : List ℕ) → call_agrees c store ≡ true → settled c.procedure ≡ true
unfolding call_agrees
agrees_settled c store e = (both (settled c.procedure) (leb (17 * c.held) (length store)) e).0

-- so many entries of 17 octets are within a length, told by whole entries
pub seventeens : (n len : ℕ) → leb n (len / 17) ≡ leb (17 * n) len
seventeens n len = by_test (dec_le n (len / 17))
  where
    by_test : Dec (n ≤ len / 17) → leb n (len / 17) ≡ leb (17 * n) len
    by_test (yes h) = let g : 17 * n ≤ len = omega arith in le-leb _ _ h ∙ sym (le-leb _ _ g)
    by_test (no h) =
        let f : len / 17 < n = omega arith in
        let g : len < 17 * n = omega arith in
        lt-leb _ _ f ∙ sym (lt-leb _ _ g)
