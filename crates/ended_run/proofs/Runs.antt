-- What a window is fed from the run of a transfer script: its record is known beforehand.
use Prim.Native.Nat.{ℕ, ◌≤◌, ◌<◌, min}
use mathlib.Core.Bool.{true, false}
use mathlib.Core.Path.{◌≡◌}
use mathlib.Core.List.{List}
use native.Mathlib.Omega.{arith}
use lib.ListN.{length}
use borrow.Author.Tests.{leb-true}
use Rattle.std.specs.Prelude.{Ok}
use Rattle.twoparty.specs.declared.Settings.{Settings}
use Rattle.run.specs.Run.{two_party, script_frames}
use Rattle.run.proofs.Running.{Accepted}
use Rattle.run.proofs.Endings.{run_whole, run_spent}
use Rattle.ended_run.specs.Record.{in32_bits, record_of}

module _ (s : Settings) (file damage store : List ℕ) (a : Accepted s file damage store) (budget damaged : ℕ) where
  -- with a budget that its frames do not exceed: the file's octets, and the frames of the two-party theorem
  pub whole_recorded : script_frames s file damage ≤ budget
      → record_of (two_party s file damage store budget).result damaged
      ≡ Ok (record { octets = length file; frames = in32_bits (script_frames s file damage); damaged = in32_bits damaged; whole = true })
  whole_recorded h =
      let short = leb-true (length file) 0xFFFFFF a.short in
      let all : min 4294967295 (length file) ≡ length file = omega arith in
      rw (run_whole s file damage store a budget h, all)

  -- with a smaller one: the budget's frames, and no octets
  pub spent_recorded : budget < script_frames s file damage
      → record_of (two_party s file damage store budget).result damaged
      ≡ Ok (record { octets = 0; frames = in32_bits budget; damaged = in32_bits damaged; whole = false })
  spent_recorded h = rw (run_spent s file damage store a budget h)
