-- A refusal by number leaves the call's record and the store as they came in: one law for all of them.
use Prim.Native.Nat.{ℕ, ◌+◌}
use mathlib.Core.Path.{◌≡◌, refl}
use mathlib.Core.Bool.{Bool, true, false}
use mathlib.Core.List.{List}
use Rattle.std.specs.Prelude.{None, Option, Some, Result, Ok, Err}
use Rattle.laws.specs.When.{when}
use Rattle.asdu.specs.declared.Header.{Header}
use Rattle.stored.specs.Stored.{entries_in, has_last}
use Rattle.ft.specs.Admission.{on_asdu}
use Rattle.ft.specs.declared.Received.{Received}
use Rattle.ft.specs.declared.Reaction.{Reaction}
use Rattle.ft.specs.declared.Reaction.TheVariants as A
use Rattle.collector.specs.Collecting.{Outcome, stepped, holding, ended, leaving, on_held, on_page, on_taken, taken, collect_admitted, collect, is_refusal}
use Rattle.collector.specs.declared.DirectoryCall.{DirectoryCall}
use Rattle.collector.specs.declared.DirectoryAnswer.{DirectoryAnswer}
use Rattle.collector.specs.declared.DirectoryAnswer.TheVariants.{Running, Complete}
use Rattle.asdu.specs.declared.Unspecified.{Unspecified}
use Rattle.asdu.specs.declared.FtError.{FtError}

-- an outcome that keeps record and store, if its answer is a refusal
record Keeps (c : DirectoryCall) (store : List ℕ) (x : Outcome) : Type 0 where
  keeps : is_refusal x.step.answer ≡ true → (x.step.call ≡ c) × (x.store ≡ store)

same : (c : DirectoryCall) (store : List ℕ) (a : DirectoryAnswer) → Keeps c store (leaving store (stepped c a))
same c store a = record { keeps = λ e. (refl, refl) }

-- an outcome whose answer is none
other : (c : DirectoryCall) (store : List ℕ) (x : Outcome) → is_refusal x.step.answer ≡ false → Keeps c store x
other c store x h = record { keeps = λ e. (cc, cc) }

either : (c : DirectoryCall) (store : List ℕ) (b : Bool) (x y : Outcome) → Keeps c store x → Keeps c store y → Keeps c store (when b x y)
unfolding when
either c store true x y h k = h
either c store false x y h k = k

module _ (c : DirectoryCall) (store : List ℕ) where
  held_is_none : (n : ℕ) (o : List ℕ) → is_refusal (on_held c n o).answer ≡ false
  unfolding on_held when
  held_is_none n o = by_flag (has_last o)
    where
      by_flag : (b : Bool) → is_refusal (when b (stepped (ended (holding c n)) (Complete n)) (stepped (holding c n) Running)).answer ≡ false
      by_flag true = refl
      by_flag false = refl

  page_keeps : (ioa : ℕ) (o : List ℕ) → Keeps c store (on_page c store ioa o)
  unfolding on_page
  page_keeps ioa o = either c store _ _ _ (other c store _ (held_is_none (c.held + entries_in o) o)) (same c store _)

  taken_keeps : (beside : List ℕ) (what : Option ℕ) → Keeps c store (on_taken c store beside what)
  taken_keeps beside (Some ioa) = page_keeps ioa beside
  taken_keeps beside None = same c store _

  admitted_keeps : (beside : List ℕ) (what : Option ℕ) (a : Result Reaction FtError) → Keeps c store (collect_admitted c store beside what a)
  admitted_keeps beside what (Ok A.Requested) = same c store _
  admitted_keeps beside what (Ok A.Answered) = taken_keeps beside what
  admitted_keeps beside what (Ok (A.Refused cause mirror)) = other c store _ refl
  admitted_keeps beside what (Ok (A.Discard why)) = same c store _
  admitted_keeps beside what (Ok A.Other) = same c store _
  admitted_keeps beside what (Err x) = same c store _

  collect_keeps : (h : Header) (unknown : Option Unspecified) (received : Received) (beside : List ℕ) → Keeps c store (collect c store h unknown received beside)
  unfolding collect
  collect_keeps h unknown received beside =
      either c store _ _ _
      (either c store _ _ _
      (either c store _ _ _ (same c store _) (admitted_keeps beside (taken received) (on_asdu c.procedure h unknown received beside)))
      (same c store _))
      (same c store _)

  pub refusal_keeps : (h : Header) (unknown : Option Unspecified) (received : Received) (beside : List ℕ)
      → is_refusal (collect c store h unknown received beside).step.answer ≡ true
      → ((collect c store h unknown received beside).step.call ≡ c) × ((collect c store h unknown received beside).store ≡ store)
  refusal_keeps h unknown received beside = (collect_keeps h unknown received beside).keeps
