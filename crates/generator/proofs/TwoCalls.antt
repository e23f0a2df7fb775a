-- An allowed file filled in two calls, the generator handed on, is the file filled in one (document 02, A2).
use Rattle.std.specs.Prelude.{Ok}
use Rattle.std.proofs.Common.{◌≡◌, ℕ, ◌+◌, ◌≤◌, List, ◌++◌, length, arith, length-append}
use Rattle.generator.specs.Filling.{max_length, after_steps, file_answer, file_after}
use Rattle.generator.specs.declared.Generator.{Generator}
use Rattle.generator.proofs.Octets.{octets_joined, states_joined}
use Rattle.generator.proofs.Answers.{file_filled}

-- the generator that the front's call answers is so many steps on
pub handed_on : (g h : Generator) (front : List ℕ) → length front ≤ max_length → file_answer g front ≡ Ok h → after_steps (length front) g ≡ h
handed_on g h front allowed handed = cc ((file_filled g front allowed).0, handed)

-- the front filled from g, which answers h, then the back from h
pub two_calls : (g h : Generator) (front back : List ℕ) → length (front ++ back) ≤ max_length → file_answer g front ≡ Ok h
    → (file_after g (front ++ back) ≡ file_after g front ++ file_after h back) × (file_answer g (front ++ back) ≡ file_answer h back)
two_calls g h front back allowed handed =
    let n : length (front ++ back) ≡ length front + length back = length-append front back in
    let first : length front ≤ max_length = omega arith in
    let second : length back ≤ max_length = omega arith in
    let e : after_steps (length front) g ≡ h = handed_on g h front first handed in (
      rw (← (file_filled g (front ++ back) allowed).1, ← (file_filled g front first).1, ← (file_filled h back second).1, n, ← e) (octets_joined (length back) (length front) g.state),
      rw (← (file_filled g (front ++ back) allowed).0, ← (file_filled h back second).0, n, ← e, states_joined (length back) (length front) g.state),
    )
