-- The letter and the fields so far stand over the front of the buffer.
use Rattle.std.proofs.Common.{ℕ, ◌≤◌, List, [], ◌∷◌, length, take, arith}
use Rattle.script.specs.Decimal.{spaced}
use Rattle.lines.specs.LineText.{line_text}
use Rattle.lines.proofs.Lines.{fields_most, letter_put, field_put, line_put}
use Rattle.lines.proofs.line.Goals as goal

pub loop-n-init : goal.loop-n-init
loop-n-init c = rw c.letter_of.ensures (letter_put c.args.out.now _ (omega arith))

pub loop-n-preserved : goal.loop-n-preserved
loop-n-preserved c =
    let ns : List ℕ = c.from.result ∷ c.from-2.result ∷ c.fields_of-section.result.1 ∷ c.from-3.result ∷ [] in
    let short : (i : ℕ) → length (spaced (take i ns)) ≤ 23 = λ i. fields_most _ _ _ _ i (omega arith) (omega arith) (omega arith) (omega arith) in
    field_put ns short (omega arith) c.loop-n.n-index (omega arith) c.loop-n.invariant c.put_number-at.ensures

pub bounds-out-at : goal.bounds-out-at
bounds-out-at c = let short = fields_most c.from.result c.from-2.result c.fields_of-section.result.1 c.from-3.result c.loop-n.n-index (omega arith) (omega arith) (omega arith) (omega arith) in
    omega (arith, c.loop-n.invariant.end)

pub overflow_add-result : goal.overflow_add-result
overflow_add-result c = let short = fields_most c.from.result c.from-2.result c.fields_of-section.result.1 c.from-3.result c.loop-n.n-index (omega arith) (omega arith) (omega arith) (omega arith) in
    omega (arith, c.loop-n.invariant.end)

pub returns : goal.returns
unfolding line_text
returns c =
    let ns : List ℕ = c.from.result ∷ c.from-2.result ∷ c.fields_of-section.result.1 ∷ c.from-3.result ∷ [] in
    let short : (i : ℕ) → length (spaced (take i ns)) ≤ 23 = λ i. fields_most _ _ _ _ i (omega arith) (omega arith) (omega arith) (omega arith) in
    let written = line_put ns short (omega arith) c.loop-n.n-index (omega arith) c.loop-n.invariant in
    let told = c.fields_of-section.ensures in
    let line = rw (c.from.ensures, c.from-2.ensures, c.from-3.ensures, c.type_id.ensures, told.0, told.1, told.2) at written in
    let most = short c.loop-n.n-index in
    (line.0, line.1, omega (arith, c.loop-n.invariant.end))
