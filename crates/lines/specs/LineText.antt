-- The text of one line that a transfer prints (document 01, A transfer script).
use Rattle.std.specs.Prelude.{ℕ, List, [], ◌∷◌, ◌++◌}
use Rattle.frame.specs.declared.Frame.{Frame}
use Rattle.exchange.specs.Exchange.{Side, by_provider, by_receiver}
use Rattle.exchange.specs.Lines.{line_for}
use Rattle.script.specs.Decimal.{spaced}

-- `P` or `R` in ASCII
abbrev pub letter_of : Side → ℕ
letter_of by_provider = 80
letter_of by_receiver = 82

-- a letter, each field after one space, and a newline, which is 10
unfoldable pub fields_text : ℕ → List ℕ → List ℕ
fields_text letter fields = letter ∷ (spaced fields ++ (10 ∷ []))

unfoldable pub line_text : Side → Frame → List ℕ
line_text s f = fields_text (letter_of (line_for s f).sender) (line_for s f).fields
