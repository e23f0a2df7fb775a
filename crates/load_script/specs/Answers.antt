-- What writing a load's script answers, and what it leaves in the buffer (document 02, A2).
use Rattle.std.specs.Prelude.{ℕ, List, length, Option, Some, None, Result, Ok, Err}
use Rattle.asdu.specs.declared.FtError.TheVariants.{ScriptMisshapen}
use Rattle.script.specs.Script.{text_of}
use Rattle.script.specs.Answers.{over}
use Rattle.load_script.specs.Load.{script_for}
use Rattle.load_script.specs.declared.Load.{Load}
use Rattle.asdu.specs.declared.FtError.{FtError}

-- the length of the script's text, or 11
unfoldable pub answer_of : Option Load → Result ℕ FtError
answer_of (Some l) = Ok (length (text_of (script_for l)))
answer_of None = Err ScriptMisshapen

-- the script's text over the front of the buffer; a refusal leaves it as it came in
unfoldable pub text_after : Option Load → List ℕ → List ℕ
text_after (Some l) there = over (text_of (script_for l)) there
text_after None there = there
