-- What writing the page of a text answers, and what it leaves in the buffer (document 02, A3).
use Rattle.std.specs.Prelude.{ℕ, List, Result, Err, Option, Some, None}
use Rattle.asdu.specs.declared.FtError.TheVariants.{ScriptMisshapen}
use Rattle.directory_page.specs.Page.{print_answer, page_after}
use Rattle.asdu.specs.declared.FtError.{FtError}

-- of the entries that a text is, or 11 where it is none
unfoldable pub text_answer : Option (List ℕ) → ℕ → Result ℕ FtError
text_answer (Some o) len = print_answer o len
text_answer None len = Err ScriptMisshapen

-- the buffer afterwards; a text that is no entries leaves it as it came in
unfoldable pub text_after : Option (List ℕ) → List ℕ → List ℕ
text_after (Some o) buffer = page_after o buffer
text_after None buffer = buffer
