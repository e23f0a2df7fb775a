-- What reading a script (document 01, A transfer script) answers, and what it leaves in the buffers.
use Rattle.std.specs.Prelude.{ℕ, List, ◌++◌, length, drop, Result, Ok, Err, Option, Some, None}
use Rattle.asdu.specs.declared.FtError.TheVariants.{ScriptMisshapen}
use Rattle.script.specs.Script.{Script}
use Rattle.asdu.specs.declared.FtError.{FtError}
use Rattle.script.specs.declared.Outline.{Outline}

-- a script's numbers and lengths, or 11
unfoldable pub answer_of : Option Script → Result Outline FtError
answer_of (Some s) =
    Ok (record { ioa = s.object; nof = record { value = s.nof }; file_len = length s.file; damage_len = length s.damage })
answer_of None = Err ScriptMisshapen

-- octets over the front of a buffer
abbrev pub over : List ℕ → List ℕ → List ℕ
over octets there = octets ++ drop (length octets) there

-- the buffer of a script's file, and of its damage; a refusal leaves both as they came in
unfoldable pub file_after : Option Script → List ℕ → List ℕ
file_after (Some s) there = over s.file there
file_after None there = there

unfoldable pub damage_after : Option Script → List ℕ → List ℕ
damage_after (Some s) there = over s.damage there
damage_after None there = there
