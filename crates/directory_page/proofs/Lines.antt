-- How long a line is, 52 characters and a newline, whatever its entry.
use Rattle.std.proofs.Common.{◌≡◌, ℕ, length, length-append}
use Rattle.asdu.specs.declared.DirectoryEntry.{DirectoryEntry}
use Rattle.directory_page.specs.Line.{flags_text, date_text, clock_text, line_text}
use Rattle.directory_page.proofs.Places.{places_long}

-- every line has 53 octets
pub line_long : (ioa : ℕ) (e : DirectoryEntry) → length (line_text ioa e) ≡ 53
unfolding line_text flags_text date_text clock_text
line_long ioa e = simp (length-append, places_long)
