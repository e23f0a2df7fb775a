-- What a close makes of the octets that a Receiver holds, by their sum (document 01, The Receiver's record). The store has the accepted octets first, then those of the section under way.
use Rattle.std.specs.Prelude.{ℕ, ◌+◌, Bool, List, eqb, leb, length, take, drop}
use Rattle.laws.specs.When.{when, ◌and◌}
use Rattle.asdu.specs.declared.Chs.{Chs}
use Rattle.checksum.specs.Checksum.{checksum}
use Rattle.acceptance.specs.declared.Held.{Held}
use Rattle.acceptance.specs.declared.SectionClosed.{SectionClosed}
use Rattle.acceptance.specs.declared.SectionClosed.TheVariants.{Accepted, Dropped}
use Rattle.acceptance.specs.declared.FileClosed.{FileClosed}
use Rattle.acceptance.specs.declared.FileClosed.TheVariants.{Whole, Differs}

-- so many octets are accepted and under way
abbrev pub holds : ℕ → ℕ → Held
holds kept staged = record { kept = kept; staged = staged }

-- the octets accepted, and those of the section under way
abbrev pub accepted : Held → List ℕ → List ℕ
accepted h store = take h.kept store

abbrev pub under_way : Held → List ℕ → List ℕ
under_way h store = take h.staged (drop h.kept store)

-- whether the store has them all
abbrev pub is_held : Held → List ℕ → Bool
is_held h store = leb (h.kept + h.staged) (length store)

-- a section's close: an equal sum accepts a section that the store holds; else it is dropped
unfoldable pub section_closed : Held → List ℕ → Chs → SectionClosed
section_closed h store chs =
    when (is_held h store and eqb (checksum (under_way h store)) chs.value) (Accepted (holds (h.kept + h.staged) 0))
    (Dropped (holds h.kept 0))

-- the file's close: whole where the accepted octets, and no others, have the stated sum; a section under way is dropped, and the accepted count stays
unfoldable pub file_closed : Held → List ℕ → Chs → FileClosed
file_closed h store chs =
    when (is_held h store and eqb (checksum (accepted h store)) chs.value) (Whole (holds h.kept 0))
    (Differs (record { value = checksum (accepted h store) }) (holds h.kept 0))
