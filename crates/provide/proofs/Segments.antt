-- A section has at most as many segments as octets: the index of a segment is one of 32 bits.
use Prim.Native.Nat.{ℕ, ◌≤◌}
use mathlib.Core.List.{List}
use native.Mathlib.Nat.{le_trans}
use lib.ListN.{length}
use Rattle.asdu.specs.declared.Nos.{Nos}
use Rattle.sections.proofs.Cuts.{section_most, ceil_most}
use Rattle.provide.specs.Replies.{octets_of, limit_of, segment_count}
use Rattle.provide.specs.declared.Provider.{Provider}

pub segments_most : (p : Provider) (file : List ℕ) (nos : Nos) → segment_count p file nos ≤ p.section_len
unfolding segment_count
segments_most p file nos =
    le_trans (ceil_most (length (octets_of p file nos)) (limit_of p)) (section_most p.section_len file nos.value)
