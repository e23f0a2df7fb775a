-- What stands beside a frame of a Provider's, on every record: no more than 240 octets.
use Rattle.std.specs.Prelude.{Err, Result}
use Rattle.std.proofs.Common.{ℕ, ◌≤◌, eqb, ltb, List, length, le_trans, arith, length-take}
use native.Mathlib.Nat.{min-le_left}
use Rattle.laws.proofs.Choices.{either}
use Rattle.sections.specs.Sections.{part_octets}
use Rattle.sections.specs.declared.Part.{Part}
use Rattle.provide.specs.Record.{file_agrees}
use Rattle.provide.specs.Replies.{octets_of, limit_of, segment_count, only_part, section_part, part_at, reply_payload, payload_of}
use Rattle.provide.specs.declared.Provider.{Provider}
use Rattle.requests.specs.declared.Reply.{Reply}
use Rattle.requests.specs.declared.Reply.TheVariants.{Nothing, FileReady, SectionReady, Section, FileClose}
use Rattle.provide.proofs.Building.{limit_most}
use Rattle.sections.proofs.Cuts.{segment_most}
use Rattle.asdu.specs.declared.FtError.{FtError}

module _ (p : Provider) (file : List ℕ) where
  abbrev Short : Result Part FtError → Type 0
  Short q = length (payload_of file q) ≤ 240

  only_short : (i : ℕ) → Short (only_part i)
  unfolding only_part part_octets
  only_short i = either Short (eqb i 0) _ (Err _) (omega arith) (omega arith)

  -- no part is longer than its length
  part_most : (q : Part) → length (part_octets q file) ≤ q.length
  unfolding part_octets
  part_most q = simp length-take (min-le_left q.length _)

  part_at_short : (r : Reply) (i : ℕ) → Short (part_at p file r i)
  unfolding section_part
  part_at_short Nothing i = omega arith
  part_at_short FileReady i = only_short i
  part_at_short (SectionReady nos) i = only_short i
  part_at_short (Section nos) i =
      either Short (ltb i (segment_count p file nos)) _ _
      (le_trans (part_most _) (le_trans (segment_most (limit_of p) (octets_of p file nos) i) (limit_most p.procedure.sizes))) (only_short _)
  part_at_short (FileClose nos) i = only_short i

  pub payload_short : (r : Reply) (i : ℕ) → Short (reply_payload p file r i)
  unfolding reply_payload
  payload_short r i = either Short (file_agrees p file) _ (Err _) (part_at_short r i) (omega arith)
