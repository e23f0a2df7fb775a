-- Whether a frame's values, and what stands beside it, are within their elements' ranges (document 01, Elements and frames). The object address is judged apart.
use Rattle.std.specs.Prelude.{ℕ, Bool, true, List, eqb, leb, length}
use Rattle.laws.specs.When.{◌and◌, ◌or◌}
use Rattle.asdu.specs.Elements.{frq_in_range, srq_in_range, scq_in_range, afq_in_range, lof_in_range, los_in_range}
use Rattle.asdu.specs.Time.{time_in_range}
use Rattle.asdu.specs.Sizes.{segment_limit}
use Rattle.asdu.specs.Entry.{page_right}
use Rattle.asdu.specs.declared.Los.{Los}
use Rattle.asdu.specs.declared.Cause.{Cause}
use Rattle.asdu.specs.declared.AddressSizes.{AddressSizes}
use Rattle.frame.specs.declared.Frame.{Frame}
use Rattle.frame.specs.declared.Frame.TheVariants.{FileReady, SectionReady, Sc, LastSection, Ack, Segment, Directory, QueryLog}

-- LOS is that of the payload, which has at most the segment limit
unfoldable pub segment_in_range : AddressSizes → Los → List ℕ → Bool
segment_in_range z los payload =
    los_in_range los and eqb los.value (length payload) and leb (length payload) (segment_limit z)

-- spontaneous or requested
unfoldable pub directory_cause : Cause → Bool
directory_cause c = eqb c.value 3 or eqb c.value 5

unfoldable pub directory_in_range : Cause → List ℕ → Bool
directory_in_range c entries = directory_cause c and page_right entries

-- of a frame and what stands beside it: a segment's payload or a directory's entries
abbrev pub values_in_range : AddressSizes → Frame → List ℕ → Bool
values_in_range z (FileReady ioa nof lof frq) beside = lof_in_range lof and frq_in_range frq
values_in_range z (SectionReady ioa nof nos lof srq) beside = lof_in_range lof and srq_in_range srq
values_in_range z (Sc ioa nof nos scq) beside = scq_in_range scq
values_in_range z (LastSection ioa nof nos lsq chs) beside = true
values_in_range z (Ack ioa nof nos afq) beside = afq_in_range afq
values_in_range z (Segment ioa nof nos los) beside = segment_in_range z los beside
values_in_range z (Directory ioa cause) beside = directory_in_range cause beside
values_in_range z (QueryLog ioa nof start stop) beside = time_in_range start and time_in_range stop
