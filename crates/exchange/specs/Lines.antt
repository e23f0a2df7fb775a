-- What a transfer prints of each frame passed (document 01, A transfer script): sender, type, NOS or 0; then SCQ or AFQ action, LOF, LOS or LSQ; then CHS or 0.
use Rattle.std.specs.Prelude.{ℕ, List, [], ◌∷◌}
use Rattle.frame.specs.declared.Frame.{Frame}
use Rattle.frame.specs.declared.Frame.TheVariants as F
use Rattle.frame.specs.Frames.{type_of}
use Rattle.exchange.specs.Exchange.{Side, by_provider, by_receiver, Passing}
use Rattle.exchange.specs.declared.Sender.{Sender}
use Rattle.exchange.specs.declared.Sender.TheVariants.{Provider, Receiver}

-- the code's names of the sides
abbrev pub side_of : Sender → Side
side_of Provider = by_provider
side_of Receiver = by_receiver

-- the third field: NOS, or 0
abbrev pub named_section : Frame → ℕ
named_section (F.FileReady ioa nof lof frq) = 0
named_section (F.SectionReady ioa nof nos lof srq) = nos.value
named_section (F.Sc ioa nof nos scq) = nos.value
named_section (F.LastSection ioa nof nos lsq chs) = nos.value
named_section (F.Ack ioa nof nos afq) = nos.value
named_section (F.Segment ioa nof nos los) = nos.value
named_section (F.Directory ioa cause) = 0
named_section (F.QueryLog ioa nof start stop) = 0

-- the fourth: the action of SCQ or AFQ, LOF, LOS or LSQ
abbrev pub qualifier : Frame → ℕ
qualifier (F.FileReady ioa nof lof frq) = lof.value
qualifier (F.SectionReady ioa nof nos lof srq) = lof.value
qualifier (F.Sc ioa nof nos scq) = scq.action
qualifier (F.LastSection ioa nof nos lsq chs) = lsq.value
qualifier (F.Ack ioa nof nos afq) = afq.action
qualifier (F.Segment ioa nof nos los) = los.value
qualifier (F.Directory ioa cause) = 0
qualifier (F.QueryLog ioa nof start stop) = 0

-- the fifth: CHS, or 0
abbrev pub stated_sum : Frame → ℕ
stated_sum (F.FileReady ioa nof lof frq) = 0
stated_sum (F.SectionReady ioa nof nos lof srq) = 0
stated_sum (F.Sc ioa nof nos scq) = 0
stated_sum (F.LastSection ioa nof nos lsq chs) = chs.value
stated_sum (F.Ack ioa nof nos afq) = 0
stated_sum (F.Segment ioa nof nos los) = 0
stated_sum (F.Directory ioa cause) = 0
stated_sum (F.QueryLog ioa nof start stop) = 0

-- one line: the sender, and four numbers
pub record Line : Type 0 where
  pub sender : Side
  pub fields : List ℕ

abbrev pub line_for : Side → Frame → Line
line_for s f = record { sender = s; fields = type_of f ∷ named_section f ∷ qualifier f ∷ stated_sum f ∷ [] }

abbrev pub line_of : Passing → Line
line_of x = line_for x.sender x.packet.frame
