-- The Receiver's record: its making, when it and a lent store agree, and the requests and acknowledgements that it sends (document 01, The Receiver's record).
use Rattle.std.specs.Prelude.{ℕ, ◌+◌, min, Bool, true, false, List, [], leb, length, Option, Some, None, Result, Ok, Err}
use Rattle.laws.specs.When.{unless, ◌and◌}
use Rattle.asdu.specs.Sizes.{sizes_right, max_ioa}
use Rattle.asdu.specs.Codes.{SELECT_FILE}
use Rattle.asdu.specs.declared.Nof.{Nof}
use Rattle.asdu.specs.declared.Nos.{Nos}
use Rattle.asdu.specs.declared.FtError.TheVariants as E
use Rattle.acceptance.specs.Closed.{holds, accepted}
use Rattle.acceptance.specs.declared.Held.{Held}
use Rattle.frame.specs.declared.Frame.{Frame}
use Rattle.frame.specs.declared.Frame.TheVariants as F
use Rattle.ft.specs.Procedure.{settled, addressed}
use Rattle.ft.specs.Building.{built}
use Rattle.ft.specs.declared.FileTransferProcedure.{FileTransferProcedure}
use Rattle.receive.specs.declared.Sent.{Sent}
use Rattle.receive.specs.declared.Sent.TheVariants as S
use Rattle.receive.specs.declared.Receiver.{Receiver}
use Rattle.receive.specs.declared.ReceiverStep.{ReceiverStep}
use Rattle.receive.specs.declared.ReceiverAnswer.{ReceiverAnswer}
use Rattle.receive.specs.declared.ReceiverAnswer.TheVariants as R
use Rattle.asdu.specs.declared.FtError.{FtError}
use Rattle.ft.specs.declared.Asdu.{Asdu}

-- ---- the making

abbrev pub fresh_receiver : FileTransferProcedure → ℕ → Nof → Receiver
fresh_receiver p ioa nof =
    record { procedure = p; ioa = ioa; nof = nof; sent = S.Nothing; length = None; kept = 0; staged = 0; done = false }

-- 2, then 3 for the own addresses and the object address
unfoldable pub receiver_made : FileTransferProcedure → ℕ → Nof → Result Receiver FtError
receiver_made p ioa nof =
    unless (sizes_right p.sizes) (Err E.InvalidAddressSizes)
    (unless (addressed p.sizes p.ca p.org ioa) (Err E.AddressOutOfRange)
    (Ok (fresh_receiver p ioa nof)))

-- a record that a making gives, whose octets this store holds: else 26
unfoldable pub store_agrees : Receiver → List ℕ → Bool
store_agrees r store =
    settled r.procedure
    and leb r.ioa (max_ioa r.procedure.sizes)
    and leb (r.kept + r.staged) (length store)

-- ---- the record

-- the same transfer with another state
abbrev pub with_state : Receiver → Sent → Option ℕ → ℕ → ℕ → Bool → Receiver
with_state r sent len kept staged done =
    record { procedure = r.procedure; ioa = r.ioa; nof = r.nof; sent = sent; length = len; kept = kept; staged = staged; done = done }

-- the answer to another is awaited
abbrev pub awaiting : Receiver → Sent → Receiver
awaiting r s = with_state r s r.length r.kept r.staged r.done

-- so many octets are accepted and under way
abbrev pub holding : Receiver → ℕ → ℕ → Receiver
holding r kept staged = with_state r r.sent r.length kept staged r.done

abbrev pub stating : Receiver → ℕ → Receiver
stating r n = with_state r r.sent (Some n) r.kept r.staged r.done

abbrev pub ended : Receiver → Receiver
ended r = with_state r r.sent r.length r.kept r.staged true

-- what it holds of the store
abbrev pub held_by : Receiver → Held
held_by r = holds r.kept r.staged

-- the octets accepted
abbrev pub kept_octets : Receiver → List ℕ → List ℕ
kept_octets r store = accepted (held_by r) store

-- how many octets have arrived so far; it stays at the largest number, as in the Rust
unfoldable pub received_octets : Receiver → ℕ
received_octets r = min 18446744073709551615 (r.kept + r.staged)

-- ---- what it sends

abbrev pub request : Receiver → ℕ → Nos → Frame
request r action nos = F.Sc r.ioa r.nof nos (record { action = action; error = 0 })

abbrev pub acknowledge : Receiver → ℕ → Nos → Frame
acknowledge r action nos = F.Ack r.ioa r.nof nos (record { action = action; error = 0 })

-- the select that opens the transfer, as what is sent and as a frame
abbrev pub opening : Sent
opening = S.Request SELECT_FILE (record { value = 0 })

abbrev pub select : Receiver → Frame
select r = request r SELECT_FILE (record { value = 0 })

-- the frame of what was sent of a file; where nothing was, the select: an offered file ready opens the transfer as an answer to it would
abbrev pub frame_of : ℕ → Nof → Sent → Frame
frame_of ioa nof S.Nothing = F.Sc ioa nof (record { value = 0 }) (record { action = SELECT_FILE; error = 0 })
frame_of ioa nof (S.Request action nos) = F.Sc ioa nof nos (record { action = action; error = 0 })
frame_of ioa nof (S.Acknowledgement action nos) = F.Ack ioa nof nos (record { action = action; error = 0 })

-- the frame whose answer is awaited
unfoldable pub awaited : Receiver → Frame
awaited r = frame_of r.ioa r.nof r.sent

-- ---- the start

abbrev pub stepped : Receiver → ReceiverAnswer → ReceiverStep
stepped r a = record { receiver = r; answer = a }

abbrev pub started_with : Receiver → Result Asdu FtError → ReceiverStep
started_with r (Ok a) = stepped (awaiting r opening) R.Send
started_with r (Err e) = stepped r (R.Err e)

-- 26, then what `build` refuses of the select; a done record starts too, and nothing but what was sent changes
unfoldable pub started : Receiver → List ℕ → ReceiverStep
started r store =
    unless (store_agrees r store) (stepped r (R.Err E.RecordMismatch)) (started_with r (built r.procedure (select r) []))
