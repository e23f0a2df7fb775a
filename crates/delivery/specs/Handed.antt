-- A frame of one machine handed over to the other: under a header of its sender's, and of a segment what arrives (document 01, The exchange).
use Rattle.std.specs.Prelude.{ℕ, Bool, List, [], nat_eq, None}
use Rattle.laws.specs.When.{when, ◌and◌}
use Rattle.asdu.specs.declared.Header.{Header}
use Rattle.frame.specs.declared.Frame.{Frame}
use Rattle.ft.specs.Building.{header_of}
use Rattle.ft.specs.declared.Received.TheVariants as D
use Rattle.ft.specs.declared.FileTransferProcedure.{FileTransferProcedure}
use Rattle.provide.specs.Replies.{reply_payload, payload_of}
use Rattle.provide.specs.Requests.{provide}
use Rattle.provide.specs.declared.Provider.{Provider}
use Rattle.provide.specs.declared.ProviderStep.{ProviderStep}
use Rattle.requests.specs.declared.Reply.{Reply}
use Rattle.receive.specs.Record.{awaited}
use Rattle.receive.specs.Answers.{Outcome, receive}
use Rattle.receive.specs.declared.Receiver.{Receiver}
use Rattle.exchange.specs.Damaging.{raised}

-- the header of a station's own frame
abbrev pub header_by : FileTransferProcedure → Frame → Header
header_by s f = header_of s.ca s.org f

-- the Provider is handed the Receiver's frame
abbrev pub provider_handed : Provider → Receiver → List ℕ → ProviderStep
provider_handed p r file = provide p file (header_by r.procedure (awaited r)) None (D.Frame (awaited r)) []

-- a segment's payload as it arrives: the first octet of a damaged sending is raised
unfoldable pub arriving : Bool → ℕ → List ℕ → List ℕ
arriving damaged i payload = when (damaged and nat_eq i 0) (raised payload) payload

-- the Receiver is handed the Provider's frame, with what arrives beside it
abbrev pub receiver_handed : Provider → Receiver → List ℕ → List ℕ → Reply → ℕ → Bool → Frame → Outcome
receiver_handed p r file store reply i damaged f =
    receive r store (header_by p.procedure f) None (D.Frame f) (arriving damaged i (payload_of file (reply_payload p file reply i)))
