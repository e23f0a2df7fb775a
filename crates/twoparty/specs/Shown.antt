-- What is shown of the frames on their way (document 01, A transfer script): the first of them, under the code's name of its sender.
use Rattle.std.specs.Prelude.{List, [], ◌∷◌, Option, Some, None, Result, Ok}
use Rattle.exchange.specs.Exchange.{Side, by_provider, by_receiver, Passing}
use Rattle.exchange.specs.declared.Sender.{Sender}
use Rattle.exchange.specs.declared.Sender.TheVariants as S
use Rattle.twoparty.specs.declared.NextFrame.{NextFrame}
use Rattle.asdu.specs.declared.FtError.{FtError}

-- the code's name of a side
abbrev pub name_of : Side → Sender
name_of by_provider = S.Provider
name_of by_receiver = S.Receiver

-- sender and frame of one that is on its way
abbrev pub shown_as : Passing → Result (Option NextFrame) FtError
shown_as x = Ok (Some (record { sender = name_of x.sender; frame = x.packet.frame }))

-- the first of a queue; nothing of an empty one
abbrev pub first_of : List Passing → Result (Option NextFrame) FtError
first_of [] = Ok None
first_of (x ∷ queue) = shown_as x
