-- The frames on their way that a record's queue stands for, and that the frame shown is the first of them.
use Prim.Native.Nat.{ℕ, ◌+◌, ◌<◌}
use mathlib.Core.Path.{◌≡◌, refl, ◌∙◌}
use mathlib.Core.Bool.{Bool, true}
use mathlib.Core.List.{List, [], ◌∷◌}
use native.Mathlib.Omega.{arith}
use native.Mathlib.Numerals.{add-one}
use native.Mathlib.Decide.{dec_lt}
use lib.ListN.{length, drop, get_or}
use Rattle.std.specs.Prelude.{Ok}
use Rattle.laws.specs.When.{when}
use Rattle.provide.specs.Record.{file_agrees}
use Rattle.provide.specs.Replies.{Packet, bare, file_ready, replies, reply_frame}
use Rattle.provide.specs.declared.Provider.{Provider}
use Rattle.requests.specs.declared.Reply.{Reply}
use Rattle.provide.proofs.Indexed.{replies_agree}
use Rattle.receive.specs.Record.{awaited}
use Rattle.receive.specs.declared.Receiver.{Receiver}
use Rattle.exchange.specs.Exchange.{Side, by_provider, by_receiver, Passing, untouched}
use Rattle.exchange.specs.Lines.{side_of}
use Rattle.radio.proofs.Told.{told, told_past}
use Rattle.twoparty.proofs.Passing.{passing_at, told_at}
use Rattle.twoparty.specs.Party.{first, next_frame}
use Rattle.twoparty.specs.Shown.{name_of, first_of}
use Rattle.twoparty.specs.declared.Queue.{Queue}
use Rattle.twoparty.specs.declared.Queue.TheVariants as Q
use Rattle.twoparty.specs.declared.TwoParty.{TwoParty}

-- the name of a side is of that side
pub named_side : (s : Side) → side_of (name_of s) ≡ s
named_side by_provider = refl
named_side by_receiver = refl

module _ (p : Provider) (file : List ℕ) where
  -- the frames on their way between these machines: the Receiver's is the one whose answer its record awaits
  abbrev pub queue_of : Receiver → Queue → List Passing
  queue_of r Q.Empty = []
  queue_of r Q.Receiver = untouched by_receiver (bare (awaited r)) ∷ []
  queue_of r (Q.Provider reply i damaged) = drop i (told damaged (replies p file reply))

  -- for an index past the end
  abbrev pub none : Packet
  none = bare (file_ready p)

  -- a reply's frame and payload by index
  abbrev pub packet_at : Reply → ℕ → Packet
  packet_at reply i = get_or (replies p file reply) i none

  -- the first of the rest of a reply
  pub first_is : (r : Receiver) (reply : Reply) (i : ℕ) (d : Bool) → i < length (replies p file reply)
      → queue_of r (Q.Provider reply i d) ≡ passing_at d i (packet_at reply i) ∷ queue_of r (Q.Provider reply (i + 1) d)
  first_is r reply i d h = told_at d i (replies p file reply) none h ∙ rw (add-one i)

  module _ (agrees : file_agrees p file ≡ true) where
    pub frame_is : (reply : Reply) (i : ℕ) → i < length (replies p file reply) → reply_frame p file reply i ≡ Ok (packet_at reply i).frame
    frame_is reply i h = (replies_agree p file reply agrees).frame i none h

    reply_shown : (r : Receiver) (reply : Reply) (i : ℕ) (d : Bool) → Dec (i < length (replies p file reply))
        → first p r file (Q.Provider reply i d) ≡ first_of (queue_of r (Q.Provider reply i d))
    reply_shown r reply i d (yes lt) = rw (frame_is reply i lt, first_is r reply i d lt)
    reply_shown r reply i d (no ge) = rw ((replies_agree p file reply agrees).past i (omega arith), told_past d i (replies p file reply) (omega arith))

    first_shown : (r : Receiver) (q : Queue) → first p r file q ≡ first_of (queue_of r q)
    first_shown r Q.Empty = refl
    first_shown r Q.Receiver = refl
    first_shown r (Q.Provider reply i d) = reply_shown r reply i d (dec_lt i (length (replies p file reply)))

-- the frame shown is the first of those on their way: sender and frame; nothing where there is none
pub next_shown : (t : TwoParty) (file : List ℕ) → file_agrees t.provider file ≡ true
    → next_frame t file ≡ first_of (queue_of t.provider file t.receiver t.queue)
unfolding next_frame when
next_shown t file agrees = simp agrees (first_shown t.provider file agrees t.receiver t.queue)
