-- Demand 3, the two-party result (document 01, The exchange): whatever the radio damages, both machines complete, the Receiver with exactly the Provider's file.
use Rattle.std.specs.Prelude.{ℕ, ◌+◌, ◌*◌, ◌≤◌, ◌<◌, ◌≡◌, ◌≢◌, true, false, List, [], ◌∷◌, ◌++◌, length, drop, Some, Ok}
use Rattle.lists.specs.Parts.{div_ceil}
use Rattle.asdu.specs.Sizes.{segment_limit, max_common_address}
use Rattle.asdu.specs.declared.Nof.{Nof}
use Rattle.asdu.specs.declared.Header.{Header}
use Rattle.frame.specs.declared.Frame.{Frame}
use Rattle.frame.specs.Frames.{type_of, cause_of}
use Rattle.checksum.specs.Checksum.{checksum}
use Rattle.ft.specs.Directions.{other_role}
use Rattle.ft.specs.Admission.{serves}
use Rattle.ft.specs.declared.FileTransferProcedure.{FileTransferProcedure}
use Rattle.sections.specs.Sections.{sections, segments, section_count}
use Rattle.provide.specs.Record.{provider_made, ended}
use Rattle.provide.specs.declared.Provider.{Provider}
use Rattle.requests.specs.declared.ProviderAnswer.TheVariants as P
use Rattle.receive.specs.Record.{receiver_made, with_state}
use Rattle.receive.specs.declared.Receiver.{Receiver}
use Rattle.receive.specs.declared.Sent.{Sent}
use Rattle.receive.specs.declared.Sent.TheVariants as S
use Rattle.receive.specs.declared.ReceiverAnswer.TheVariants as R
use Rattle.exchange.specs.Exchange.{Side, by_provider, by_receiver, Passing, Fate, lost, arrives, Noise, Exchange, Headers, run, begun, sent_by}

-- ---- a sound header of a frame that station s sends

pub record Sound (s : FileTransferProcedure) (f : Frame) (h : Header) : Type 0 where
  -- its frame's type and cause
  pub type : h.type_id ≡ type_of f
  pub cause : h.cause ≡ cause_of f
  -- its sender's originator
  pub originator : h.originator ≡ s.org
  -- not negative
  pub positive : h.negative ≡ false
  -- a common address within its width and not broadcast
  pub common : h.common_address < max_common_address s.sizes

abbrev pub sender_of : FileTransferProcedure → FileTransferProcedure → Side → FileTransferProcedure
sender_of provider receiver by_provider = provider
sender_of provider receiver by_receiver = receiver

-- ---- the radio

-- what becomes of each of these segments: one that arrives is as long as it was sent
abbrev pub FatesOf : List (List ℕ) → List Fate → Type 0
FatesOf [] [] = Unit {0}
FatesOf [] (f ∷ fs) = ⊥
FatesOf (o ∷ os) [] = ⊥
FatesOf (o ∷ os) (lost ∷ fs) = FatesOf os fs
FatesOf (o ∷ os) (arrives a ∷ fs) = (length a ≡ length o) × FatesOf os fs

-- what arrives of a sending: the payloads that are handed over, joined in order
abbrev pub arrived : List Fate → List ℕ
arrived [] = []
arrived (lost ∷ fs) = arrived fs
arrived (arrives a ∷ fs) = a ++ arrived fs

-- a section's sendings: so many damaged ones, then one that is intact
pub record Sendings : Type 0 where
  pub damaged : List Noise
  pub intact : Noise

-- segments are lost or octets altered, so that what arrives differs from the section in sum modulo 256
abbrev pub Damaged : ℕ → List ℕ → Noise → Type 0
Damaged limit o n = FatesOf (segments limit o) (n (segments limit o)) × (checksum (arrived (n (segments limit o))) ≢ checksum o)

abbrev pub AllDamaged : ℕ → List ℕ → List Noise → Type 0
AllDamaged limit o [] = Unit {0}
AllDamaged limit o (n ∷ ns) = Damaged limit o n × AllDamaged limit o ns

-- the section arrives
abbrev pub Intact : ℕ → List ℕ → Noise → Type 0
Intact limit o n = FatesOf (segments limit o) (n (segments limit o)) × (arrived (n (segments limit o)) ≡ o)

-- for each section in turn: its sendings
abbrev pub DamagedThenIntact : ℕ → List (List ℕ) → List Sendings → Type 0
DamagedThenIntact limit [] [] = Unit {0}
DamagedThenIntact limit [] (x ∷ xs) = ⊥
DamagedThenIntact limit (o ∷ os) [] = ⊥
DamagedThenIntact limit (o ∷ os) (x ∷ xs) = AllDamaged limit o x.damaged × Intact limit o x.intact × DamagedThenIntact limit os xs

-- all sendings, in their order
abbrev pub in_order : List Sendings → List Noise
in_order [] = []
in_order (x ∷ xs) = x.damaged ++ (x.intact ∷ in_order xs)

-- ---- the premises

pub record Transfer : Type 0 where
  -- the two stations
  pub provider_station : FileTransferProcedure
  pub receiver_station : FileTransferProcedure
  -- the file's object address and name, the same for both
  pub object : ℕ
  pub name : Nof
  -- the Provider's file, and the Receiver's store with whatever it holds
  pub file : List ℕ
  pub store : List ℕ
  -- both makings accept: every width, every file of 0 to 16,777,215 octets
  pub provider : Provider
  pub provider_is_made : provider_made provider_station object name (length file) ≡ Ok provider
  pub receiver : Receiver
  pub receiver_is_made : receiver_made receiver_station object name ≡ Ok receiver
  -- the stations have opposite roles
  pub roles : receiver_station.role ≡ other_role provider_station.role
  -- and the same widths
  pub widths : receiver_station.sizes ≡ provider_station.sizes
  -- both select the direction in which the Provider sends and the Receiver asks
  pub provider_serves : serves provider_station provider_station.role false ≡ true
  pub receiver_serves : serves receiver_station receiver_station.role true ≡ true
  -- the store is at least as long as the file
  pub room : length file ≤ length store
  -- each frame goes under any sound header: it may depend on the frame and on all that passed before
  pub headers : Headers
  pub sound : (before : List Passing) (x : Passing)
      → Sound (sender_of provider_station receiver_station x.sender) x.packet.frame (headers before x)
  -- each section is sent, damaged, any number of times, and then intact
  pub radio : List Sendings
  pub damage : DamagedThenIntact (segment_limit provider_station.sizes) (sections file) radio

-- ---- the counts

-- the sum over the sections of (1 + d) × (g + 1): d damaged sendings, g segments
abbrev pub sending_frames : ℕ → List (List ℕ) → List Sendings → ℕ
sending_frames limit [] xs = 0
sending_frames limit (o ∷ os) [] = 0
sending_frames limit (o ∷ os) (x ∷ xs) = (1 + length x.damaged) * (div_ceil (length o) limit + 1) + sending_frames limit os xs

-- the sum of the d
abbrev pub damaged_sendings : List Sendings → ℕ
damaged_sendings [] = 0
damaged_sendings (x ∷ xs) = length x.damaged + damaged_sendings xs

-- what the Provider sends of a file: 2 + n + Σ (1 + d) × (g + 1), for n sections
abbrev pub provider_count : ℕ → List ℕ → List Sendings → ℕ
provider_count limit file radio = 2 + section_count (length file) + sending_frames limit (sections file) radio

-- what the Receiver sends: 3 + 2 × n + D
abbrev pub receiver_count : List ℕ → List Sendings → ℕ
receiver_count file radio = 3 + 2 * section_count (length file) + damaged_sendings radio

abbrev pub provider_frames : Transfer → ℕ
provider_frames m = provider_count (segment_limit m.provider_station.sizes) m.file m.radio

abbrev pub receiver_frames : Transfer → ℕ
receiver_frames m = receiver_count m.file m.radio

-- ---- the conclusion

-- the exchange of these premises, after so many steps
abbrev pub exchanged : Transfer → ℕ → Exchange
exchanged m steps = run m.file m.headers steps (begun m.provider m.receiver m.store (in_order m.radio))

-- what the Receiver sends last: the file is accepted
abbrev pub accepted : Transfer → Sent
accepted m = S.Acknowledgement 1 (record { value = section_count (length m.file) })

pub record Transferred (m : Transfer) (e : Exchange) : Type 0 where
  -- no frame is left
  pub over : e.queue ≡ []
  -- the Provider ended as on AFQ 1, and nothing else of its record changed
  pub provider_complete : e.provider_said ≡ P.Complete
  pub provider_ended : e.provider ≡ ended m.provider
  -- the Receiver names the file's length, and ended holding it
  pub receiver_complete : e.receiver_said ≡ R.Complete (length m.file)
  pub receiver_ended : e.receiver ≡ with_state m.receiver (accepted m) (Some (length m.file)) (length m.file) 0 true
  -- the store begins with the file, and behind it is as it was
  pub stored : e.store ≡ m.file ++ drop (length m.file) m.store
  -- the frames passed, counted for each sender
  pub provider_sent : sent_by by_provider e.passed ≡ provider_frames m
  pub receiver_sent : sent_by by_receiver e.passed ≡ receiver_frames m

-- as many steps as frames end the transfer
abbrev pub TwoPartyTransfer : Type 0
TwoPartyTransfer = (m : Transfer) → Transferred m (exchanged m (provider_frames m + receiver_frames m))
