-- What the two-party theorem says of the run: with a budget of at least the script's frames it is whole, with exactly that count, and the store begins with the file; with a smaller one it is spent, and not before.
use Prim.Native.Nat.{ℕ, ◌≤◌, ◌<◌}
use mathlib.Core.Path.{◌≡◌, refl, sym, ap, ◌∙◌}
use mathlib.Core.Logic.{◌≢◌}
use mathlib.Core.Bool.{Bool, true, false}
use mathlib.Core.List.{List, [], ◌∷◌, ◌++◌}
use native.Mathlib.Omega.{arith}
use lib.Dec.{leb}
use lib.ListN.{length, drop}
use borrow.Author.Tests.{leb-true, ltb-true}
use Rattle.std.specs.Prelude.{Err, Ok}
use Rattle.laws.specs.When.{when}
use Rattle.asdu.specs.Sizes.{sizes_right, max_common_address, segment_limit}
use Rattle.asdu.specs.declared.FtError.{FtError}
use Rattle.asdu.specs.declared.FtError.TheVariants as E
use Rattle.asdu.proofs.Range.{both}
use Rattle.ft.specs.Directions.{other_role}
use Rattle.ft.specs.Procedure.{address_right, settled, addressed}
use Rattle.ft.specs.Admission.{serves}
use Rattle.ft.specs.declared.Role.{Role}
use Rattle.ft.specs.declared.Role.TheVariants.{Controlling, Controlled}
use Rattle.sections.specs.Sections.{section_length, section_count}
use Rattle.provide.specs.Record.{provider_made}
use Rattle.provide.proofs.Building.{wide}
use Rattle.provide.proofs.Making.{made}
use Rattle.receive.specs.declared.Receiver.{Receiver}
use Rattle.exchange.specs.Exchange.{Side, by_provider, by_receiver, Passing, Exchange, own_headers}
use Rattle.exchange.specs.Transfer.{Sound, Transfer, sender_of}
use Rattle.exchange.specs.Order.{InOrder}
use Rattle.exchange.specs.Damaging.{script_radio}
use Rattle.exchange.proofs.Budget as B
use Rattle.exchange.proofs.Damaging.{script_sendings}
use Rattle.exchange.proofs.Ordering.{in_order}
use Rattle.twoparty.specs.Party.{station_of, with_provider, party_made}
use Rattle.run.specs.Loop.{Ran, ran_from}
use Rattle.radio.specs.Radio.{all_have_octets}
use Rattle.run.specs.Run.{exchange_of, ending, refused, two_party, script_frames}
use Rattle.twoparty.specs.declared.Settings.{Settings}
use Rattle.twoparty.specs.declared.TwoParty.{TwoParty}
use Rattle.run.specs.declared.Ending.TheVariants.{Whole, Spent}
use Rattle.radio.proofs.Named.{nameable}
use Rattle.run.proofs.Running.{Accepted, providing, receiving, beginning, provider_is_made, receiver_is_made, run_is}

module _ (s : Settings) (file damage store : List ℕ) where
  module _ (a : Accepted s file damage store) where
    accepted_run : (budget : ℕ) → two_party s file damage store budget ≡ ending (exchange_of s file damage store budget)
    unfolding two_party when
    accepted_run budget = simp (a.widths, a.addresses, a.short, a.named, a.room)

    party_made_lem : party_made s file damage store ≡ Ok (beginning s file damage store)
    unfolding party_made with_provider when
    party_made_lem = simp (provider_is_made s file damage store a, a.named, a.room, receiver_is_made s file damage store a)

  -- all tests before any frame are passed, or the first that is not refuses making and run alike
  data Tested : Type 0 where
    accepts : Accepted s file damage store → Tested
    refuses : (e : FtError) → party_made s file damage store ≡ Err e → ((budget : ℕ) → two_party s file damage store budget ≡ refused store e) → Tested

  tested : Tested
  unfolding party_made with_provider provider_made two_party when
  tested =
      by_tests (sizes_right s.sizes) refl (addressed s.sizes s.common_address 0 s.ioa) refl (leb (length file) 0xFFFFFF) refl
      (all_have_octets (section_length (length file)) file damage) refl (leb (length file) (length store)) refl
    where
      by_tests : (b₁ : Bool) → sizes_right s.sizes ≡ b₁ → (b₂ : Bool) → addressed s.sizes s.common_address 0 s.ioa ≡ b₂ → (b₃ : Bool) → leb (length file) 0xFFFFFF ≡ b₃
          → (b₄ : Bool) → all_have_octets (section_length (length file)) file damage ≡ b₄ → (b₅ : Bool) → leb (length file) (length store) ≡ b₅ → Tested
      by_tests false e₁ b₂ e₂ b₃ e₃ b₄ e₄ b₅ e₅ = refuses E.InvalidAddressSizes (simp e₁) (λ budget. simp e₁)
      by_tests true e₁ false e₂ b₃ e₃ b₄ e₄ b₅ e₅ = refuses E.AddressOutOfRange (simp (e₁, e₂)) (λ budget. simp (e₁, e₂))
      by_tests true e₁ true e₂ false e₃ b₄ e₄ b₅ e₅ = refuses E.FileTooLong (simp (e₁, e₂, e₃)) (λ budget. simp (e₁, e₂, e₃))
      by_tests true e₁ true e₂ true e₃ false e₄ b₅ e₅ = refuses E.ScriptMisshapen (simp (e₁, e₂, e₃, e₄)) (λ budget. simp (e₁, e₂, e₃, e₄))
      by_tests true e₁ true e₂ true e₃ true e₄ false e₅ = refuses E.StoreFull (simp (e₁, e₂, e₃, e₄, e₅)) (λ budget. simp (e₁, e₂, e₃, e₄, e₅))
      by_tests true e₁ true e₂ true e₃ true e₄ true e₅ = accepts (record { widths = e₁; addresses = e₂; short = e₃; named = e₄; room = e₅ })

  -- what is made has passed them all, and is the record before any frame
  pub made_accepted : (t : TwoParty) → party_made s file damage store ≡ Ok t → Accepted s file damage store × (beginning s file damage store ≡ t)
  made_accepted t made = by_tests tested
    where
      by_tests : Tested → Accepted s file damage store × (beginning s file damage store ≡ t)
      by_tests (accepts a) = (a, cc (party_made_lem a, made))
      by_tests (refuses e not ran) = let z : ◌≡◌ {A = ℕ} 0 1 = cc (not, made) in absurd (omega arith)

  -- the record's run, with its tests, is the run
  pub party_run : (budget : ℕ) → ran_from budget file damage store (party_made s file damage store) ≡ two_party s file damage store budget
  party_run budget = by_tests tested
    where
      by_tests : Tested → ran_from budget file damage store (party_made s file damage store) ≡ two_party s file damage store budget
      by_tests (accepts a) = rw (party_made_lem a) (run_is s file damage store a budget ∙ sym (accepted_run a budget))
      by_tests (refuses e made ran) = rw made (sym (ran budget))

-- ---- the theorem's premises are met

-- both stations use the transfer's direction
pub provider_direction : (s : Settings) (r : Role) → s.role ≡ r → serves (station_of s s.role) s.role false ≡ true
unfolding serves when
provider_direction s Controlling e = rw e
provider_direction s Controlled e = rw e

pub receiver_direction : (s : Settings) (r : Role) → s.role ≡ r → serves (station_of s (other_role s.role)) (other_role s.role) true ≡ true
unfolding serves when
receiver_direction s Controlling e = rw e
receiver_direction s Controlled e = rw e

module _ (s : Settings) (file damage store : List ℕ) (a : Accepted s file damage store) where
  own_address : s.common_address < max_common_address s.sizes
  unfolding addressed address_right
  own_address = ltb-true _ _ (both _ _ (both _ _ (both _ _ a.addresses).0).1).0

  pub sound_by : (x : Passing) (side : Side) → Sound (sender_of (station_of s s.role) (station_of s (other_role s.role)) side) x.packet.frame (own_headers s.common_address [] x)
  sound_by x by_provider = record { type = refl; cause = refl; originator = refl; positive = refl; common = own_address }
  sound_by x by_receiver = record { type = refl; cause = refl; originator = refl; positive = refl; common = own_address }

  pub settings : settled (station_of s s.role) ≡ true
  settings = (made (station_of s s.role) s.ioa s.nof (length file) (providing s file damage store) (provider_is_made s file damage store a)).settings

  unfoldable pub transfer : Transfer
  transfer =
      record {
        provider_station = station_of s s.role;
        receiver_station = station_of s (other_role s.role);
        object = s.ioa;
        name = s.nof;
        file = file;
        store = store;
        provider = providing s file damage store;
        provider_is_made = provider_is_made s file damage store a;
        receiver = receiving s file damage store;
        receiver_is_made = receiver_is_made s file damage store a;
        roles = refl;
        widths = refl;
        provider_serves = provider_direction s s.role refl;
        receiver_serves = receiver_direction s s.role refl;
        room = leb-true (length file) (length store) a.room;
        headers = own_headers s.common_address;
        sound = λ before x. sound_by x x.sender;
        radio = script_radio damage 1 (section_count (length file));
        damage = script_sendings (segment_limit s.sizes) (wide (station_of s s.role) settings) damage file (nameable file damage a.named);
      }

-- ---- the ending of an exchange

ending_whole : (e : Exchange) (n frames : ℕ) (store : List ℕ) → e.queue ≡ [] → e.receiver.kept ≡ n → length e.passed ≡ frames → e.store ≡ store
    → ending e ≡ record { result = (Ok (Whole n frames)); store = store }
ending_whole e n frames store none kept passed held = rw (none, kept, passed, held)

ending_spent : (e : Exchange) (frames : ℕ) (q : List Passing) → e.queue ≡ q → q ≢ [] → length e.passed ≡ frames → (ending e).result ≡ Ok (Spent frames)
ending_spent e frames [] is some passed = absurd (some refl)
ending_spent e frames (x ∷ q) is some passed = rw (is, passed)

module _ (s : Settings) (file damage store : List ℕ) (a : Accepted s file damage store) (budget : ℕ) where
  pub run_whole : script_frames s file damage ≤ budget
      → two_party s file damage store budget ≡ record { result = (Ok (Whole (length file) (script_frames s file damage))); store = file ++ drop (length file) store }
  unfolding script_frames transfer
  run_whole h =
      let m : Transfer = transfer s file damage store a in
      accepted_run s file damage store a budget
      ∙ ending_whole (exchange_of s file damage store budget) (length file) (script_frames s file damage) (file ++ drop (length file) store)
      (B.whole m budget h).over (ap (λ (r : Receiver). r.kept) (B.whole m budget h).receiver_ended) (B.whole_frames m budget h) (B.whole m budget h).stored

  pub run_spent : budget < script_frames s file damage → (two_party s file damage store budget).result ≡ Ok (Spent budget)
  unfolding script_frames transfer
  run_spent h =
      let m : Transfer = transfer s file damage store a in
      ap (λ (r : Ran). r.result) (accepted_run s file damage store a budget)
      ∙ ending_spent (exchange_of s file damage store budget) budget (exchange_of s file damage store budget).queue refl (B.spent m budget h) (B.spent_frames m budget h)

  -- and after any number of frames, sending number k of a section meets noise number k of that section: the k-th naming damages the k-th sending
  pub run_in_order : InOrder (transfer s file damage store a) (exchange_of s file damage store budget)
  unfolding transfer
  run_in_order = in_order (transfer s file damage store a) budget
