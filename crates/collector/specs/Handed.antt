-- The pages of a directory handed one after the other to a call, and what they leave in its store (document 01, The directory and The exchange).
use Rattle.std.specs.Prelude.{ℕ, zero, suc, ◌+◌, ◌*◌, ◌≤◌, ◌<◌, ◌≡◌, true, false, List, [], ◌++◌, length, get_or, None}
use Rattle.store.specs.Store.{written}
use Rattle.asdu.specs.Sizes.{max_ioa, max_common_address}
use Rattle.asdu.specs.Entry.{entry_octets, entry_address}
use Rattle.asdu.specs.declared.AddressSizes.{AddressSizes}
use Rattle.asdu.specs.declared.Header.{Header}
use Rattle.stored.specs.Stored.{stored_entry}
use Rattle.frame.specs.declared.Frame.{Frame}
use Rattle.frame.specs.Frames.{type_of, cause_of}
use Rattle.ft.specs.Directions.{other_role}
use Rattle.ft.specs.Procedure.{settled}
use Rattle.ft.specs.Admission.{serves}
use Rattle.ft.specs.declared.Received.TheVariants as D
use Rattle.pager.specs.Pages.{entries_of, entries_right, sent_entry, page_count, page_address, page_octets, page_frame}
use Rattle.collector.specs.Collecting.{Outcome, stepped, holding, ended, leaving, collect}
use Rattle.collector.specs.declared.DirectoryCall.{DirectoryCall}
use Rattle.collector.specs.declared.DirectoryAnswer.TheVariants.{Running, Complete}

-- a sound header: its frame's type and cause, not negative, a common address within its width and not broadcast; any originator
pub record Sound (z : AddressSizes) (f : Frame) (h : Header) : Type 0 where
  pub type : h.type_id ≡ type_of f
  pub cause : h.cause ≡ cause_of f
  pub positive : h.negative ≡ false
  pub common : h.common_address < max_common_address z

-- a list of entries whose pages are handed to a call
pub record Directory : Type 0 where
  -- the packed entries, of octets, and the address of the first
  pub entries : List ℕ
  pub right : entries_right entries ≡ true
  pub octets : (i : ℕ) → get_or entries i 0 < 256
  pub first : ℕ
  -- a call that was started and is not done, of a station that takes what the other role sends
  pub call : DirectoryCall
  pub settings : settled call.procedure ≡ true
  pub direction : serves call.procedure (other_role call.procedure.role) false ≡ true
  pub started : call.started ≡ true
  pub running : call.done ≡ false
  -- a store with room for all
  pub store : List ℕ
  pub room : 17 * (call.held + entries_of entries) ≤ length store
  -- each page has an address within the width, and a sound header
  pub within : (i : ℕ) → i < page_count entries → page_address first i ≤ max_ioa call.procedure.sizes
  pub headers : ℕ → Header
  pub sound : (i : ℕ) → Sound call.procedure.sizes (page_frame first i) (headers i)

-- one page is handed over
abbrev pub hand_over : Directory → ℕ → Outcome → Outcome
hand_over d i x = collect x.step.call x.store (d.headers i) None (D.Frame (page_frame d.first i)) (page_octets d.entries i)

-- record and store after the first n pages, with the answer to the last of these
abbrev pub handed : Directory → ℕ → Outcome
handed d zero = leaving d.store (stepped d.call Running)
handed d (suc i) = hand_over d i (handed d i)

-- the entries numbered k to k + n - 1 in the store: their flags as the pager sets them, their addresses rising from the first of all
abbrev pub sent_stored : List ℕ → ℕ → ℕ → ℕ → List ℕ
sent_stored o ioa zero k = []
sent_stored o ioa (suc n) k = stored_entry (entry_address ioa k) (entry_octets (sent_entry o k)) ++ sent_stored o ioa n (suc k)

-- the entries that the call then holds
abbrev pub all_held : Directory → ℕ
all_held d = d.call.held + entries_of d.entries

-- the call completes on the last page, naming them, and not before; its store has exactly these entries behind those it held
pub record Collected (d : Directory) : Type 0 where
  pub before : (i : ℕ) → i < page_count d.entries → (handed d i).step.answer ≡ Running
  pub completes : (handed d (page_count d.entries)).step ≡ stepped (ended (holding d.call (all_held d))) (Complete (all_held d))
  pub leaves : (handed d (page_count d.entries)).store ≡ written d.store (17 * d.call.held) (sent_stored d.entries d.first (entries_of d.entries) 0)

-- of every list that has a page
abbrev pub DirectoryCollected : Type 0
DirectoryCollected = (d : Directory) → 0 < page_count d.entries → Collected d
