-- The premises of the joining law can be met: two pages of 19 entries, of octets that are 0, to a controlling station with the conventional widths.
use Prim.Native.Nat.{ℕ, zero, suc, ◌+◌, ◌*◌, ◌<◌, ◌≤◌}
use mathlib.Core.Path.{◌≡◌, refl}
use mathlib.Core.Bool.{true, false}
use mathlib.Core.List.{List}
use native.Mathlib.Omega.{arith}
use lib.Dec.{lit<, lit≤}
use lib.ListN.{get_or, replicate}
use Rattle.laws.specs.When.{when}
use Rattle.lists.specs.Parts.{div_ceil}
use Rattle.asdu.specs.Sizes.{within, sizes_right, max_ioa, max_common_address}
use Rattle.asdu.specs.Entry.{reserved_clear, entry_address}
use Rattle.asdu.specs.declared.Header.{Header}
use Rattle.ft.specs.Procedure.{conventional, address_right, settled}
use Rattle.ft.specs.Admission.{serves}
use Rattle.ft.specs.declared.Role.TheVariants.{Controlling, Controlled}
use Rattle.ft.specs.declared.FileTransferProcedure.{FileTransferProcedure}
use Rattle.pager.specs.Pages.{entries_of, entries_right, page_count, page_address, page_frame}
use Rattle.collector.specs.Record.{fresh_call, starting}
use Rattle.collector.specs.Handed.{Sound, Directory, Collected}
use Rattle.collector.proofs.Collected.{directory_collected}

abbrev station : FileTransferProcedure
station = record { role = Controlling; selection = record { monitor = true; control = false }; ca = 1; org = 0; sizes = conventional }

zeros : (n i : ℕ) → get_or (replicate n 0) i 0 < 256
zeros zero i = lit< tt
zeros (suc n) zero = lit< tt
zeros (suc n) (suc i) = zeros n i

abbrev entries : List ℕ
entries = replicate 247 0

right : entries_right entries ≡ true
unfolding entries_right entries_of reserved_clear when
right = refl

settings : settled station ≡ true
unfolding settled sizes_right within address_right max_common_address when
settings = refl

direction : serves station Controlled false ≡ true
unfolding serves when
direction = refl

two_pages : page_count entries ≡ 2
unfolding page_count entries_of div_ceil
two_pages = refl

-- page i is at 100 or at 118
near : (i : ℕ) → i < 2 → page_address 100 i ≤ max_ioa conventional
unfolding page_address entry_address max_ioa when
near i h = omega arith

room : 17 * (0 + entries_of entries) ≤ 323
unfolding entries_of
room = lit≤ tt

abbrev headers : ℕ → Header
headers i = record { type_id = 126; cause = record { value = 5 }; negative = false; originator = 0; common_address = 1 }

sound : (i : ℕ) → Sound conventional (page_frame 100 i) (headers i)
unfolding max_common_address when
sound i = record { type = refl; cause = refl; positive = refl; common = lit< tt }

abbrev example : Directory
example =
    record {
      entries = entries;
      right = right;
      octets = zeros 247;
      first = 100;
      call = starting (fresh_call station);
      settings = settings;
      direction = direction;
      started = refl;
      running = refl;
      store = replicate 323 0;
      room = room;
      within = λ i h. near i (rw two_pages at h);
      headers = headers;
      sound = sound;
    }

example_collected : Collected example
example_collected = directory_collected example (rw two_pages (lit< tt))
