-- The octets of a list of entries, joined: so many whole entries, each of which is the list's own.
use Prim.Native.Nat.{ℕ, zero, suc, ◌+◌, ◌*◌, ◌%◌, ◌<◌}
use mathlib.Core.Path.{◌≡◌, refl}
use mathlib.Core.Bool.{Bool, true, false}
use mathlib.Core.List.{List, [], ◌∷◌}
use native.Mathlib.Omega.{arith}
use lib.Dec.{eqb}
use lib.ListN.{length, take, drop, get_or, length-append}
use lib.Seq.{drop-drop, take_at, drop_at}
use Rattle.std.specs.Prelude.{Err, Ok, ◌&&◌}
use Rattle.std.specs.List.{list_all}
use Rattle.laws.specs.When.{when, ◌and◌}
use Rattle.laws.proofs.Decide.{whens}
use Rattle.asdu.specs.Entry.{entry_in_range, entry_octets, entry_of, reserved_clear, unpacked, all_clear}
use Rattle.asdu.specs.declared.DirectoryEntry.{DirectoryEntry}
use Rattle.asdu.specs.declared.FtError.TheVariants.{ValueOutOfRange}
use Rattle.asdu.proofs.Octets.{thirteen}
use Rattle.asdu.proofs.Range.{both}
use Rattle.asdu.proofs.EntryLaws.{unpack-pack}
use Rattle.pager.specs.Pages.{entries_of, entries_right, packed_entry, flagged, sent_entry}
use Rattle.pager_list.specs.Listed.{all_in_range, packed_list}

-- ---- one entry

-- its reserved bits are 0
clear : (e : DirectoryEntry) → entry_in_range e ≡ true → reserved_clear (entry_octets e) ≡ true
unfolding unpacked
clear e h = go (eqb (length (entry_octets e)) 13 and reserved_clear (entry_octets e)) refl
  where
    go : (b : Bool) → (eqb (length (entry_octets e)) 13 and reserved_clear (entry_octets e)) ≡ b → reserved_clear (entry_octets e) ≡ true
    go true p = (both (eqb (length (entry_octets e)) 13) (reserved_clear (entry_octets e)) p).1
    go false p = let u : Err ValueOutOfRange ≡ Ok e = simp (whens, p) at (unpack-pack e h) in let z : ◌≡◌ {A = ℕ} 0 1 = cc in absurd (omega arith)

-- it comes back from its octets
pub back : (e : DirectoryEntry) → entry_in_range e ≡ true → entry_of (entry_octets e) ≡ e
unfolding unpacked
back e h =
    let same : Ok (entry_of (entry_octets e)) ≡ Ok e = simp (thirteen e, clear e h, whens) at (unpack-pack e h) in
    cc

-- ---- all of them

pub all_of_list : (es : List DirectoryEntry) → list_all entry_in_range es ≡ all_in_range es
unfolding when
all_of_list [] = refl
all_of_list (e ∷ es) = rw (all_of_list es) (same (entry_in_range e) (all_in_range es))
  where
    same : (a b : Bool) → (a && b) ≡ when a b false
    same true b = refl
    same false b = refl

list_long : (es : List DirectoryEntry) → length (packed_list es) ≡ 13 * length es
list_long [] = refl
list_long (e ∷ es) = rw (length-append, thirteen e, list_long es) (omega arith)

list_first : (e : DirectoryEntry) (es : List DirectoryEntry) → take 13 (packed_list (e ∷ es)) ≡ entry_octets e
list_first e es = take_at (entry_octets e) (packed_list es) 13 (thirteen e)

list_rest : (e : DirectoryEntry) (es : List DirectoryEntry) → drop 13 (packed_list (e ∷ es)) ≡ packed_list es
list_rest e es = drop_at (entry_octets e) (packed_list es) 13 (thirteen e)

list_clear : (es : List DirectoryEntry) → all_in_range es ≡ true → all_clear (length es) (packed_list es) ≡ true
list_clear [] h = refl
list_clear (e ∷ es) h =
    let b = both (entry_in_range e) (all_in_range es) h in
    simp (list_first e es, list_rest e es, clear e b.0, whens, list_clear es b.1)

pub list_count : (es : List DirectoryEntry) → entries_of (packed_list es) ≡ length es
unfolding entries_of
list_count es = rw (list_long es) (omega arith)

pub list_right : (es : List DirectoryEntry) → all_in_range es ≡ true → entries_right (packed_list es) ≡ true
unfolding entries_right
list_right es h =
    let whole : 13 * length es % 13 ≡ 0 = omega arith in
    simp (list_count es, list_long es, whole, whens, list_clear es h)

-- ---- an entry by its number

pub list_at : (es : List DirectoryEntry) (k : ℕ) (d : DirectoryEntry) → k < length es → packed_entry (packed_list es) k ≡ entry_octets (get_or es k d)
unfolding packed_entry
list_at [] k d h = absurd (omega arith)
list_at (e ∷ es) zero d h = list_first e es
list_at (e ∷ es) (suc k) d h =
    let place : 13 * suc k ≡ 13 + 13 * k = omega arith in
    rw (place, ← (drop-drop (13 * k) 13 (packed_list (e ∷ es))), list_rest e es) (list_at es k d (omega arith))

pub at_in_range : (es : List DirectoryEntry) (k : ℕ) (d : DirectoryEntry) → all_in_range es ≡ true → k < length es → entry_in_range (get_or es k d) ≡ true
at_in_range [] k d all h = absurd (omega arith)
at_in_range (e ∷ es) zero d all h = (both (entry_in_range e) (all_in_range es) all).0
at_in_range (e ∷ es) (suc k) d all h = at_in_range es k d (both (entry_in_range e) (all_in_range es) all).1 (omega arith)

-- as its page carries it
pub sent_of_list : (es : List DirectoryEntry) (k : ℕ) (d : DirectoryEntry) → all_in_range es ≡ true → k < length es
    → sent_entry (packed_list es) k ≡ flagged (eqb (k + 1) (length es)) (get_or es k d)
unfolding sent_entry
sent_of_list es k d all h = simp (list_count es, list_at es k d h, back (get_or es k d) (at_in_range es k d all h))
