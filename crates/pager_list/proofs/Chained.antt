-- The answers of a list in the order in which the code comes to them: by the number of entries, where each is in range.
use Prim.Native.Nat.{ℕ}
use mathlib.Core.Path.{◌≡◌, refl}
use mathlib.Core.Bool.{Bool, true, false}
use mathlib.Core.List.{List}
use lib.ListN.{length}
use Rattle.std.specs.Prelude.{Result, Ok, Err}
use Rattle.laws.specs.When.{when, unless}
use Rattle.laws.proofs.Decide.{whens}
use Rattle.lists.specs.Parts.{div_ceil}
use Rattle.asdu.specs.declared.FtError.{FtError}
use Rattle.asdu.specs.declared.FtError.TheVariants.{ValueOutOfRange}
use Rattle.asdu.specs.declared.DirectoryEntry.{DirectoryEntry}
use Rattle.pager.specs.Pages.{counted, page_among, number_among, sent_entry}
use Rattle.pager.proofs.Chained.{chained, pages_by, page_by, entry_by}
use Rattle.pager_list.specs.Listed.{all_in_range, packed_list, listed_count, listed_pages, listed_page, listed_entry}
use Rattle.pager_list.proofs.Packed.{list_count, list_right}

packed_counted : (es : List DirectoryEntry) → all_in_range es ≡ true → counted (packed_list es) ≡ Ok (length es)
unfolding counted
packed_counted es e = simp (list_right es e, list_count es, whens)

by_count : {A : Type 0} (es : List DirectoryEntry) (f : ℕ → Result A FtError)
    → unless (all_in_range es) (Err ValueOutOfRange) (chained (counted (packed_list es)) f) ≡ chained (listed_count es) f
unfolding listed_count
by_count {A} es f = go (all_in_range es) refl
  where
    go : (b : Bool) → all_in_range es ≡ b
        → unless {A = Result A FtError} b (Err ValueOutOfRange) (chained (counted (packed_list es)) f) ≡ chained (unless b (Err ValueOutOfRange) (Ok (length es))) f
    go true e = simp (whens, packed_counted es e)
    go false e = simp whens

pub pages_listed : (es : List DirectoryEntry) → listed_pages es ≡ chained (listed_count es) (λ n. Ok (div_ceil n 18))
unfolding listed_pages
pages_listed es = rw pages_by (by_count es (λ n. Ok (div_ceil n 18)))

pub page_listed : (ioa : ℕ) (es : List DirectoryEntry) (i : ℕ) → listed_page ioa es i ≡ chained (listed_count es) (λ n. page_among ioa n i)
unfolding listed_page
page_listed ioa es i = rw page_by (by_count es (λ n. page_among ioa n i))

pub entry_listed : (es : List DirectoryEntry) (i j : ℕ) → listed_entry es i j ≡ chained (listed_count es) (λ n. chained (number_among n i j) (λ k. Ok (sent_entry (packed_list es) k)))
unfolding listed_entry
entry_listed es i j = rw entry_by (by_count es (λ n. chained (number_among n i j) (λ k. Ok (sent_entry (packed_list es) k))))

pub counted_right : (es : List DirectoryEntry) (n : ℕ) → Ok n ≡ listed_count es → (all_in_range es ≡ true) × (n ≡ length es)
unfolding listed_count when
counted_right es n h = go (all_in_range es) refl h
  where
    go : (b : Bool) → all_in_range es ≡ b → Ok n ≡ unless b (Err ValueOutOfRange) (Ok (length es)) → (all_in_range es ≡ true) × (n ≡ length es)
    go true e k = (e, cc)
    go false e k = absurd (cc)
