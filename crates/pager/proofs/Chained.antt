-- Each answer in the order in which the code comes to it: the first refusal is handed on.
use Prim.Native.Nat.{ℕ, ◌/◌, ◌≤◌, ◌<◌, ◌+◌, ◌*◌, ◌-◌, min}
use mathlib.Core.Path.{◌≡◌, refl}
use mathlib.Core.Bool.{Bool, true, false}
use mathlib.Core.List.{List}
use native.Mathlib.Omega.{arith}
use borrow.Author.Tests.{leb-false}
use lib.Dec.{leb}
use Rattle.std.specs.Prelude.{Result, Ok, Err}
use Rattle.laws.specs.When.{when, unless}
use Rattle.lists.specs.Parts.{div_ceil}
use Rattle.asdu.specs.Entry.{entry_address}
use Rattle.asdu.specs.declared.FtError.{FtError}
use Rattle.asdu.specs.declared.FtError.TheVariants as E
use Rattle.pager.specs.Pages.{entries_right, entries_of, page_count, entry_count, page_address, sent_entry, entries_on, page_among, number_among, counted, pages_answer, page_answer, entry_answer}
use Rattle.pager.specs.declared.Page.{Page}

abbrev pub chained : {A B : Type 0} → Result A FtError → (A → Result B FtError) → Result B FtError
chained (Ok x) f = f x
chained (Err e) f = Err e

pub among_by : (ioa n i : ℕ) → page_among ioa n i ≡ chained (entries_on n i) (λ count. Ok (record { ioa = entry_address ioa (i * 18); count = count }))
unfolding page_among entries_on when
among_by ioa n i = go (leb (div_ceil n 18) i)
  where
    go : (b : Bool) → when {A = Result Page FtError} b (Err E.IndexOutOfRange) (Ok (record { ioa = entry_address ioa (i * 18); count = min 18 (n - i * 18) }))
        ≡ chained (when b (Err E.IndexOutOfRange) (Ok (min 18 (n - i * 18)))) (λ count. Ok (record { ioa = entry_address ioa (i * 18); count = count }))
    go true = refl
    go false = refl

pub number_by : (n i j : ℕ) → number_among n i j ≡ chained (entries_on n i) (λ count. when (leb count j) (Err E.IndexOutOfRange) (Ok (i * 18 + j)))
unfolding number_among entries_on when
number_by n i j = go (leb (div_ceil n 18) i)
  where
    go : (b : Bool) → when b (Err E.IndexOutOfRange) (when (leb (min 18 (n - i * 18)) j) (Err E.IndexOutOfRange) (Ok (i * 18 + j)))
        ≡ chained (when b (Err E.IndexOutOfRange) (Ok (min 18 (n - i * 18)))) (λ count. when (leb count j) (Err E.IndexOutOfRange) (Ok (i * 18 + j)))
    go true = refl
    go false = refl

pub pages_by : (o : List ℕ) → pages_answer o ≡ chained (counted o) (λ n. Ok (div_ceil n 18))
unfolding pages_answer page_count counted when
pages_by o = go (entries_right o)
  where
    go : (b : Bool) → unless b (Err E.ValueOutOfRange) (Ok (div_ceil (entries_of o) 18)) ≡ chained (unless b (Err E.ValueOutOfRange) (Ok (entries_of o))) (λ n. Ok (div_ceil n 18))
    go true = refl
    go false = refl

pub page_by : (ioa : ℕ) (o : List ℕ) (i : ℕ) → page_answer ioa o i ≡ chained (counted o) (λ n. page_among ioa n i)
unfolding page_answer page_count page_address entry_count page_among counted when
page_by ioa o i = go (entries_right o)
  where
    go : (b : Bool) → unless b (Err E.ValueOutOfRange) (page_among ioa (entries_of o) i) ≡ chained (unless b (Err E.ValueOutOfRange) (Ok (entries_of o))) (λ n. page_among ioa n i)
    go true = refl
    go false = refl

-- an entry's number, and what is made of it
numbered : {A : Type 0} (n i j : ℕ) (f : ℕ → A)
    → when (leb (div_ceil n 18) i) (Err E.IndexOutOfRange) (when (leb (min 18 (n - i * 18)) j) (Err E.IndexOutOfRange) (Ok (f (i * 18 + j)))) ≡ chained (number_among n i j) (λ k. Ok (f k))
unfolding number_among when
numbered n i j f = go (leb (div_ceil n 18) i) (leb (min 18 (n - i * 18)) j)
  where
    go : (b c : Bool) → when b (Err E.IndexOutOfRange) (when c (Err E.IndexOutOfRange) (Ok (f (i * 18 + j))))
        ≡ chained (when b (Err E.IndexOutOfRange) (when c (Err E.IndexOutOfRange) (Ok (i * 18 + j)))) (λ k. Ok (f k))
    go true c = refl
    go false true = refl
    go false false = refl

pub entry_by : (o : List ℕ) (i j : ℕ) → entry_answer o i j ≡ chained (counted o) (λ n. chained (number_among n i j) (λ k. Ok (sent_entry o k)))
unfolding entry_answer page_count entry_count counted when
entry_by o i j = go (entries_right o)
  where
    go : (b : Bool) → unless b (Err E.ValueOutOfRange) (when (leb (page_count o) i) (Err E.IndexOutOfRange) (when (leb (entry_count o i) j) (Err E.IndexOutOfRange) (Ok (sent_entry o (i * 18 + j)))))
        ≡ chained (unless b (Err E.ValueOutOfRange) (Ok (entries_of o))) (λ n. chained (number_among n i j) (λ k. Ok (sent_entry o k)))
    go true = numbered (entries_of o) i j (sent_entry o)
    go false = refl

-- ---- what an answer says of numbers

pub on_page : (n i c : ℕ) → Ok c ≡ entries_on n i → i * 18 + c ≤ n
unfolding entries_on div_ceil when
on_page n i c h = go (leb ((n + 17) / 18) i) refl h
  where
    go : (b : Bool) → leb ((n + 17) / 18) i ≡ b → Ok c ≡ when b (Err E.IndexOutOfRange) (Ok (min 18 (n - i * 18))) → i * 18 + c ≤ n
    go true e k = absurd (cc)
    go false e k =
        let within = leb-false ((n + 17) / 18) i e in
        let is : c ≡ min 18 (n - i * 18) = cc in
        omega arith

pub counted_right : (o : List ℕ) (n : ℕ) → Ok n ≡ counted o → (entries_right o ≡ true) × (n ≡ entries_of o)
unfolding counted when
counted_right o n h = go (entries_right o) refl h
  where
    go : (b : Bool) → entries_right o ≡ b → Ok n ≡ unless b (Err E.ValueOutOfRange) (Ok (entries_of o)) → (entries_right o ≡ true) × (n ≡ entries_of o)
    go true e k = (e, cc)
    go false e k = absurd (cc)

pub number_within : (n i j k : ℕ) → Ok k ≡ number_among n i j → k < n
unfolding number_among when
number_within n i j k h = go (leb (div_ceil n 18) i) (leb (min 18 (n - i * 18)) j) refl h
  where
    go : (b c : Bool) → leb (min 18 (n - i * 18)) j ≡ c → Ok k ≡ when b (Err E.IndexOutOfRange) (when c (Err E.IndexOutOfRange) (Ok (i * 18 + j))) → k < n
    go true c e q = absurd (cc)
    go false true e q = absurd (cc)
    go false false e q =
        let within = leb-false (min 18 (n - i * 18)) j e in
        let is : k ≡ i * 18 + j = cc in
        omega arith
