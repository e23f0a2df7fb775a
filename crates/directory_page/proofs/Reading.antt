-- What a line shows can be read back from it, so that entries which differ in what is shown have different lines.
use Prim.Native.Nat.{ℕ, zero, suc, ◌+◌, ◌*◌, ◌-◌, ◌/◌, ◌%◌, ◌^◌, ◌≤◌, ◌<◌}
use mathlib.Core.Bool.{Bool, true, false}
use mathlib.Core.Path.{◌≡◌, refl, sym, ap, ◌∙◌}
use mathlib.Core.List.{List, [], ◌∷◌, ◌++◌, append_assoc, append-nil}
use native.Mathlib.Omega.{arith}
use lib.Dec.{leb, eqb}
use lib.ListN.{length, drop, get_or, replicate, length-replicate, replicate-append-replicate}
use lib.Seq.{take_at, drop_at, drop-drop, drop-append-le, get_or-drop}
use borrow.Author.Tests.{leb-true, leb-false, eq-eqb}
use Rattle.laws.specs.When.{when}
use Rattle.asdu.specs.Entry.{sof_of, time_at, entry_of}
use Rattle.asdu.specs.declared.DirectoryEntry.{DirectoryEntry}
use Rattle.asdu.proofs.Range.{both}
use Rattle.stored.specs.Stored.{address_in}
use Rattle.script.specs.Decimal.{decimal}
use Rattle.script.proofs.Decimals.{either, decimal_one, decimal_more, digits_most}
use Rattle.directory_page.specs.Line.{in_places, aligned, zeroed, mark, flags_text, date_text, clock_text, line_text}
use Rattle.directory_page.specs.Page.{within_bounds, is_printable, entry_line}
use Rattle.directory_page.specs.Shown.{shown, entry_shown, value_from, number_at, is_marked, read_line}
use Rattle.directory_page.proofs.Places.{places_long}

-- ---- a number

value-append : (v : ℕ) (xs ys : List ℕ) → value_from v (xs ++ ys) ≡ value_from (value_from v xs) ys
value-append v [] ys = refl
value-append v (x ∷ xs) ys = value-append (10 * v + (x - 48)) xs ys

-- fillers in front of a number count nothing
value_fillers : (f k : ℕ) → f ≤ 48 → value_from 0 (replicate k f) ≡ 0
value_fillers f zero h = refl
value_fillers f (suc k) h = let none : 10 * 0 + (f - 48) ≡ 0 = omega arith in ap (λ (v : ℕ). value_from v (replicate k f)) none ∙ value_fillers f k h

value_decimal : (k n : ℕ) → n < k → value_from 0 (decimal n) ≡ n
value_decimal zero n h = absurd (omega arith)
value_decimal (suc k) n h =
    either (leb n 9)
    (λ e. rw (decimal_one n (leb-true _ _ e)) (omega arith))
    (λ e.
    let more : 9 < n = leb-false _ _ e in
    rw (decimal_more n more, value-append, value_decimal k (n / 10) (omega arith)) (omega arith))

-- fillers, and the number whole
places_are : (f width n : ℕ) → length (decimal n) ≤ width → in_places f width n ≡ replicate (width - length (decimal n)) f ++ decimal n
unfolding in_places
places_are f width n h =
    let d = length (decimal n) in
    let all : d + (width - d) ≡ width = omega arith in
    let split : replicate width f ≡ replicate d f ++ replicate (width - d) f = rw (replicate-append-replicate, all) in
    let dropped : drop d (replicate width f) ≡ replicate (width - d) f = rw split (drop_at (replicate d f) (replicate (width - d) f) d (length-replicate d f)) in
    rw (drop-append-le d (replicate width f) (decimal n) (rw length-replicate h), dropped)

-- a number that has its places is read back from them
pub value_back : (f k n : ℕ) → f ≤ 48 → n < 10 ^ suc k → value_from 0 (in_places f (suc k) n) ≡ n
value_back f k n h fits =
    rw (places_are f (suc k) n (digits_most k n fits), value-append, value_fillers f (suc k - length (decimal n)) h) (value_decimal (suc n) n (omega arith))

-- ---- a column

-- a letter or a point is read back
mark_back : (letter : ℕ) (b : Bool) → eqb 46 letter ≡ false → eqb (mark letter b) letter ≡ b
unfolding mark when
mark_back letter true h = eq-eqb letter letter refl
mark_back letter false h = h

module _ (line : List ℕ) where
  -- the columns behind a field and the character behind it
  behind : (c f w n y : ℕ) {rest : List ℕ} → drop c line ≡ in_places f w n ++ (y ∷ rest) → drop (c + (w + 1)) line ≡ rest
  behind c f w n y {rest} h =
      let x = in_places f w n in
      let here : drop w (x ++ (y ∷ rest)) ≡ y ∷ rest = drop_at x (y ∷ rest) w (places_long f w n) in
      rw (← (drop-drop (w + 1) c line), h, ← (drop-drop 1 w (x ++ (y ∷ rest))), here)

  -- the number that stands in a field
  number_back : (c f k n : ℕ) (rest : List ℕ) → drop c line ≡ in_places f (suc k) n ++ rest → f ≤ 48 → n < 10 ^ suc k → number_at c (suc k) line ≡ n
  unfolding number_at
  number_back c f k n rest h low fits =
      rw (h, take_at (in_places f (suc k) n) rest (suc k) (places_long f (suc k) n)) (value_back f k n low fits)

  -- the letter that stands in a column, or the point
  mark_at : (c i letter : ℕ) (b : Bool) (flags : List ℕ) → drop c line ≡ flags → get_or flags i 0 ≡ mark letter b → eqb 46 letter ≡ false → is_marked (c + i) letter line ≡ b
  unfolding is_marked
  mark_at c i letter b flags h m other =
      rw (← (get_or-drop c line i 0), h, m) (mark_back letter b other)

-- ---- a line

-- every number that a line shows has its places
pub record Fits (ioa : ℕ) (e : DirectoryEntry) : Type 0 where
  pub address : ioa < 100000000
  pub nof : e.nof.value < 100000
  pub lof : e.lof.value < 100000000
  pub status : e.sof.status < 100
  pub year : e.time.years < 100
  pub month : e.time.months < 100
  pub day : e.time.day_of_month < 100
  pub hours : e.time.hours < 100
  pub minutes : e.time.minutes < 100
  pub milliseconds : e.time.milliseconds < 100000

module _ (ioa : ℕ) (e : DirectoryEntry) where
  -- what stands from the hours on, from the date on, and from the flags on
  abbrev clock : List ℕ
  clock =
      zeroed 2 e.time.hours
      ++ (58 ∷ (zeroed 2 e.time.minutes ++ (58 ∷ (zeroed 2 (e.time.milliseconds / 1000) ++ (46 ∷ (zeroed 3 (e.time.milliseconds % 1000) ++ (10 ∷ [])))))))

  abbrev date : List ℕ
  date = zeroed 2 e.time.years ++ (45 ∷ (zeroed 2 e.time.months ++ (45 ∷ (zeroed 2 e.time.day_of_month ++ (32 ∷ clock)))))

  abbrev flags : List ℕ
  flags = mark 76 e.sof.last_file_of_directory ∷ mark 68 e.sof.name_defines_subdirectory ∷ mark 84 e.sof.transfer_active ∷ 32 ∷ date

  line_is : line_text ioa e
      ≡ aligned 8 ioa ++ (32 ∷ (aligned 5 e.nof.value ++ (32 ∷ (aligned 8 e.lof.value ++ (32 ∷ (aligned 2 e.sof.status ++ (32 ∷ flags)))))))
  unfolding line_text flags_text date_text clock_text
  line_is = simp (append_assoc, append-nil)

  pub line_back : Fits ioa e → read_line (line_text ioa e) ≡ shown ioa e
  unfolding read_line shown
  line_back fits =
      let l = line_text ioa e in
      let t = e.time in
      let c₀ : drop 0 l ≡ _ = line_is in
      let c₉ = behind l 0 32 8 ioa 32 c₀ in
      let c₁₅ = behind l 9 32 5 e.nof.value 32 c₉ in
      let c₂₄ = behind l 15 32 8 e.lof.value 32 c₁₅ in
      let c₂₇ = behind l 24 32 2 e.sof.status 32 c₂₄ in
      let c₃₁ : drop 31 l ≡ date = sym (drop-drop 4 27 l) ∙ ap (drop 4) c₂₇ in
      let c₃₄ = behind l 31 48 2 t.years 45 c₃₁ in
      let c₃₇ = behind l 34 48 2 t.months 45 c₃₄ in
      let c₄₀ = behind l 37 48 2 t.day_of_month 32 c₃₇ in
      let c₄₃ = behind l 40 48 2 t.hours 58 c₄₀ in
      let c₄₆ = behind l 43 48 2 t.minutes 58 c₄₃ in
      let c₄₉ = behind l 46 48 2 (t.milliseconds / 1000) 46 c₄₆ in
      let seconds = number_back l 46 48 1 (t.milliseconds / 1000) _ c₄₆ (omega arith) (omega (arith, fits.milliseconds)) in
      let thousandths = number_back l 49 48 2 (t.milliseconds % 1000) _ c₄₉ (omega arith) (omega arith) in
      let all : 1000 * (t.milliseconds / 1000) + t.milliseconds % 1000 ≡ t.milliseconds = omega arith in
      simp (
        number_back l 0 32 7 ioa _ c₀ (omega arith) fits.address,
        number_back l 9 32 4 e.nof.value _ c₉ (omega arith) fits.nof,
        number_back l 15 32 7 e.lof.value _ c₁₅ (omega arith) fits.lof,
        number_back l 24 32 1 e.sof.status _ c₂₄ (omega arith) fits.status,
        mark_at l 27 0 76 e.sof.last_file_of_directory flags c₂₇ refl refl,
        mark_at l 27 1 68 e.sof.name_defines_subdirectory flags c₂₇ refl refl,
        mark_at l 27 2 84 e.sof.transfer_active flags c₂₇ refl refl,
        number_back l 31 48 1 t.years _ c₃₁ (omega arith) fits.year,
        number_back l 34 48 1 t.months _ c₃₄ (omega arith) fits.month,
        number_back l 37 48 1 t.day_of_month _ c₃₇ (omega arith) fits.day,
        number_back l 40 48 1 t.hours _ c₄₀ (omega arith) fits.hours,
        number_back l 43 48 1 t.minutes _ c₄₃ (omega arith) fits.minutes,
        seconds,
        thousandths,
        all,
      )

-- ---- an entry of 17 octets

abbrev Octets : List ℕ → Type 0
Octets s = (i : ℕ) → get_or s i 0 < 256

printable_fits : (s : List ℕ) → Octets s → is_printable s ≡ true → Fits (address_in s) (entry_of (drop 4 s))
unfolding is_printable within_bounds entry_of time_at sof_of
printable_fits s small h =
    let o : (i : ℕ) → get_or (drop 4 s) i 0 < 256 = λ i. rw (get_or-drop 4 s i 0) (small (4 + i)) in
    let ms = both _ _ h in
    let min = both _ _ ms.1 in
    let hrs = both _ _ min.1 in
    let mon = both _ _ hrs.1 in
    let yrs = both _ _ mon.1 in
    let t = (entry_of (drop 4 s)).time in
    let address : address_in s ≤ 99999999 = leb-true _ _ yrs.1 in
    let year : t.years ≤ 99 = leb-true _ _ yrs.0 in
    let month : t.months ≤ 12 = leb-true _ _ mon.0 in
    let hours : t.hours ≤ 23 = leb-true _ _ hrs.0 in
    let minutes : t.minutes ≤ 59 = leb-true _ _ min.0 in
    let milliseconds : t.milliseconds ≤ 59999 = leb-true _ _ ms.0 in
    record {
      address = omega arith;
      nof = omega (arith, o 0, o 1);
      lof = omega (arith, o 2, o 3, o 4);
      status = omega arith;
      year = omega arith;
      month = omega arith;
      day = omega arith;
      hours = omega arith;
      minutes = omega arith;
      milliseconds = omega arith;
    }

-- what a printable entry shows is read back from its line
pub entry_back : (s : List ℕ) → Octets s → is_printable s ≡ true → read_line (entry_line s) ≡ entry_shown s
unfolding entry_line
entry_back s small h = line_back (address_in s) (entry_of (drop 4 s)) (printable_fits s small h)

-- so printable entries that share a line show the same
pub one_line : (s t : List ℕ) → Octets s → Octets t → is_printable s ≡ true → is_printable t ≡ true → entry_line s ≡ entry_line t → entry_shown s ≡ entry_shown t
one_line s t small small' h k e = sym (entry_back s small h) ∙ ap read_line e ∙ entry_back t small' k
