-- A day number and its date: the month is found where the days before it stop short of the days passed.
use Prim.Native.Nat.{ℕ, zero, suc, ◌+◌, ◌-◌, ◌*◌, ◌/◌, ◌%◌, ◌≤◌, ◌<◌}
use mathlib.Core.Path.{◌≡◌, refl, ap, sym, ◌∙◌}
use mathlib.Core.Bool.{Bool, true, false, ◌&&◌}
use mathlib.Core.List.{List, [], ◌∷◌}
use mathlib.Core.Logic.{⊎_elim}
use Rattle.std.specs.Prelude.{Some, None}
use native.Mathlib.Omega.{arith}
use native.Mathlib.Numerals.{add-one}
use native.Mathlib.Nat.{not-suc-le-zero, zero-add, add-zero}
use borrow.Author.Tests.{lt-ltb, le-ltb, le-leb, leb-true}
use lib.Dec.{leb}
use lib.ListN.{get_or, take}
use Rattle.base_lists.specs.Lists.{sum_of}
use Rattle.base_lists.proofs.Bools.{bool_cases, lt-or-le, both}
use Rattle.base_lists.proofs.Sums.{sum_take-suc, sum_take-le, held_below}
use Rattle.calendar_dates.specs.Days.{last_day, in_calendar, months, new_year, year_of, day_number, is_date, numbered, date_after, date_of, dated}
use Rattle.calendar_dates.specs.Steps.{place_of}
use Rattle.calendar_dates.specs.declared.Date.{Date}
use Rattle.calendar_dates.specs.declared.Place.{Place}
use Rattle.calendar_dates.proofs.Years.{in_calendar_lem, leap-le, next_year, calendar_end, year_of_least, year_of_in, in_its_year, year_of_day}
use Rattle.calendar_dates.proofs.Months.{days_of_year}

abbrev pub on : ℕ → ℕ → ℕ → Date
on y m d = record { year = y; month = m; day = d }

-- with the days before a month and some of its own passed, it is that month
pub after_at :
    (y m : ℕ) (ls : List ℕ) (k j : ℕ) → j < get_or ls k 0 → date_after y m ls (sum_of (take k ls) + j) ≡ on y (m + k) (j + 1)
unfolding date_after sum_of
after_at y m [] zero j h = absurd (not-suc-le-zero h)
after_at y m [] (suc k) j h = absurd (not-suc-le-zero h)
after_at y m (l ∷ ls) zero j h = rw (zero-add, add-zero, lt-ltb j l h)
after_at y m (l ∷ ls) (suc k) j h =
    let past : l ≤ l + sum_of (take k ls) + j = omega arith in
    let rest : l + sum_of (take k ls) + j - l ≡ sum_of (take k ls) + j = omega arith in
    let month : m + 1 + k ≡ m + suc k = omega arith in
    rw (le-ltb (l + sum_of (take k ls) + j) l past, rest, ← month) (after_at y (m + 1) ls k j h)

-- every day of the months lies in one of them
pub locate : (ls : List ℕ) (n : ℕ) → n < sum_of ls → (k : ℕ) × (j : ℕ) × (n ≡ sum_of (take k ls) + j) × (j < get_or ls k 0)
unfolding sum_of
locate [] n h = absurd (not-suc-le-zero h)
locate (l ∷ ls) n h = ⊎_elim (λ t. (0, n, omega arith, t)) (λ f. later f (locate ls (n - l) (omega arith))) (lt-or-le n l)
  where
    later : l ≤ n → (k : ℕ) × (j : ℕ) × (n - l ≡ sum_of (take k ls) + j) × (j < get_or ls k 0) →
        (k : ℕ) × (j : ℕ) × (n ≡ sum_of (take k (l ∷ ls)) + j) × (j < get_or (l ∷ ls) k 0)
    later f (k, j, e, b) = (suc k, j, omega arith, b)

-- what `is_date` tests
pub record Real (y m d : ℕ) : Type 0 where
  pub first : 2000 ≤ y
  pub last : y ≤ 2099
  pub least : 1 ≤ m
  pub most : m ≤ 12
  pub begun : 1 ≤ d
  pub going : d ≤ get_or (months y) (m - 1) 0

pub is_date_lem : (y m d : ℕ) → Real y m d → is_date y m d ≡ true
unfolding is_date
is_date_lem y m d r =
    simp (
      le-leb 2000 y r.first,
      le-leb y 2099 r.last,
      le-leb 1 m r.least,
      le-leb m 12 r.most,
      le-leb 1 d r.begun,
      le-leb d (get_or (months y) (m - 1) 0) r.going,
    )

pub date_is : (y m d : ℕ) → is_date y m d ≡ true → Real y m d
unfolding is_date
date_is y m d h =
    let b = both (in_calendar y && (leb 1 m && leb m 12)) (leb 1 d && leb d (get_or (months y) (m - 1) 0)) h in
    let ym = both (in_calendar y) (leb 1 m && leb m 12) b.0 in
    let year = in_calendar_lem y ym.0 in
    let month = both (leb 1 m) (leb m 12) ym.1 in
    let day = both (leb 1 d) (leb d (get_or (months y) (m - 1) 0)) b.1 in
    record {
      first = year.0;
      last = year.1;
      least = leb-true 1 m month.0;
      most = leb-true m 12 month.1;
      begun = leb-true 1 d day.0;
      going = leb-true d (get_or (months y) (m - 1) 0) day.1;
    }

month_length : (y m : ℕ) → 1 ≤ m → get_or (months y) (m - 1) 0 ≡ sum_of (take m (months y)) - sum_of (take (m - 1) (months y))
month_length y m h =
    let whole : suc (m - 1) ≡ m = omega arith in
    let e = rw whole at (sum_take-suc (months y) (m - 1)) in
    omega arith

-- a date lies in its year
pub date_in_year : (y m d : ℕ) → Real y m d → (new_year y ≤ day_number y m d) × (day_number y m d < new_year (y + 1))
unfolding day_number months
date_in_year y m d r = (
  omega arith,
  omega (arith, next_year y r.first, days_of_year y, sum_take-suc (months y) (m - 1), sum_take-le (months y) (suc (m - 1))),
)

-- the date of a day of which the months over are known
pub date_at :
    (d k j : ℕ) → d - new_year (year_of d) ≡ sum_of (take k (months (year_of d))) + j → j < get_or (months (year_of d)) k 0 →
    date_of d ≡ on (year_of d) (1 + k) (j + 1)
unfolding date_of
date_at d k j e h = rw e (after_at (year_of d) 1 (months (year_of d)) k j h)

-- what the code finds of a date makes its day number
module _ (t : Date) {month : Bool} (m : month ≡ (in_calendar t.year && (leb 1 t.month && leb t.month 12))) where
  pub no_month : month ≡ false → None ≡ numbered t
  unfolding numbered is_date
  no_month e = rw (sym m ∙ e) refl

  module _ (real : month ≡ true) {whole before : ℕ} (w : whole ≡ sum_of (take t.month (months t.year))) (b : before ≡ sum_of (take (t.month - 1) (months t.year))) where
    day_count : get_or (months t.year) (t.month - 1) 0 ≡ whole - before
    day_count = rw (w, b) (month_length t.year t.month (leb-true 1 t.month (both (leb 1 t.month) (leb t.month 12) (both (in_calendar t.year) (leb 1 t.month && leb t.month 12) (sym m ∙ real)).1).0))

    pub no_day : (leb 1 t.day && leb t.day (whole - before)) ≡ false → None ≡ numbered t
    unfolding numbered is_date
    no_day e = rw (sym m ∙ real, day_count, e) refl

    pub its_day : {new : ℕ} → (leb 1 t.day && leb t.day (whole - before)) ≡ true → new ≡ new_year t.year → Some (new + before + (t.day - 1)) ≡ numbered t
    unfolding numbered is_date day_number
    its_day e n = rw (sym m ∙ real, day_count, e, n, b) refl

module _ (t : Date) (n : ℕ) where
  -- a date that has a day number is one
  pub numbered_is : numbered t ≡ Some n → (is_date t.year t.month t.day ≡ true) × (n ≡ day_number t.year t.month t.day)
  unfolding numbered
  numbered_is e = ⊎_elim (λ h. let f = rw h at e in (h, cc)) (λ h. let f = rw h at e in absurd (never f)) (bool_cases (is_date t.year t.month t.day))
    where
      never : None ≡ Some n → ⊥
      never f = let z : ◌≡◌ {A = ℕ} 0 1 = cc in omega arith

-- and one that has none is not
pub not-numbered : (t : Date) → numbered t ≡ None → is_date t.year t.month t.day ≡ false
unfolding numbered
not-numbered t e = ⊎_elim (λ h. let f = rw h at e in absurd (never f)) (λ h. h) (bool_cases (is_date t.year t.month t.day))
  where
    never : Some (day_number t.year t.month t.day) ≡ None → ⊥
    never f = let z : ◌≡◌ {A = ℕ} 0 1 = cc in omega arith

-- fewer days of its year have passed than it has
pub year_over : (d : ℕ) → d - new_year (year_of d) < sum_of (take 12 (months (year_of d)))
year_over d = omega (arith, in_its_year d, next_year (year_of d) (year_of_least d), days_of_year (year_of d))

-- what four times a day leaves over whole years is four times the days passed, or up to three more
pub passed_is : (d : ℕ) → 4 * d % 1461 / 4 ≡ d - new_year (year_of d)
unfolding new_year year_of
passed_is d = omega arith

-- what the code finds of a place makes the date
module _ (d : ℕ) {p : Place} (e : p ≡ place_of d) where
  pub place_in_year : p.passed < sum_of (take 12 (months p.year))
  unfolding place_of
  place_in_year = rw e (year_over d)

  pub place_fits : p.passed ≤ 365
  place_fits = omega (arith, place_in_year, days_of_year p.year, leap-le p.year)

  pub place_leap : p.leap ≤ 1
  unfolding place_of
  place_leap = rw e (leap-le (year_of d))

  pub dated-on :
      (k s : ℕ) → d ≤ last_day → s ≡ sum_of (take k (months p.year)) → s ≤ p.passed →
      p.passed < sum_of (take (k + 1) (months p.year)) → Some (on p.year (k + 1) (p.passed - s + 1)) ≡ dated d
  unfolding place_of dated
  dated-on = rw e go
    where
      go :
          (k s : ℕ) → d ≤ last_day → s ≡ sum_of (take k (months (year_of d))) → s ≤ d - new_year (year_of d) →
          d - new_year (year_of d) < sum_of (take (k + 1) (months (year_of d))) →
          Some (on (year_of d) (k + 1) (d - new_year (year_of d) - s + 1)) ≡ dated d
      go k s h b l g =
          let month : k + 1 ≡ 1 + k = omega arith in
          let end = rw add-one at g in
          rw (le-leb d last_day h, month)
          (ap Some (sym (date_at d k (d - new_year (year_of d) - s) (omega arith) (omega (arith, sum_take-suc (months (year_of d)) k)))))

abbrev pub SameDay : ℕ → Date → Type 0
SameDay d t = (is_date t.year t.month t.day ≡ true) × (day_number t.year t.month t.day ≡ d)

-- from a day to its date and back
pub day_date_day : (d : ℕ) → d ≤ last_day → SameDay d (date_of d)
unfolding months day_number
day_date_day d h = go (locate (months (year_of d)) (d - new_year (year_of d)) (year_over d))
  where
    go :
        (k : ℕ) × (j : ℕ) × (d - new_year (year_of d) ≡ sum_of (take k (months (year_of d))) + j) ×
        (j < get_or (months (year_of d)) k 0) → SameDay d (date_of d)
    go (k, j, e, b) =
        let in_year = year_of_in d h in
        let few = held_below (months (year_of d)) k (omega arith) in
        let over : 1 + k - 1 ≡ k = omega arith in
        let real : Real (year_of d) (1 + k) (j + 1) =
        record {
          first = in_year.0;
          last = in_year.1;
          least = omega arith;
          most = omega arith;
          begun = omega arith;
          going = rw over (omega arith);
        }
        in
        rw (date_at d k j e b)
        (is_date_lem (year_of d) (1 + k) (j + 1) real, rw over (omega (arith, in_its_year d)))

passed_in_year : (y m d : ℕ) → day_number y m d - new_year y ≡ sum_of (take (m - 1) (months y)) + (d - 1)
unfolding day_number
passed_in_year y m d = omega arith

-- from a date to its day and back
pub date_day_date :
    (y m d : ℕ) → is_date y m d ≡ true → (day_number y m d ≤ last_day) × (date_of (day_number y m d) ≡ on y m d)
unfolding date_of
date_day_date y m d h =
    let r = date_is y m d h in
    let b = date_in_year y m d r in
    let month : 1 + (m - 1) ≡ m = omega arith in
    let day : d - 1 + 1 ≡ d = omega arith in
    let e = after_at y 1 (months y) (m - 1) (d - 1) (omega arith) in (
      omega (arith, calendar_end y r.last),
      rw (year_of_day y (day_number y m d) r.first b.0 b.1, passed_in_year y m d) (rw (month, day) at e),
    )
