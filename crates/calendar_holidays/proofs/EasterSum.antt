-- Easter as a sum: the Julian month and day need not be told apart, since March and April are counted on from 1 March.
use Prim.Native.Nat.{ℕ, ◌+◌, ◌-◌, ◌*◌, ◌/◌, ◌%◌, ◌≤◌, ◌<◌}
use mathlib.Core.Path.{◌≡◌, refl, sym, ◌∙◌}
use mathlib.Core.Bool.{Bool, true, and-true}
use mathlib.Core.Logic.{⊎_elim}
use native.Mathlib.Omega.{arith}
use borrow.Author.Tests.{leb-true}
use lib.Dec.{leb, eqb}
use Rattle.std.specs.Prelude.{Some, None}
use Rattle.base_lists.proofs.Below.{below, at_each}
use Rattle.base_lists.proofs.Bools.{lt-or-le}
use Rattle.base_lists.specs.Lists.{sum_of}
use Rattle.calendar_dates.specs.Days.{last_day, in_calendar, leap, months, new_year, day_number, is_date, numbered}
use Rattle.calendar_holidays.specs.Yearly.{easter_d, easter_e, easter_q, easter}
use Rattle.calendar_dates.proofs.Years.{in_calendar_lem}
use Rattle.calendar_dates.proofs.Dates.{on, numbered_is, not-numbered}
use Rattle.calendar_dates.proofs.Laws.{date_of_day}

march_or_april :
    (y q : ℕ) → 114 ≤ q → q < 155 → day_number y (q / 31) (q % 31 + 1) ≡ new_year y + leap y + (q - 34)
unfolding day_number months sum_of
march_or_april y q l h = ⊎_elim march april (lt-or-le q 124)
  where
    march : q < 124 → day_number y (q / 31) (q % 31 + 1) ≡ new_year y + leap y + (q - 34)
    march t =
        let m : q / 31 ≡ 3 = omega arith in
        rw m (omega arith)

    april : 124 ≤ q → day_number y (q / 31) (q % 31 + 1) ≡ new_year y + leap y + (q - 34)
    april t =
        let m : q / 31 ≡ 4 = omega arith in
        rw m (omega arith)

-- 93: the 59 days before March, 21 days before 22 March, and the thirteen days to the Gregorian date
pub easter_sum : (y : ℕ) → in_calendar y ≡ true → easter y ≡ new_year y + leap y + 93 + easter_d y + easter_e y
unfolding easter
easter_sum y h = rw h (omega (arith, march_or_april y (easter_q y) (omega arith) (omega arith)))

-- 1 March is a date in the years of the calendar
march_is : (y : ℕ) → is_date y 3 1 ≡ in_calendar y
unfolding is_date months
march_is y = simp and-true

-- from 1 March to Easter
pub from_march : (y n : ℕ) → numbered (on y 3 1) ≡ Some n → (n ≤ last_day) × (easter y ≡ n + (34 + easter_d y + easter_e y))
unfolding day_number months sum_of
from_march y n e =
    let is = numbered_is (on y 3 1) n e in
    let inside = sym (march_is y) ∙ is.0 in
    (omega (arith, date_of_day (on y 3 1) is.0), omega (arith, easter_sum y inside))

pub no_march : (y : ℕ) → numbered (on y 3 1) ≡ None → easter y ≡ 0
unfolding easter
no_march y e = rw (sym (march_is y) ∙ not-numbered (on y 3 1) e)

-- in none of the nineteen places of the moon's cycle is d above 28
moon : ℕ → Bool
moon c = leb ((19 * c + 15) % 30) 28

pub moon-le : (y : ℕ) → easter_d y ≤ 28
unfolding moon
moon-le y = leb-true (easter_d y) 28 (at_each moon 19 refl (y % 19) (omega arith))

-- from 22 March to 25 April of the Julian calendar, 4 April to 8 May of the Gregorian
pub easter_bounds :
    (y : ℕ) → in_calendar y ≡ true → (new_year y + leap y + 93 ≤ easter y) × (easter y ≤ new_year y + leap y + 127)
easter_bounds y h = omega (arith, easter_sum y h, moon-le y)

-- the same day by the Julian calendar, and what the bounds are as dates
pub julian_sum : (y : ℕ) → day_number y (easter_q y / 31) (easter_q y % 31 + 1) ≡ new_year y + leap y + 80 + easter_d y + easter_e y
julian_sum y = omega (arith, march_or_april y (easter_q y) (omega arith) (omega arith))

-- what is computed for each of the hundred years holds of a year of the calendar
pub each_year : (p : ℕ → Bool) → below (λ k. p (2000 + k)) 100 ≡ true → (y : ℕ) → (2000 ≤ y) × (y ≤ 2099) → p y ≡ true
each_year p all y inside =
    let e : 2000 + (y - 2000) ≡ y = omega arith in
    rw e at (at_each (λ k. p (2000 + k)) 100 all (y - 2000) (omega arith))

-- day 0 is a Saturday, and Easter a Sunday
sunday : ℕ → Bool
sunday y = eqb (easter y % 7) 1

pub on-sunday : (y : ℕ) → in_calendar y ≡ true → eqb (easter y % 7) 1 ≡ true
unfolding sunday easter day_number months new_year leap sum_of
on-sunday y h = each_year sunday refl y (in_calendar_lem y h)
