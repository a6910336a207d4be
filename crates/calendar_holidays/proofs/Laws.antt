-- The laws of Easter and the holidays. A reader needs the statements and the definitions that they name; each is proved by what it cites.
use Prim.Native.Nat.{ℕ, ◌+◌, ◌/◌, ◌%◌, ◌≤◌, ◌<◌}
use mathlib.Core.Path.{◌≡◌}
use mathlib.Core.Bool.{true}
use native.Mathlib.Omega.{arith}
use Rattle.base_lists.specs.Lists.{sum_of, member}
use Rattle.calendar_dates.specs.Days.{in_calendar, months, new_year, day_number, year_of}
use Rattle.calendar_holidays.specs.Yearly.{easter_q, easter, holidays}
use Rattle.calendar_dates.proofs.Years.{in_calendar_lem, year_of_day}
use Rattle.calendar_holidays.proofs.EasterSum.{julian_sum, moon-le, easter_bounds}
use Rattle.calendar_holidays.proofs.Holidays.{stays_in_year}

-- by the Julian calendar Easter lies from 22 March to 25 April
pub julian_easter : (y : ℕ) →
    let julian = day_number y (easter_q y / 31) (easter_q y % 31 + 1) in
    (day_number y 3 22 ≤ julian) × (julian ≤ day_number y 4 25)
unfolding day_number months sum_of
julian_easter y = omega (arith, julian_sum y, moon-le y)

-- by the Gregorian calendar from 4 April to 8 May
pub easter_between : (y : ℕ) → in_calendar y ≡ true → (day_number y 4 4 ≤ easter y) × (easter y ≤ day_number y 5 8)
unfolding day_number months sum_of
easter_between y h = omega (arith, easter_bounds y h)

-- no rule of a holiday leaves its year
pub holiday_in_year :
    (y h : ℕ) → in_calendar y ≡ true → member h (holidays y) ≡ true →
    (new_year y ≤ h) × (h < new_year (y + 1)) × (year_of h ≡ y)
holiday_in_year y h i m =
    let b = stays_in_year y h i m in
    (b.0, b.1, year_of_day y h (in_calendar_lem y i).0 b.0 b.1)
