-- The laws of days and dates. A reader needs the statements and the definitions that they name; each is proved by what it cites.
use Prim.Native.Nat.{ℕ, ◌+◌, ◌≤◌, ◌<◌}
use mathlib.Core.Path.{◌≡◌}
use mathlib.Core.Bool.{true}
use Rattle.calendar_dates.specs.Days.{last_day, new_year, day_number, is_date, year_of, date_of}
use Rattle.calendar_dates.specs.declared.Date.{Date}
use Rattle.calendar_dates.proofs.Years.{in_its_year}
use Rattle.calendar_dates.proofs.Dates.{day_date_day, date_day_date}

-- a day lies in its year
pub day_in_year : (d : ℕ) → (new_year (year_of d) ≤ d) × (d < new_year (year_of d + 1))
day_in_year = in_its_year

-- the date of a day is a date, and its day number is the day
pub day_of_date : (d : ℕ) → d ≤ last_day →
    let t = date_of d in
    (is_date t.year t.month t.day ≡ true) × (day_number t.year t.month t.day ≡ d)
day_of_date = day_date_day

-- the day number of a date is a day, and its date is the date
pub date_of_day : (t : Date) → is_date t.year t.month t.day ≡ true →
    let d = day_number t.year t.month t.day in
    (d ≤ last_day) × (date_of d ≡ t)
date_of_day t = date_day_date t.year t.month t.day
