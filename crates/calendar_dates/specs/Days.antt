-- 01, "Days and groups": "A day is a number, 0 for 1 January 2000 (a Saturday) to 36,524 for 31 December 2099, Gregorian."
use Rattle.std.specs.Prelude.{ℕ, Option, Some, None, ◌+◌, ◌-◌, ◌*◌, ◌/◌, ◌%◌, Bool, cond, ◌&&◌, List, [], ◌∷◌, get_or, take, leb, ltb, eqb}
use Rattle.base_lists.specs.Lists.{sum_of}
use Rattle.calendar_dates.specs.declared.Date.{Date}

abbrev pub last_day : ℕ
last_day = 36524

abbrev pub in_calendar : ℕ → Bool
in_calendar y = leb 2000 y && leb y 2099

-- 1 in a leap year. From 2000 to 2099 every fourth year is one: 2000 is a multiple of 400, and no other of these years is one of 100
unfoldable pub leap : ℕ → ℕ
leap y = cond (eqb (y % 4) 0) 1 0

unfoldable pub months : ℕ → List ℕ
months y = 31 ∷ (28 + leap y) ∷ 31 ∷ 30 ∷ 31 ∷ 30 ∷ 31 ∷ 31 ∷ 30 ∷ 31 ∷ 30 ∷ 31 ∷ []

-- the day number of 1 January: 365 days a year, and one more for each leap year before
unfoldable pub new_year : ℕ → ℕ
new_year y = 365 * (y - 2000) + (y - 1997) / 4

unfoldable pub day_number : ℕ → ℕ → ℕ → ℕ
day_number y m d = new_year y + sum_of (take (m - 1) (months y)) + (d - 1)

unfoldable pub is_date : ℕ → ℕ → ℕ → Bool
is_date y m d = in_calendar y && (leb 1 m && leb m 12) && (leb 1 d && leb d (get_or (months y) (m - 1) 0))

-- the day number of a date, if it is one
unfoldable pub numbered : Date → Option ℕ
numbered t = cond (is_date t.year t.month t.day) (Some (day_number t.year t.month t.day)) None

-- the year in which a day lies: four years have 1,461 days, the first of them the leap year
unfoldable pub year_of : ℕ → ℕ
year_of d = 2000 + 4 * d / 1461

-- the date `n` days after the first of month `m`, where `ls` are the lengths of the months from `m` on
unfoldable pub date_after : ℕ → ℕ → List ℕ → ℕ → Date
date_after y m [] n = record { year = y; month = m; day = n + 1 }
date_after y m (l ∷ ls) n =
    let later = date_after y (m + 1) ls (n - l) in
    cond (ltb n l) (record { year = y; month = m; day = n + 1 }) later

unfoldable pub date_of : ℕ → Date
date_of d = date_after (year_of d) 1 (months (year_of d)) (d - new_year (year_of d))

-- the date of a day number, if the day lies in the calendar
unfoldable pub dated : ℕ → Option Date
dated d = cond (leb d last_day) (Some (date_of d)) None
