-- 01, "Days and groups": Easter, and the fourteen holidays of a year.
use Rattle.std.specs.Prelude.{ℕ, ◌+◌, ◌-◌, ◌*◌, ◌/◌, ◌%◌, Bool, cond, ◌&&◌, List, [], ◌∷◌, ◌++◌, leb}
use Rattle.base_lists.specs.Lists.{member}
use Rattle.calendar_dates.specs.Days.{day_number, year_of, in_calendar, last_day}

-- "Easter of year y, by the Julian reckoning: a, b, c are y mod 4, mod 7, mod 19; d = (19c+15) mod 30; e = (2a+4b-d+34) mod 7; with
-- q = d+e+114 the Julian month is q div 31 and the day (q mod 31)+1; 13 days later is the Gregorian date for these years."
abbrev pub easter_d : ℕ → ℕ
easter_d y = (19 * (y % 19) + 15) % 30

abbrev pub easter_e : ℕ → ℕ
easter_e y = (2 * (y % 4) + 4 * (y % 7) + 34 - easter_d y) % 7

abbrev pub easter_q : ℕ → ℕ
easter_q y = easter_d y + easter_e y + 114

-- the day number of Easter Sunday; outside 2000 to 2099 it is 0
unfoldable pub easter : ℕ → ℕ
easter y = cond (in_calendar y) (day_number y (easter_q y / 31) (easter_q y % 31 + 1) + 13) 0

-- "1 January, 6 January, 25 March, 1 May, 15 August, 28 October, 25 and 26 December"
unfoldable pub fixed_holidays : ℕ → List ℕ
fixed_holidays y =
    day_number y 1 1 ∷ day_number y 1 6 ∷ day_number y 3 25 ∷ day_number y 5 1 ∷
    day_number y 8 15 ∷ day_number y 10 28 ∷ day_number y 12 25 ∷ day_number y 12 26 ∷ []

-- "counted from Orthodox Easter Sunday: -48, -2, -1, 0, +1, +50"
unfoldable pub easter_holidays : ℕ → List ℕ
easter_holidays y =
    (easter y - 48) ∷ (easter y - 2) ∷ (easter y - 1) ∷ easter y ∷ (easter y + 1) ∷ (easter y + 50) ∷ []

-- the fourteen holidays of a year
unfoldable pub holidays : ℕ → List ℕ
holidays y = fixed_holidays y ++ easter_holidays y

-- no holiday is known past the calendar
unfoldable pub is_fixed_holiday : ℕ → Bool
is_fixed_holiday d = leb d last_day && member d (fixed_holidays (year_of d))

unfoldable pub is_easter_holiday : ℕ → Bool
is_easter_holiday d = leb d last_day && member d (easter_holidays (year_of d))
