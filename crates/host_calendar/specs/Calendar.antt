-- What a caller written in C is told of a day of the calendar by include/honeyplank.h, where no holiday is moved.
use Rattle.std.specs.Prelude.{ℕ, List, [], ◌∷◌, ℤ, pos, ◌-ℤ◌, leb, Option, Some}
use Rattle.calendar_dates.specs.Days.{last_day, year_of, date_of}
use Rattle.calendar_holidays.specs.Yearly.{easter, is_fixed_holiday, is_easter_holiday}
use Rattle.calendar_groups.specs.Holidays.{group}
use Rattle.method.specs.Relevant.{group_number}
use Rattle.host_plain.specs.Plain.{month_digits}
use Rattle.host_answer.specs.Names.{told, told_if, row_from}

-- the group of a day of the calendar
unfoldable pub group_told : ℕ → Option ℤ
group_told d = told_if (leb d last_day) (told (group_number (group [] d)))

-- the date of a fixed-date holiday
unfoldable pub fixed_told : ℕ → Option ℤ
fixed_told d = told_if (is_fixed_holiday d) (told (month_digits (date_of d)))

-- how many days after Easter Sunday of its year a holiday lies that is counted from it
unfoldable pub easter_told : ℕ → Option ℤ
easter_told d = told_if (is_easter_holiday d) (Some (pos d -ℤ pos (easter (year_of d))))

-- from HP_CALENDAR_GROUP on, which is 45
unfoldable pub calendar_row : ℕ → List (Option ℤ)
calendar_row d = row_from 45 (group_told d ∷ fixed_told d ∷ easter_told d ∷ [])
