-- What a caller written in C is told by include/honeyplank.h with no table and no file.
use Rattle.std.specs.Prelude.{ℕ, ◌+◌, ◌*◌, ℤ, pos, Option, option_map}
use Rattle.calendar_dates.specs.declared.Date.{Date}

abbrev pub date_written : ℕ → ℕ → ℕ → Date
date_written year month day = record { year = year; month = month; day = day }

-- the day number of a date; nothing where there is no such date from 2000 to 2099
abbrev pub day_told : Option ℕ → Option ℤ
day_told day = option_map pos day

-- a date's month and day as they are written, two digits a day: 15 August is 815
abbrev pub month_digits : Date → ℕ
month_digits t = 100 * t.month + t.day

-- a date as its year, month and day are written one after another, two digits a month and a day: 28 August 2024 is 20240828
abbrev pub date_digits : Date → ℕ
date_digits t = 10000 * t.year + 100 * t.month + t.day

-- the date of a day number; nothing past 31 December 2099
abbrev pub date_told : Option Date → Option ℤ
date_told date = option_map (λ t. pos (date_digits t)) date

-- HP_VERSION_NUMBER, of 0.7.0: 10,000 times the first number, 100 times the second, and the third
abbrev pub version : ℕ
version = 700
