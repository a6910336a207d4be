-- What the table of Easter Sundays gives to the days that are counted from them.
use Rattle.std.specs.Prelude.{ℕ, ◌+◌, ◌*◌}
use Rattle.calendar_dates.specs.Days.{date_of}

-- the date of a day as a clerk writes it without the year, as one number: 505 is 5 May
abbrev pub month_and_day : ℕ → ℕ
month_and_day d = 100 * (date_of d).month + (date_of d).day
