-- The checks on days of the calendar: each computes.
use mathlib.Core.Path.{refl}
use Rattle.base_lists.specs.Lists.{sum_of, member}
use Rattle.calendar_dates.specs.Days.{leap, months, new_year, day_number, year_of, date_after, date_of}
use Rattle.calendar_holidays.specs.Yearly.{easter, fixed_holidays, easter_holidays, is_fixed_holiday, is_easter_holiday}
use Rattle.calendar_groups.specs.Holidays.{first_days, second_days, is_holiday, group}
use Rattle.host_calendar.specs.Calendar.{group_told, fixed_told, easter_told, calendar_row}
use Rattle.host_calendar.specs.Checks.{Checks}

pub checks : Checks
unfolding sum_of member leap months new_year day_number year_of date_after date_of easter fixed_holidays easter_holidays is_fixed_holiday is_easter_holiday first_days
    second_days is_holiday group group_told fixed_told easter_told calendar_row
checks =
    record {
      august_15 = refl;
      clean_monday = refl;
      good_friday = refl;
      holy_saturday = refl;
      easter_sunday = refl;
      easter_monday = refl;
      whit_monday = refl;
      may_1 = refl;
      weekday = refl;
      saturday = refl;
      sunday = refl;
      first = refl;
      last = refl;
      after = refl;
    }
