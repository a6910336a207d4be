-- The checks on days and dates: each computes.
use mathlib.Core.Path.{refl}
use Rattle.base_lists.specs.Lists.{sum_of}
use Rattle.calendar_dates.specs.Days.{leap, months, new_year, day_number, is_date, numbered, year_of, date_after, date_of, dated}
use Rattle.host_plain.specs.Checks.{Checks}

pub checks : Checks
unfolding sum_of leap months new_year day_number is_date numbered year_of date_after date_of dated
checks =
    record {
      february = refl;
      august = refl;
      first = refl;
      first_date = refl;
      last = refl;
      last_date = refl;
      before = refl;
      after = refl;
      after_date = refl;
      february_30 = refl;
    }
