-- `calendar_holidays::easter_sunday` meets its contract: the table follows the rule, which is computed here for all hundred years.
use Rattle.std.specs.Prelude.{refl}
use Rattle.base_lists.specs.Lists.{sum_of}
use Rattle.calendar_dates.specs.Days.{leap, months, new_year, day_number, year_of, date_after, date_of}
use Rattle.calendar_holidays.specs.Yearly.{easter}
use Rattle.calendar_holidays.specs.declared.easter_sundays.TheConstants.{EASTER_SUNDAYS}
use Rattle.calendar_holidays.proofs.EasterTable.{follows, follows_rule}
use Rattle.calendar_holidays.proofs.easter_sunday.Goals as goal

pub returns : goal.returns
unfolding follows easter day_number months new_year leap sum_of year_of date_after date_of
returns c = follows_rule EASTER_SUNDAYS refl c.args.year c.requires
