-- `calendar_holidays::is_fixed_holiday` meets its contract: none past the calendar, two of the tests before March, six after February.
use native.Mathlib.Omega.{arith}
use borrow.Author.Tests.{le-leb, lt-leb}
use Rattle.calendar_dates.specs.Steps.{place_of}
use Rattle.calendar_holidays.specs.Yearly.{is_fixed_holiday}
use Rattle.calendar_dates.proofs.Years.{since_new_year}
use Rattle.calendar_dates.proofs.Dates.{place_leap}
use Rattle.calendar_holidays.proofs.Holidays.{fixed_early, fixed_later}
use Rattle.calendar_holidays.proofs.is_fixed_holiday.Goals as goal

pub returns-then-day-gt-LAST_DAY : goal.returns-then-day-gt-LAST_DAY
unfolding is_fixed_holiday
returns-then-day-gt-LAST_DAY c = rw (lt-leb _ _ c.if-day-gt-LAST_DAY.true)

pub returns-then-passed-lt59 : goal.returns-then-passed-lt59
unfolding place_of is_fixed_holiday
returns-then-passed-lt59 c =
    rw (c.is_before_march.ensures, c.place_of-leap.ensures, le-leb _ _ c.if-day-gt-LAST_DAY.false)
    (fixed_early _ _ _ (since_new_year c.args.day) (rw c.place_of-leap.ensures at c.if-passed-lt59.true))

pub overflow_sub-passed : goal.overflow_sub-passed
overflow_sub-passed c = omega (arith, place_leap c.args.day c.place_of-leap.ensures)

pub returns-else-passed-lt59 : goal.returns-else-passed-lt59
unfolding place_of is_fixed_holiday
returns-else-passed-lt59 c =
    rw (c.is_after_february.ensures, c.place_of-leap.ensures, le-leb _ _ c.if-day-gt-LAST_DAY.false)
    (fixed_later _ _ _ (since_new_year c.args.day) (rw c.place_of-leap.ensures at c.if-passed-lt59.false))
