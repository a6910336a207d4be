-- `calendar_dates::Date::of_day` meets its contract: the months over and the days before them are the definition's, by the laws of Dates.
use native.Mathlib.Omega.{arith}
use borrow.Author.Rules.{rules}
use borrow.Author.Tests.{lt-leb}
use Rattle.calendar_dates.specs.Days.{dated}
use Rattle.calendar_dates.proofs.Dates.{place_in_year, place_fits, dated-on}
use Rattle.calendar_dates.proofs.Date.of_day.Goals as goal

pub returns-then-day-gt-LAST_DAY : goal.returns-then-day-gt-LAST_DAY
unfolding dated
returns-then-day-gt-LAST_DAY c = simp (lt-leb _ _ c.if-day-gt-LAST_DAY.true)

pub months_over-over-requires : goal.months_over-over-requires
months_over-over-requires c = place_in_year c.args.day c.place_of-year.ensures

pub overflow_add-result-2 : goal.overflow_add-result-2
overflow_add-result-2 c =
    omega (arith, place_fits c.args.day c.place_of-year.ensures)

pub returns : goal.returns
returns c =
    dated-on c.args.day c.place_of-year.ensures c.months_over-over.result _ c.if-day-gt-LAST_DAY.false
    c.days_of_months.ensures.0 (search rules) c.months_over-over.ensures.2
