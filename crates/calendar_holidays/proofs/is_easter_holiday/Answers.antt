-- `calendar_holidays::is_easter_holiday` meets its contract: none past the calendar, then each way out is a law of Holidays, at the days passed of the day's year.
use mathlib.Core.Logic.{⊎_elim}
use native.Mathlib.Omega.{arith}
use borrow.Author.Tests.{le-leb, lt-leb}
use Rattle.calendar_dates.specs.Steps.{place_of}
use Rattle.calendar_holidays.specs.Yearly.{is_easter_holiday}
use Rattle.calendar_dates.proofs.Years.{year_of_in, year_in_calendar, since_new_year}
use Rattle.calendar_dates.proofs.Dates.{place_leap}
use Rattle.calendar_holidays.proofs.Holidays.{far_from_easter, before_easter, near_easter}
use Rattle.calendar_holidays.proofs.is_easter_holiday.Goals as goal

pub returns-then-day-gt-LAST_DAY : goal.returns-then-day-gt-LAST_DAY
unfolding is_easter_holiday
returns-then-day-gt-LAST_DAY c = rw (lt-leb _ _ c.if-day-gt-LAST_DAY.true)

pub returns-then-passed-lt45 : goal.returns-then-passed-lt45
unfolding place_of is_easter_holiday
returns-then-passed-lt45 c =
    let within = c.if-day-gt-LAST_DAY.false in
    let day = c.args.day in
    let away = rw c.place_of-year.ensures at c.then-passed-lt45.either in
    rw (le-leb _ _ within)
    (far_from_easter _ day (year_in_calendar day within) (λ l h. ⊎_elim (λ early. omega arith) (λ late. omega arith) away))

pub overflow_add-monday : goal.overflow_add-monday
overflow_add-monday c =
    omega (arith, place_leap c.args.day c.place_of-year.ensures)

pub easter_from_march-requires : goal.easter_from_march-requires
unfolding place_of
easter_from_march-requires c =
    rw c.place_of-year.ensures (year_of_in c.args.day c.if-day-gt-LAST_DAY.false)

pub overflow_add-monday-2 : goal.overflow_add-monday-2
overflow_add-monday-2 c =
    omega (arith, place_leap c.args.day c.place_of-year.ensures)

pub returns-else-monday-passed : goal.returns-else-monday-passed
unfolding place_of is_easter_holiday
returns-else-monday-passed c =
    let within = c.if-day-gt-LAST_DAY.false in
    let day = c.args.day in
    rw (lt-leb _ _ c.if-monday-passed.false, le-leb _ _ within)
    (before_easter _ _ _ _ (year_in_calendar day within) (since_new_year day)
    (rw c.place_of-year.ensures at c.easter_from_march.ensures.0) (rw c.place_of-year.ensures at c.if-monday-passed.false))

pub returns-then-monday-passed : goal.returns-then-monday-passed
unfolding place_of is_easter_holiday
returns-then-monday-passed c =
    let within = c.if-day-gt-LAST_DAY.false in
    let day = c.args.day in
    rw (c.is_from_clean_monday.ensures, c.place_of-year.ensures, le-leb _ _ within)
    (near_easter _ _ _ _ (year_in_calendar day within) (since_new_year day)
    (rw c.place_of-year.ensures at c.easter_from_march.ensures.0) (rw c.place_of-year.ensures at c.if-monday-passed.true))
