-- `Date::day_number` meets its contract: each test that fails makes the definition None; a month's length is the difference of two sums.
use mathlib.Core.Path.{◌≡◌}
use mathlib.Core.Bool.{true, false, ◌&&◌}
use borrow.Author.Rules.{rules}
use Prim.Native.Nat.{◌-◌}
use lib.Dec.{leb}
use Rattle.base_lists.proofs.Sums.{sum_before}
use Rattle.calendar_dates.specs.Days.{months}
use Rattle.calendar_dates.proofs.Dates.{no_month, no_day, its_day}
use Rattle.calendar_dates.proofs.Date.day_number.Goals as goal

pub returns-then-not-is_month : goal.returns-then-not-is_month
returns-then-not-is_month c = no_month c.args.self c.is_month.ensures c.if-not-is_month.true

pub overflow_sub-length : goal.overflow_sub-length
overflow_sub-length c =
    let t = c.args.self in
    rw (c.days_of_months.ensures.0, c.days_of_months-before.ensures.0) (sum_before (months t.year) t.month)

pub returns-then-not-contains : goal.returns-then-not-contains
returns-then-not-contains c =
    let t = c.args.self in
    let out : (leb 1 t.day && leb t.day (c.days_of_months.result - c.days_of_months-before.result)) ≡ false = search rules in
    no_day t c.is_month.ensures c.if-not-is_month.false c.days_of_months.ensures.0 c.days_of_months-before.ensures.0 out

pub returns : goal.returns
returns c =
    let t = c.args.self in
    let within : (leb 1 t.day && leb t.day (c.days_of_months.result - c.days_of_months-before.result)) ≡ true = search rules in
    its_day t c.is_month.ensures c.if-not-is_month.false c.days_of_months.ensures.0 c.days_of_months-before.ensures.0 within c.new_year.ensures.0
