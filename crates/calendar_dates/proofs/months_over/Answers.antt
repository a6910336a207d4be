-- `calendar_dates::months_over` meets its contract: both ways out are laws of Months.
use native.Mathlib.Omega.{arith}
use Rattle.calendar_dates.proofs.Months.{over_least, over_so, over_next}
use Rattle.calendar_dates.proofs.months_over.Goals as goal

pub days_of_months-requires : goal.days_of_months-requires
days_of_months-requires c = omega (arith, over_least c.args.year c.args.passed c.requires)

pub returns-then-passed-days_of_months : goal.returns-then-passed-days_of_months
returns-then-passed-days_of_months c = let a = c.args in over_so a.year a.passed c.requires (rw c.days_of_months.ensures.0 at c.if-passed-days_of_months.true)

pub returns-else-passed-days_of_months : goal.returns-else-passed-days_of_months
returns-else-passed-days_of_months c = let a = c.args in over_next a.year a.passed c.requires (rw c.days_of_months.ensures.0 at c.if-passed-days_of_months.false)
