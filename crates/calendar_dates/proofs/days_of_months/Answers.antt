-- `calendar_dates::days_of_months` meets its contract: the table of a common year, which the laws of Months tie to the months' sum.
use Prim.Native.Nat.{◌<◌}
use native.Mathlib.Omega.{arith}
use borrow.Author.Rules.{rules}
use Rattle.calendar_dates.proofs.Months.{common-le, days_few, days_more}
use Rattle.calendar_dates.proofs.days_of_months.Goals as goal

pub returns-then-count-lt2 : goal.returns-then-count-lt2
returns-then-count-lt2 c = let a = c.args in let k : a.count < 13 = omega arith in (days_few a.year a.count c.if-count-lt2.true, omega (arith, common-le a.count k))

pub returns-else-count-lt2 : goal.returns-else-count-lt2
returns-else-count-lt2 c = let a = c.args in let k : a.count < 13 = omega arith in (rw c.leap.ensures.0 (days_more a.year a.count (search rules) k), omega (arith, common-le a.count k))
