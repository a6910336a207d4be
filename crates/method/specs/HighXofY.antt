-- 01, "Choosing the days": the methodology's own method, High X of Y.
use Rattle.std.specs.Prelude.{ℕ, cond, ltb}
use Rattle.calendar_groups.specs.declared.Group.{Group}
use Rattle.calendar_groups.specs.declared.Group.TheVariants.{Weekday, Saturday, HolidayGroup}
use Rattle.method.specs.declared.Request.{Request}
use Rattle.method.specs.Eligible.{higher, sort_by}
use Rattle.method.specs.Rules.{Rules}

-- "Y and N are 10 and 5 for a weekday, 3 and 2 otherwise."
abbrev pub Y : Group → ℕ
Y Weekday = 10
Y Saturday = 3
Y HolidayGroup = 3

abbrev pub N : Group → ℕ
N Weekday = 5
N Saturday = 2
N HolidayGroup = 2

-- "the Y most recent eligible days", spares "highest first, until N are reached", "the first N are chosen", and "too few: window below N"; `own` is
-- D's group
unfoldable pub high_x_of_y : Group → Request → Rules
high_x_of_y own r =
    record {
      most = Y own;
      fill = N own;
      order = sort_by (higher r);
      passed = λ size. 0;
      taken = λ size. cond (ltb size (N own)) 0 (N own);
    }
