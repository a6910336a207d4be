-- 02, order 3: the day-ahead baseline, Average X of Y. Source 001, section 3.2.2, says which days; its sentences are quoted in 000's English.
use Rattle.std.specs.Prelude.{ℕ, ◌-◌, Bool, cond, ◌&&◌, ◌||◌, leb}
use Rattle.calendar_groups.specs.declared.Group.{Group}
use Rattle.calendar_groups.specs.declared.Group.TheVariants.{Weekday, Saturday, HolidayGroup}
use Rattle.method.specs.declared.Request.{Request}
use Rattle.method.specs.Rules.{Rules}

-- "Weekday window of 10 days, else of 4": Y
abbrev pub average_y : Group → ℕ
average_y Weekday = 10
average_y Saturday = 4
average_y HolidayGroup = 4

-- weekdays alone: "the most recent days with Demand Response Events shall be selected until a total of four days is reached"
abbrev pub filled_to : Group → ℕ
filled_to Weekday = 4
filled_to Saturday = 0
filled_to HolidayGroup = 0

-- "the 5th and 6th in the ranking" of ten, "the 2nd and 3rd" of fewer; of three "the day with the highest average consumption shall be excluded", and two
-- "shall be used": how many ranks stand before them
abbrev pub ranks_before : ℕ → ℕ
ranks_before size = cond (leb 10 size) 4 (cond (leb 3 size) 1 0)

-- "historical data are available .. for at least seven (7) calendar days from the date of its initial participation": 02, "P is their registration date,
-- D-1 their last day of data"
abbrev pub seven_days : Request → Bool
seven_days r = leb 7 (r.event - r.participation)

-- four weekdays, and after seven days three or two, leave two to average
abbrev pub of_weekdays : Request → ℕ → ℕ
of_weekdays r size = cond (leb 4 size || (leb 2 size && seven_days r)) 2 0

-- other days: "two days shall be used"; after seven days, where there are not two, "one day shall be used"
abbrev pub of_others : Request → ℕ → ℕ
of_others r size = cond (leb 2 size) 2 (cond (leb 1 size && seven_days r) 1 0)

-- how many days of a window are averaged; none is 02's "001's rules leave no day to average"
abbrev pub averaged : Group → Request → ℕ → ℕ
averaged Weekday r size = of_weekdays r size
averaged Saturday r size = of_others r size
averaged HolidayGroup r size = of_others r size

-- spares come as the days do, the latest first; `own` is D's group
unfoldable pub average_x_of_y : Group → Request → Rules
average_x_of_y own r =
    record {
      most = average_y own;
      fill = filled_to own;
      order = λ days. days;
      passed = ranks_before;
      taken = averaged own r;
    }
