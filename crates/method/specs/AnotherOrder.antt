-- Two windows of the same days in another order: the two longer histories of demand 3 need not differ by a day. `proofs/AnotherOrder` proves it.
use Rattle.std.specs.Prelude.{◌≡◌, [], ◌∷◌, ◌++◌, ℕ, replicate, set}
use Rattle.calendar_groups.specs.Holidays.{group}
use Rattle.method.specs.declared.Refusal.TheVariants.{MarginTooShort}
use Rattle.method.specs.Table.{Table}
use Rattle.method.specs.Verdict.{refused, verdict}
use Rattle.method.specs.CutTables.{LongerFormed, window_days, Undecided}
use Rattle.method.specs.Checks.{◌January◌, ◌February◌, at15, marked}

-- Saturday 2 February 2019 (day 6972) alone
abbrev pub last_saturday : Table
last_saturday = marked (2 February 2019) (2 February 2019) []

-- the fifteen days from Saturday 19 January (day 6958) on, of which it has the higher load, with this mark on it and on the Saturday after it
abbrev pub saturdays : ℕ → Table
saturdays mark =
    record { first = 19 January 2019; marks = set (set (replicate 15 0) 0 mark) 7 mark; readings = replicate 96 1001 ++ replicate 1344 1000 }

pub record AnotherOrder : Type 0 where
  pub margin : verdict [] last_saturday (at15 6900 6972) 4 ≡ refused (MarginTooShort 42)
  -- both eligible: the most recent first
  pub eligible_longer : LongerFormed (saturdays 0) last_saturday
  pub eligible_window : window_days (group []) (saturdays 0) (at15 6900 6972) ≡ 26 January 2019 ∷ 19 January 2019 ∷ []
  -- both event days: the highest first
  pub spare_longer : LongerFormed (saturdays 1) last_saturday
  pub spare_window : window_days (group []) (saturdays 1) (at15 6900 6972) ≡ 19 January 2019 ∷ 26 January 2019 ∷ []
  -- so these two, too, give "margin too short"
  pub undecided : Undecided (group []) last_saturday (at15 6900 6972)
