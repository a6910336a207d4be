-- The rules of a request as numbers, and that numbers say what rules do.
use Rattle.std.specs.Prelude.{ℕ, ◌+◌, ◌≤◌, ◌<◌, ◌≡◌, Bool, cond, List, [], ◌∷◌, map, get_or, replicate}
use Rattle.base_lists.specs.Lists.{places}
use Rattle.calendar_groups.specs.declared.Group.{Group}
use Rattle.calendar_groups.specs.declared.Group.TheVariants.{Weekday, Saturday, HolidayGroup}
use Rattle.method.specs.declared.Request.{Request}
use Rattle.method.specs.Table.{Day}
use Rattle.method.specs.Adjustment.{is_average}
use Rattle.method.specs.Eligible.{higher, sort_by}
use Rattle.method.specs.Rules.{Rules}
use Rattle.method.specs.AverageXofY.{seven_days}
use Rattle.engine_rules.specs.declared.SpareOrder.{SpareOrder}
use Rattle.engine_rules.specs.declared.SpareOrder.TheVariants.{Highest, Latest}
use Rattle.engine_rules.specs.declared.Rules.{Rules as Numbers}

-- the order that spare days fill a shortage in, given nearest first
abbrev pub in_order : Request → SpareOrder → List (ℕ × Day) → List (ℕ × Day)
in_order r Highest = sort_by (higher r)
in_order r Latest = λ days. days

-- a number for each size of a window, 0 to 10
abbrev pub by_size : (ℕ → ℕ) → List ℕ
by_size f = map f (places 11 0)

-- at most ten days stand in a window, fewer are filled up to, and of a window at most five are taken, none that is not there
pub record Sound (numbers : Numbers) : Type 0 where
  pub ten : numbers.most ≤ 10
  pub fills : numbers.fill < numbers.most
  pub within : (size : ℕ) → size ≤ 10 → get_or numbers.passed size 0 + get_or numbers.taken size 0 ≤ size
  pub five : (size : ℕ) → size ≤ 10 → get_or numbers.taken size 0 ≤ 5

-- these numbers say what the rules do
pub record Follows (r : Request) (rules : Rules) (numbers : Numbers) : Type 0 where
  pub most : numbers.most ≡ rules.most
  pub fill : numbers.fill ≡ rules.fill
  pub order : in_order r numbers.spares ≡ rules.order
  pub passed : numbers.passed ≡ by_size rules.passed
  pub taken : numbers.taken ≡ by_size rules.taken
  pub sound : Sound numbers

-- numbers by which no rank is passed over, and the highest spares fill first
abbrev pub first_ranks : ℕ → ℕ → List ℕ → Numbers
first_ranks most fill taken = record { most = most; fill = fill; spares = Highest; passed = replicate 11 0; taken = taken }

-- numbers by which the middle ranks are taken, and the latest spares fill first
abbrev pub middle_ranks : ℕ → ℕ → List ℕ → Numbers
middle_ranks most fill taken =
    record {
      most = most;
      fill = fill;
      spares = Latest;
      passed = 0 ∷ 0 ∷ 0 ∷ 1 ∷ 1 ∷ 1 ∷ 1 ∷ 1 ∷ 1 ∷ 1 ∷ 4 ∷ [];
      taken = taken;
    }

-- High X of Y: how many are taken by the size of the window
abbrev pub in_high : Group → Numbers
in_high Weekday = first_ranks 10 5 (0 ∷ 0 ∷ 0 ∷ 0 ∷ 0 ∷ 5 ∷ 5 ∷ 5 ∷ 5 ∷ 5 ∷ 5 ∷ [])
in_high Saturday = first_ranks 3 2 (0 ∷ 0 ∷ 2 ∷ 2 ∷ 2 ∷ 2 ∷ 2 ∷ 2 ∷ 2 ∷ 2 ∷ 2 ∷ [])
in_high HolidayGroup = first_ranks 3 2 (0 ∷ 0 ∷ 2 ∷ 2 ∷ 2 ∷ 2 ∷ 2 ∷ 2 ∷ 2 ∷ 2 ∷ 2 ∷ [])

-- Average X of Y: the same, where there are seven calendar days of data, or are not
abbrev pub in_average : Group → Bool → Numbers
in_average Weekday seven = middle_ranks 10 4 (0 ∷ 0 ∷ cond seven 2 0 ∷ cond seven 2 0 ∷ 2 ∷ 2 ∷ 2 ∷ 2 ∷ 2 ∷ 2 ∷ 2 ∷ [])
in_average Saturday seven = middle_ranks 4 0 (0 ∷ cond seven 1 0 ∷ 2 ∷ 2 ∷ 2 ∷ 2 ∷ 2 ∷ 2 ∷ 2 ∷ 2 ∷ 2 ∷ [])
in_average HolidayGroup seven = middle_ranks 4 0 (0 ∷ cond seven 1 0 ∷ 2 ∷ 2 ∷ 2 ∷ 2 ∷ 2 ∷ 2 ∷ 2 ∷ 2 ∷ 2 ∷ [])

-- the numbers of a request on a day of a group
unfoldable pub in_numbers : Group → Request → Numbers
in_numbers group r = cond (is_average r) (in_average group (seven_days r)) (in_high group)
