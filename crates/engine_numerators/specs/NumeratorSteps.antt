-- 01, "Adjustment and baseline", of chosen days that are read where they stand in lent readings.
use Rattle.std.specs.Prelude.{ℕ, ◌+◌, ◌%◌, ◌^◌, min, ◌≡◌, List, ◌++◌, map, take, ℤ}
use Rattle.base_lists.specs.Lists.{sum_of, places}
use Rattle.method.specs.Adjustment.{A, adjustment, unfloored, floored}
use Rattle.engine_rooms.specs.Rooms.{readings_at}
use Rattle.engine_sums.specs.QuarterSteps.{quarter_sum}
use Rattle.engine_places.specs.declared.Places.{Places}

-- B: the sum, over days of so many quarters, of the twelve readings that end at a place of the ruler that has the day twice
unfoldable pub window_sums : ℕ → List ℕ → List ℕ → ℕ → ℕ
window_sums quarters readings at end = sum_of (map (λ a. A (readings_at quarters readings a ++ readings_at quarters readings a) end) at)

-- N: of more than five, five
abbrev pub counted : Places → ℕ
counted chosen = min chosen.count 5

-- where the chosen days stand
abbrev pub chosen_at : Places → List ℕ
chosen_at chosen = take (counted chosen) chosen.at

-- "The adjustment is (N·A - B)/(12N)": its numerator
unfoldable pub adjustment_of : List ℕ → Places → List ℕ → List ℕ → ℤ
adjustment_of readings chosen yesterday today =
    adjustment (counted chosen) (A (yesterday ++ today) chosen.end) (window_sums chosen.quarters readings (chosen_at chosen) chosen.end)

-- "max(0, 12·S(t) + N·A - B)" of `n` quarters from `start` on, of days that have so many: sums and numerators are numbers of 32 bits
unfoldable pub numerators_of : ℕ → List ℕ → List ℕ → ℕ → ℤ → ℕ → List ℕ
numerators_of quarters readings at start adj n =
    map (λ q. floored (unfloored 12 (quarter_sum quarters readings at (start + q) % 2 ^ 32) adj) % 2 ^ 32) (places n 0)

-- the adjustment that is given back, and what an output of `n` places holds then
pub record Written (readings : List ℕ) (chosen : Places) (yesterday today : List ℕ) (n : ℕ) (given : ℤ) (after : List ℕ) : Type 0 where
  pub adjusted : given ≡ adjustment_of readings chosen yesterday today
  pub output : after ≡ numerators_of chosen.quarters readings (chosen_at chosen) chosen.start (adjustment_of readings chosen yesterday today) n
