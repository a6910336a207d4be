-- 02, order 2: holidays that are moved; 01, "Days and groups": the group of a day.
use Rattle.std.specs.Prelude.{ℕ, ◌*◌, ◌%◌, Bool, true, false, cond, not, ◌&&◌, ◌||◌, List, [], ◌∷◌, leb, eqb, length}
use Rattle.base_lists.specs.Lists.{member}
use Rattle.calendar_dates.specs.Days.{last_day}
use Rattle.calendar_holidays.specs.Yearly.{is_fixed_holiday, is_easter_holiday}
use Rattle.calendar_groups.specs.declared.Group.{Group}
use Rattle.calendar_groups.specs.declared.Group.TheVariants.{Weekday, Saturday, HolidayGroup}

-- 02, order 2: "a list of up to 16 pairs, fixed-date holiday and the day that replaces it", as numbers, two for each pair: the first days of
-- the pairs, and their second days
unfoldable pub first_days : List ℕ → List ℕ
first_days (old ∷ new ∷ more) = old ∷ first_days more
first_days (old ∷ []) = []
first_days [] = []

unfoldable pub second_days : List ℕ → List ℕ
second_days (old ∷ new ∷ more) = new ∷ second_days more
second_days (old ∷ []) = []
second_days [] = []

-- "the old date stops being a holiday unless another rule or some pair makes it one"
unfoldable pub is_holiday : List ℕ → ℕ → Bool
is_holiday moves d = (is_fixed_holiday d && not (member d (first_days moves))) || is_easter_holiday d || member d (second_days moves)

-- "a pair whose first day is no fixed-date holiday .. or a day past 36,524": none; and no number without its pair
unfoldable pub good_pairs : List ℕ → Bool
good_pairs (old ∷ new ∷ more) = is_fixed_holiday old && leb new last_day && good_pairs more
good_pairs (old ∷ []) = false
good_pairs [] = true

-- a number of a list comes again in it
unfoldable pub repeated : List ℕ → Bool
repeated [] = false
repeated (d ∷ more) = member d more || repeated more

-- nor "a repeated first day, more than 16 pairs": a list that 14 does not refuse
unfoldable pub good_moves : List ℕ → Bool
good_moves moves = leb (length moves) (2 * 16) && good_pairs moves && not (repeated (first_days moves))

-- day 0 is a Saturday
abbrev pub is_saturday : ℕ → Bool
is_saturday d = eqb (d % 7) 0

abbrev pub is_sunday : ℕ → Bool
is_sunday d = eqb (d % 7) 1

-- "Each day is in one group: holiday group (a Sunday or any holiday), Saturday (a Saturday that is no holiday), weekday (the rest)."
unfoldable pub group : List ℕ → ℕ → Group
group moves d = cond (is_sunday d || is_holiday moves d) HolidayGroup (cond (is_saturday d) Saturday Weekday)
