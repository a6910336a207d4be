-- 01, "Choosing the days": the look-back and the relevant days.
use Rattle.std.specs.Prelude.{ℕ, zero, suc, ◌+◌, Bool, not, ◌&&◌, List, [], ◌∷◌, leb, eqb}
use Rattle.base_lists.specs.Lists.{keep}
use Rattle.calendar_groups.specs.declared.Group.{Group}
use Rattle.calendar_groups.specs.declared.Group.TheVariants.{Weekday, Saturday, HolidayGroup}
use Rattle.method.specs.declared.Request.{Request}

-- the `k` days before day `d`, the nearest first; there is none below 0
unfoldable pub days_before : ℕ → ℕ → List ℕ
days_before zero d = []
days_before (suc k) zero = []
days_before (suc k) (suc d) = d ∷ days_before k d

-- "Look-back: the 45 days D-45 to D-1."
abbrev pub look_back : ℕ → List ℕ
look_back event = days_before 45 event

abbrev pub group_number : Group → ℕ
group_number Weekday = 0
group_number Saturday = 1
group_number HolidayGroup = 2

abbrev pub same_group : Group → Group → Bool
same_group a b = eqb (group_number a) (group_number b)

-- "A day is relevant if it lies there, is not below 0 or P, is of D's group and, when D is a weekday, is not D-1."
-- The groups of days are a parameter of all that follows.
unfoldable pub relevant : (ℕ → Group) → Request → ℕ → Bool
relevant group r d =
    leb r.participation d && same_group (group d) (group r.event) &&
    not (same_group (group r.event) Weekday && eqb (d + 1) r.event)

-- nearest first
unfoldable pub relevant_days : (ℕ → Group) → Request → List ℕ
relevant_days group r = keep (relevant group r) (look_back r.event)
