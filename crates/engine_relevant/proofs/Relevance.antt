-- Which days are relevant, in the order in which the code asks.
use Prim.Native.Nat.{ℕ, ◌+◌, ◌%◌, ◌≤◌, ◌<◌}
use mathlib.Core.Path.{◌≡◌, refl, sym, ◌∙◌}
use mathlib.Core.Bool.{Bool, true, false, cond, not, ◌||◌, and-true, and-false}
use mathlib.Core.List.{List}
use native.Mathlib.Omega.{arith}
use lib.Dec.{eqb}
use borrow.Author.Tests.{le-leb, lt-leb, eq-eqb, ne_eqb, eqb-false}
use denote.Enum.Bare.{sameb}
use Rattle.calendar_groups.specs.contracts.Group.{the_type}
use Rattle.calendar_groups.specs.Holidays.{group, is_holiday}
use Rattle.calendar_groups.specs.declared.Group.{Group}
use Rattle.calendar_groups.specs.declared.Group.TheVariants.{Weekday, Saturday, HolidayGroup}
use Rattle.method.specs.declared.Request.{Request}
use Rattle.method.specs.Relevant.{same_group, relevant}
use Rattle.engine_relevant.specs.Steps.{relevant_to}

weekdays : (g : Group) → sameb the_type g Weekday ≡ same_group g Weekday
weekdays Weekday = refl
weekdays Saturday = refl
weekdays HolidayGroup = refl

module _ (group : ℕ → Group) (own : Group) (r : Request) (d : ℕ) where
  pub too_early : d < r.participation → false ≡ relevant_to group own r d
  unfolding relevant_to
  too_early h = rw (lt-leb r.participation d h)

  -- an event of weekdays leaves the day before it out: `same` is what a comparison of the two groups tells
  pub the_eve : {same : Bool} → same ≡ sameb the_type own Weekday → same ≡ true → d + 1 ≡ r.event → false ≡ relevant_to group own r d
  unfolding relevant_to
  the_eve s t e = rw (sym (weekdays own) ∙ sym s ∙ t, eq-eqb (d + 1) r.event e, and-false)

  module _ (h : r.participation ≤ d) {same : Bool} (s : same ≡ sameb the_type own Weekday) where
    pub no_eve : (d + 1 ≡ r.event → ⊥) → same_group (group d) own ≡ relevant_to group own r d
    unfolding relevant_to
    no_eve e = rw (le-leb r.participation d h, ne_eqb (d + 1) r.event e, and-false, and-true)

    pub no_weekday : same ≡ false → same_group (group d) own ≡ relevant_to group own r d
    unfolding relevant_to
    no_weekday t = rw (le-leb r.participation d h, sym (weekdays own) ∙ sym s ∙ t, and-true)

-- for the event's own group it is the methodology's
pub relevant_to_lem : (group : ℕ → Group) (own : Group) (r : Request) (d : ℕ) → own ≡ group r.event → relevant_to group own r d ≡ relevant group r d
unfolding relevant_to relevant
relevant_to_lem group own r d e = rw e

-- the group of a day by its day of the week and whether it is a holiday
by_tests : (sunday saturday holiday : Bool) → Group
by_tests sunday saturday holiday = cond (sunday || holiday) HolidayGroup (cond saturday Saturday Weekday)

module _ (moves : List ℕ) (d : ℕ) where
  group_by : (g : Group) → same_group (group moves d) g ≡ same_group (by_tests (eqb (d % 7) 1) (eqb (d % 7) 0) (is_holiday moves d)) g
  unfolding group by_tests
  group_by g = refl

  pub at_weekend : d % 7 < 2 → false ≡ same_group (group moves d) Weekday
  unfolding by_tests
  at_weekend h = sym (group_by Weekday ∙ go (eqb (d % 7) 1) (eqb (d % 7) 0) (is_holiday moves d) refl refl)
    where
      go : (a b c : Bool) → eqb (d % 7) 1 ≡ a → eqb (d % 7) 0 ≡ b → same_group (by_tests a b c) Weekday ≡ false
      go true b c e f = refl
      go false true true e f = refl
      go false true false e f = refl
      go false false c e f = absurd (omega (arith, eqb-false (d % 7) 1 e, eqb-false (d % 7) 0 f))

  pub in_the_week : 2 ≤ d % 7 → not (is_holiday moves d) ≡ same_group (group moves d) Weekday
  unfolding by_tests
  in_the_week h = sym (group_by Weekday ∙ rw (ne_eqb (d % 7) 1 (omega arith), ne_eqb (d % 7) 0 (omega arith)) (go (is_holiday moves d)))
    where
      go : (c : Bool) → same_group (by_tests false false c) Weekday ≡ not c
      go true = refl
      go false = refl

  pub on_saturday : d % 7 ≡ 0 → not (is_holiday moves d) ≡ same_group (group moves d) Saturday
  unfolding by_tests
  on_saturday h = sym (group_by Saturday ∙ rw (ne_eqb (d % 7) 1 (omega arith), eq-eqb (d % 7) 0 h) (go (is_holiday moves d)))
    where
      go : (c : Bool) → same_group (by_tests false true c) Saturday ≡ not c
      go true = refl
      go false = refl

  pub no_saturday : (d % 7 ≡ 0 → ⊥) → false ≡ same_group (group moves d) Saturday
  unfolding by_tests
  no_saturday h = sym (group_by Saturday ∙ rw (ne_eqb (d % 7) 0 h) (go (eqb (d % 7) 1) (is_holiday moves d)))
    where
      go : (a c : Bool) → same_group (by_tests a false c) Saturday ≡ false
      go true c = refl
      go false true = refl
      go false false = refl

  pub on-sunday : d % 7 ≡ 1 → true ≡ same_group (group moves d) HolidayGroup
  unfolding by_tests
  on-sunday h = sym (group_by HolidayGroup ∙ rw (eq-eqb (d % 7) 1 h))

  pub no_sunday : (d % 7 ≡ 1 → ⊥) → is_holiday moves d ≡ same_group (group moves d) HolidayGroup
  unfolding by_tests
  no_sunday h = sym (group_by HolidayGroup ∙ rw (ne_eqb (d % 7) 1 h) (go (eqb (d % 7) 0) (is_holiday moves d)))
    where
      go : (b c : Bool) → same_group (by_tests false b c) HolidayGroup ≡ c
      go b true = refl
      go true false = refl
      go false false = refl
