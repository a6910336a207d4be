-- Why a day is used or is not, one law a way out of the code.
use Prim.Native.Nat.{ℕ, ◌+◌, ◌-◌, ◌≤◌, ◌<◌}
use mathlib.Core.Path.{◌≡◌, refl}
use mathlib.Core.Bool.{Bool, true, false, cond, not, ◌&&◌, ◌||◌}
use native.Mathlib.Omega.{arith}
use lib.Dec.{ltb, eqb}
use borrow.Author.Tests.{eq-eqb, ne_eqb, lt-ltb, le-ltb}
use denote.Enum.Bare.{sameb}
use Rattle.base_lists.proofs.Bools.{same_eqb}
use Rattle.calendar_groups.specs.declared.Group.{Group}
use Rattle.calendar_groups.specs.declared.Group.TheVariants.{Weekday, Saturday, HolidayGroup}
use Rattle.calendar_groups.specs.contracts.Group.{the_type}
use Rattle.method.specs.declared.Request.{Request}
use Rattle.method.specs.Table.{Day, History}
use Rattle.method.specs.Relevant.{same_group}
use Rattle.method_working.specs.declared.Reason.TheVariants.{TooEarly, AnotherGroup, DayBefore}
use Rattle.method_working.specs.Working.{reason}
use Rattle.engine_reasons.specs.Steps.{held_reason}

-- groups that are told apart by code
told_apart : (a b : Group) → sameb the_type a b ≡ same_group a b
told_apart Weekday Weekday = refl
told_apart Weekday Saturday = refl
told_apart Weekday HolidayGroup = refl
told_apart Saturday Weekday = refl
told_apart Saturday Saturday = refl
told_apart Saturday HolidayGroup = refl
told_apart HolidayGroup Weekday = refl
told_apart HolidayGroup Saturday = refl
told_apart HolidayGroup HolidayGroup = refl

module _ (group : ℕ → Group) (r : Request) (h : History Day) (back : ℕ) where
  pub below_0 : r.event < back → TooEarly ≡ reason group r h back
  unfolding reason
  below_0 o = rw (lt-ltb r.event back o)

  pub before_p : r.event - back < r.participation → TooEarly ≡ reason group r h back
  unfolding reason
  before_p o = rw (lt-ltb (r.event - back) r.participation o) (go (ltb r.event back))
    where
      go : (b : Bool) → TooEarly ≡ cond (b || true) TooEarly (cond (not (same_group (group (r.event - back)) (group r.event))) AnotherGroup
          (cond (same_group (group r.event) Weekday && eqb (r.event - back + 1) r.event) DayBefore (held_reason r h back)))
      go true = refl
      go false = refl

  module _ (a : back ≤ r.event) (b : r.participation ≤ r.event - back) where
    in_time : (ltb r.event back || ltb (r.event - back) r.participation) ≡ false
    in_time = rw (le-ltb r.event back a, le-ltb (r.event - back) r.participation b)

    -- D-1 is the day 1 day before D
    eve : eqb (r.event - back + 1) r.event ≡ eqb back 1
    eve = same_eqb (r.event - back + 1) r.event back 1 (λ e. omega arith) (λ e. omega arith)

    pub another : not (sameb the_type (group (r.event - back)) (group r.event)) ≡ true → AnotherGroup ≡ reason group r h back
    unfolding reason
    another o = rw (in_time, ← told_apart (group (r.event - back)) (group r.event), o)

    module _ (same : not (sameb the_type (group (r.event - back)) (group r.event)) ≡ false) where
      pub day_before : sameb the_type (group r.event) Weekday ≡ true → back ≡ 1 → DayBefore ≡ reason group r h back
      unfolding reason
      day_before w e = rw (in_time, ← told_apart (group (r.event - back)) (group r.event), same, ← told_apart (group r.event) Weekday, w, eve, eq-eqb back 1 e)

      pub other_day : (back ≡ 1 → ⊥) → held_reason r h back ≡ reason group r h back
      unfolding reason
      other_day n = rw (in_time, ← told_apart (group (r.event - back)) (group r.event), same, eve, ne_eqb back 1 n) (go (same_group (group r.event) Weekday))
        where
          go : (b : Bool) → held_reason r h back ≡ cond (b && false) DayBefore (held_reason r h back)
          go true = refl
          go false = refl

      pub no_weekday : sameb the_type (group r.event) Weekday ≡ false → held_reason r h back ≡ reason group r h back
      unfolding reason
      no_weekday w = rw (in_time, ← told_apart (group (r.event - back)) (group r.event), same, ← told_apart (group r.event) Weekday, w)

pub ruleset ways_out = (below_0, before_p, another, day_before, other_day, no_weekday)
