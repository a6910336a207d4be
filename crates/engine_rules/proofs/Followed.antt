-- The numbers of a request say what its rules do, by either method and on a day of any group.
use mathlib.Core.Path.{refl}
use mathlib.Core.Bool.{Bool, true, false, cond}
use native.Mathlib.Omega.{arith}
use Rattle.base_lists.specs.Lists.{places}
use Rattle.calendar_groups.specs.declared.Group.{Group}
use Rattle.calendar_groups.specs.declared.Group.TheVariants.{Weekday, Saturday, HolidayGroup}
use Rattle.method.specs.declared.Request.{Request}
use Rattle.method.specs.Adjustment.{is_average}
use Rattle.method.specs.HighXofY.{high_x_of_y}
use Rattle.method.specs.AverageXofY.{seven_days, average_x_of_y}
use Rattle.method.specs.Requested.{rules_of}
use Rattle.engine_rules.specs.Steps.{Sound, Follows, in_high, in_average, in_numbers}
use Rattle.engine_rules.proofs.Sizes.{sound_by}

high_sound : (g : Group) → Sound (in_high g)
unfolding places
high_sound Weekday = sound_by (in_high Weekday) (omega arith) (omega arith) refl refl
high_sound Saturday = sound_by (in_high Saturday) (omega arith) (omega arith) refl refl
high_sound HolidayGroup = sound_by (in_high HolidayGroup) (omega arith) (omega arith) refl refl

average_sound : (g : Group) (seven : Bool) → Sound (in_average g seven)
unfolding places
average_sound Weekday true = sound_by (in_average Weekday true) (omega arith) (omega arith) refl refl
average_sound Weekday false = sound_by (in_average Weekday false) (omega arith) (omega arith) refl refl
average_sound Saturday true = sound_by (in_average Saturday true) (omega arith) (omega arith) refl refl
average_sound Saturday false = sound_by (in_average Saturday false) (omega arith) (omega arith) refl refl
average_sound HolidayGroup true = sound_by (in_average HolidayGroup true) (omega arith) (omega arith) refl refl
average_sound HolidayGroup false = sound_by (in_average HolidayGroup false) (omega arith) (omega arith) refl refl

module _ (r : Request) where
  high : (g : Group) → Follows r (high_x_of_y g r) (in_high g)
  unfolding high_x_of_y places
  high Weekday = record { most = refl; fill = refl; order = refl; passed = refl; taken = refl; sound = high_sound Weekday }
  high Saturday = record { most = refl; fill = refl; order = refl; passed = refl; taken = refl; sound = high_sound Saturday }
  high HolidayGroup = record { most = refl; fill = refl; order = refl; passed = refl; taken = refl; sound = high_sound HolidayGroup }

  average : (g : Group) → Follows r (average_x_of_y g r) (in_average g (seven_days r))
  unfolding average_x_of_y places
  average Weekday = record { most = refl; fill = refl; order = refl; passed = refl; taken = refl; sound = average_sound Weekday (seven_days r) }
  average Saturday = record { most = refl; fill = refl; order = refl; passed = refl; taken = refl; sound = average_sound Saturday (seven_days r) }
  average HolidayGroup = record { most = refl; fill = refl; order = refl; passed = refl; taken = refl; sound = average_sound HolidayGroup (seven_days r) }

pub followed : (g : Group) (r : Request) → Follows r (rules_of g r) (in_numbers g r)
unfolding rules_of in_numbers
followed g r = by (is_average r)
  where
    by : (b : Bool) → Follows r (cond b (average_x_of_y g r) (high_x_of_y g r)) (cond b (in_average g (seven_days r)) (in_high g))
    by true = average r g
    by false = high r g
