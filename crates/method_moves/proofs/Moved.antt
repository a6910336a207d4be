-- Every line of the table of moved holidays holds, by computation of the definitions.
use Prim.Native.Nat.{ℕ}
use mathlib.Core.Path.{◌≡◌, refl}
use mathlib.Core.Bool.{true}
use mathlib.Core.List.{[], ◌∷◌}
use Rattle.calendar_groups.specs.Holidays.{good_moves, group}
use Rattle.calendar_groups.proofs.Calendar.{onto_itself}
use Rattle.method.proofs.Checks.{definitions}
use Rattle.method_moves.specs.Moved.{◌March◌, stays, Moved}

good : good_moves (25 March 2024 ∷ 25 March 2024 ∷ []) ≡ true
unfolding definitions
good = refl

itself : (d : ℕ) → group (25 March 2024 ∷ 25 March 2024 ∷ []) d ≡ group [] d
unfolding group
itself d = rw (onto_itself (25 March 2024) [] d good) refl

pub moved : Moved
unfolding definitions stays
moved =
    record {
      may_1 = refl;
      may_7 = refl;
      may_1_without = refl;
      may_7_without = refl;
      may_5 = refl;
      may_5_easter = refl;
      window_with = refl;
      window_without = refl;
      answer_with = refl;
      answer_without = refl;
      onto_itself = itself;
      onto_itself_good = refl;
      may_2 = refl;
      twice = refl;
      two_days = refl;
      one_day = refl;
      one_day_both = refl;
      pairs_16 = refl;
      pairs_17 = refl;
      half_a_pair = refl;
      half_behind = refl;
      on_last_day = refl;
      past_last = refl;
      moved_past = refl;
      next_year = refl;
      moved_sunday = refl;
      holy_saturday = refl;
      holy_saturday_moved = refl;
      moved_saturday = refl;
      saturday_off = refl;
      three_first = refl;
      before_four = refl;
      then_four = refl;
    }
