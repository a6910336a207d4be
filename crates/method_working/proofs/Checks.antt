-- Every line of the table of checks holds, by computation of the definitions.
use mathlib.Core.Path.{refl}
use Rattle.method.proofs.Checks.{definitions}
use Rattle.method_working.specs.Working.{reason_of, reason, summed, rank_in, by_rank, rank, is_chosen, chooses, ends, adjusts, answers}
use Rattle.method_working.specs.Sheet.{sheet_of, day_of_rank, days_taken, adjustment_shown, numerator_shown}
use Rattle.method_working.specs.Checks.{Checks}

pub checks : Checks
unfolding definitions reason_of reason summed rank_in by_rank rank is_chosen chooses ends adjusts answers sheet_of day_of_rank days_taken adjustment_shown numerator_shown
checks =
    record {
      worked_reasons = refl;
      worked_sums = refl;
      worked_ranks = refl;
      worked_chosen = refl;
      worked_passed = refl;
      worked_taken = refl;
      worked_days = refl;
      worked_end = refl;
      worked_a = refl;
      worked_b = refl;
      worked_s = refl;
      worked_adjustment = refl;
      worked_numerators = refl;
      worked_steps = refl;
      day_0 = refl;
      since_p = refl;
      day_before = refl;
      easter_sunday = refl;
      monday = refl;
      one_held = refl;
      not_asked = refl;
      both_marks = refl;
      other_marks = refl;
      missing_reading = refl;
      sums = refl;
      no_sum = refl;
      no_sum_held = refl;
      in_a_list = refl;
      ties = refl;
      below_0 = refl;
      average_ranks = refl;
      average_chosen = refl;
      average_days = refl;
      average_adjustment = refl;
      average_numerator = refl;
      short_margin = refl;
      too_few = refl;
      filled = refl;
      no_window = refl;
      no_end = refl;
      average_steps = refl;
    }
