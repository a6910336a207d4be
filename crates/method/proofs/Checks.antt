-- Every line of the table of checks holds, by computation of the definitions.
use mathlib.Core.Path.{refl}
use Prim.Native.Nat.{ℕ}
use Rattle.base_lists.specs.Lists.{keep, all, any, leading, member, sum_of, least_of, places}
use Rattle.calendar_dates.specs.Days.{leap, months, new_year, day_number, year_of}
use Rattle.calendar_holidays.specs.Yearly.{easter, fixed_holidays, easter_holidays, holidays, is_fixed_holiday, is_easter_holiday}
use Rattle.calendar_groups.specs.Holidays.{first_days, second_days, is_holiday}
use Rattle.calendar_groups.specs.Holidays.{good_pairs, repeated, good_moves, group}
use Rattle.method.specs.Table.{size, offset, day_of, held, shaped, is_extract, day_part}
use Rattle.method.specs.Relevant.{days_before, relevant, relevant_days}
use Rattle.method.specs.Method.{whole_reach, seen, eligibles, spares, window, chosen, reach, is_short, outcome}
use Rattle.method.specs.Adjustment.{window_ends, latest_end, adjustment_end, S, A, B, adjusting, adjusting_by, baseline_at, baseline}
use Rattle.method.specs.Eligible.{complete, eligible, spare, event_sum, higher, insert_by, sort_by}
use Rattle.method.specs.HighXofY.{high_x_of_y}
use Rattle.method.specs.AverageXofY.{average_x_of_y}
use Rattle.method.specs.Requested.{rules_of, method_of}
use Rattle.method.specs.Rules.{method_by}
use Rattle.method.specs.Ruler.{ruler_start, ruler_end, quarter_of, against}
use Rattle.method.specs.Verdict.{table_refusals, good_request, request_refusals, closing, first_of, methodology, list_refusals, by_list, verdict, written, well_formed}
use Rattle.method.specs.Checks.{Checks}
use Rattle.method.specs.Edges.{Edges}
use Rattle.method.proofs.Ruler.{start_is, end_is, mod_96}

-- unfolding this unfolds every definition that the tables compute with
unfoldable pub definitions : ℕ
unfolding keep all any leading member sum_of least_of leap months new_year day_number year_of easter fixed_holidays easter_holidays holidays
    is_fixed_holiday is_easter_holiday first_days second_days is_holiday good_pairs repeated good_moves group size offset day_of held shaped is_extract day_part days_before relevant relevant_days whole_reach seen eligibles spares window chosen
    reach is_short outcome window_ends latest_end adjustment_end places S A B adjusting adjusting_by baseline_at baseline complete eligible spare event_sum higher insert_by
    sort_by method_of method_by rules_of high_x_of_y average_x_of_y ruler_start ruler_end quarter_of against table_refusals good_request request_refusals closing first_of methodology list_refusals by_list verdict written well_formed
definitions = 0

pub checks : Checks
unfolding definitions
checks =
    record {
      easter_2024 = refl;
      easter_2024_day = refl;
      easter_2025 = refl;
      holy_saturday_day = refl;
      holy_saturday = refl;
      saturday_day = refl;
      saturday = refl;
      assumption_day = refl;
      assumption = refl;
      august_day = refl;
      august_window = refl;
      august_reach = refl;
      august_cut = refl;
      table_4 = refl;
      table_5_sums = refl;
      table_5_days = refl;
      table_6_sums = refl;
      table_6_averages = refl;
      numerator_30348 = refl;
      numerator_0 = refl;
      worked_answer = refl;
      worked_kilowatts = refl;
      worked_refusal = refl;
    }

pub edges : Edges
unfolding definitions
edges =
    record {
      easter_sunday = refl;
      easter_sunday_two = refl;
      ties = refl;
      forty_five = refl;
      two_of_three = refl;
      filled = refl;
      not_filled = refl;
      outage = refl;
      incomplete = refl;
      incomplete_event = refl;
      event_bits = refl;
      outage_bits = refl;
      n_12 = refl;
      n_11 = refl;
      n_12_missing = refl;
      s_missing = refl;
      none_left = refl;
      ruler_of = λ event. (start_is event, end_is event);
      mod_96 = mod_96;
      s_yesterday = refl;
      s_today = refl;
      a_across = refl;
      b_across = refl;
      halves_up = refl;
      reading_taken = refl;
      reading_refused = refl;
      missing_taken = refl;
      below_missing_refused = refl;
      missing_absent = refl;
      zero_present = refl;
      days_taken = refl;
      days_refused = refl;
      no_days_refused = refl;
      one_less_refused = refl;
      one_more_refused = refl;
      last_day_taken = refl;
      past_last_refused = refl;
      its_part = refl;
      no_part = refl;
      no_part_refused = refl;
      alone = refl;
      later = refl;
      latest_taken = refl;
      earliest_taken = refl;
      p_refused = refl;
      s_refused = refl;
      s_late_refused = refl;
      e_refused = refl;
      e_late_refused = refl;
      n_refused = refl;
      no_readings = refl;
      second_mark = refl;
      reading_100 = refl;
      no_quarters = refl;
      not_held = refl;
      not_yet = refl;
      no_room = refl;
      no_adjustment = refl;
      numbers = refl;
      carried = refl;
      refused_keeps = refl;
      answered_writes = refl;
    }
