-- The checks on the overlap of events: each computes.
use mathlib.Core.Path.{refl}
use Rattle.base_bytes.specs.Bytes.{bytes, reading_bytes}
use Rattle.base_lists.specs.Lists.{keep, all, any, member, sum_of, least_of, places}
use Rattle.calendar_dates.specs.Days.{leap, months, new_year, day_number, year_of}
use Rattle.calendar_holidays.specs.Yearly.{easter, fixed_holidays, easter_holidays, is_fixed_holiday, is_easter_holiday}
use Rattle.calendar_groups.specs.Holidays.{first_days, second_days, is_holiday, good_pairs, repeated, good_moves, group}
use Rattle.method.specs.Table.{size, held}
use Rattle.method.specs.Ruler.{ruler_start, ruler_end}
use Rattle.method.specs.Relevant.{days_before, relevant, relevant_days}
use Rattle.method.specs.Method.{whole_reach}
use Rattle.method.specs.Rules.{method_by}
use Rattle.method.specs.Requested.{method_of}
use Rattle.method.specs.Verdict.{good_request, list_refusals}
use Rattle.file_record.specs.Layout.{pf_record, mv_record, dy_record, ev_record}
use Rattle.file_record.specs.Reader.{number_at, opens_with, is_record, is_pf, is_mv, is_dy, is_ev, run, is_dy_of, moves_from, moves_in, days_from, events_from, file_base, move_numbers, list_in}
use Rattle.file_record.specs.Reader.{first_in, days_in, day_start, event_start, events_in, good_end, shape_in, read_file, marks_from, table_in, event_of, request_at}
use Rattle.file_record.specs.Checks.{pf, mv, ev, flat}
use Rattle.host_answer.specs.Names.{row_after}
use Rattle.host_overlap.specs.Overlap.{overlap_tests, numbers_of, overlap_numbers, overlap_row, is_asked, needed_days, least_told}
use Rattle.host_overlap.specs.Checks.{wednesday, unknown, Checks}

pub checks : Checks
unfolding ruler_start ruler_end bytes reading_bytes keep all any member sum_of least_of places leap months new_year day_number year_of easter fixed_holidays easter_holidays is_fixed_holiday is_easter_holiday
    first_days second_days is_holiday good_pairs repeated good_moves group size held days_before relevant relevant_days whole_reach method_by method_of good_request list_refusals pf_record
    mv_record dy_record ev_record number_at opens_with is_record is_pf is_mv is_dy is_ev run is_dy_of moves_from moves_in days_from events_from file_base move_numbers list_in first_in days_in day_start
    event_start events_in good_end shape_in read_file marks_from table_in event_of request_at pf mv ev flat row_after overlap_tests numbers_of overlap_numbers overlap_row is_asked needed_days
    least_told wednesday unknown
checks =
    record {
      no_days = refl;
      two_days = refl;
      day_before = refl;
      weekday = refl;
      since = refl;
      refused = refl;
      none_there = refl;
      bad_moves = refl;
      bad_request = refl;
      not_yet = refl;
      one_cut = refl;
      least_cut = refl;
      no_cut = refl;
      empty_cut = refl;
      refused_cut = refl;
    }
