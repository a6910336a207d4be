-- The worked listing of 01, byte for byte from its file's bytes, and what it does not show, by computation of the definitions.
use Prim.Native.Nat.{ℕ}
use mathlib.Core.Path.{◌≡◌, refl}
use Rattle.base_lists.specs.Lists.{keep, all, any, leading, member, sum_of, least_of, places}
use Rattle.calendar_dates.specs.Days.{leap, months, new_year, day_number, year_of}
use Rattle.calendar_holidays.specs.Yearly.{easter, fixed_holidays, easter_holidays, is_fixed_holiday, is_easter_holiday}
use Rattle.calendar_groups.specs.Holidays.{first_days, second_days, is_holiday}
use Rattle.calendar_groups.specs.Holidays.{good_pairs, repeated, good_moves, group}
use Rattle.base_digits.specs.Digits.{digits, dec, decimal}
use Rattle.method.specs.Table.{size, offset, day_of, held, shaped, is_extract}
use Rattle.method.specs.Relevant.{days_before, relevant, relevant_days}
use Rattle.method.specs.Method.{whole_reach, seen, eligibles, spares, window, chosen, reach, is_short, outcome}
use Rattle.method.specs.Adjustment.{window_ends, latest_end, adjustment_end, S, A, B, adjusting, adjusting_by, baseline_at, baseline}
use Rattle.method.specs.Eligible.{complete, eligible, spare, event_sum, higher, insert_by, sort_by}
use Rattle.method.specs.HighXofY.{high_x_of_y}
use Rattle.method.specs.AverageXofY.{average_x_of_y}
use Rattle.method.specs.Requested.{rules_of, method_of}
use Rattle.method.specs.Rules.{method_by}
use Rattle.method.specs.Ruler.{ruler_start, ruler_end, quarter_of, against}
use Rattle.method.specs.Verdict.{table_refusals, good_request, request_refusals, closing, first_of, methodology, list_refusals, by_list, verdict}
use Rattle.file_record.specs.Layout.{pf_record, mv_record, dy_record, ev_record, mv_records, dy_records, ev_records, file_of}
use Rattle.file_record.specs.Reader.{number_at, opens_with, is_record, is_pf, is_mv, is_dy, is_ev, run, is_dy_of, moves_from, moves_in}
use Rattle.file_record.specs.Reader.{days_from, events_from, file_base, first_in, days_in, day_start, move_numbers, list_in}
use Rattle.file_record.specs.Reader.{event_start, events_in, good_end, shape_in, read_file, marks_from, numbers, readings_from, table_in, event_of, request_at}
use Rattle.file_record.specs.Checks.{pf, mv, flat, ev}
use Rattle.listing_lines.specs.Lines.{spaced, line_text, lines_text}
use Rattle.listing_lines.specs.Listing.{refused_line, offset_of, header_line, event_line, quarter_line, quarter_lines, refusal_line, event_lines, replied_lines, lines_from}
use Rattle.listing_lines.specs.Listing.{listing_lines, listing}
use Rattle.listing_lines.specs.Worked.{worked_contents, worked_listing}
use Rattle.listing_lines.specs.Edges.{Edges}
use Rattle.base_bytes.specs.Bytes.{bytes, reading_bytes}

-- unfolding this unfolds every definition that the case computes with
definitions : ℕ
unfolding keep all any leading member sum_of least_of leap months new_year day_number year_of easter fixed_holidays easter_holidays is_fixed_holiday is_easter_holiday first_days second_days
    is_holiday good_pairs repeated good_moves group digits dec decimal size offset day_of held shaped is_extract days_before relevant relevant_days whole_reach seen eligibles spares
    window chosen reach is_short outcome window_ends latest_end adjustment_end places S A B adjusting adjusting_by baseline_at baseline complete eligible spare event_sum
    higher insert_by sort_by method_of method_by rules_of high_x_of_y average_x_of_y ruler_start ruler_end quarter_of against table_refusals good_request request_refusals closing first_of methodology list_refusals by_list verdict bytes pf_record reading_bytes
    mv_record dy_record ev_record mv_records dy_records ev_records file_of number_at opens_with is_record is_pf is_mv is_dy is_ev run is_dy_of moves_from moves_in move_numbers
    list_in days_from events_from file_base first_in days_in day_start
    event_start events_in good_end shape_in read_file marks_from numbers readings_from table_in event_of request_at spaced line_text lines_text refused_line offset_of
    header_line event_line quarter_line quarter_lines refusal_line event_lines replied_lines lines_from listing_lines listing
    pf mv flat ev
definitions = 0

pub worked_listing_lem : listing (file_of worked_contents) ≡ worked_listing
unfolding definitions
worked_listing_lem = refl

pub edges : Edges
unfolding definitions
edges = record { whole_day_lines = refl; negative = refl; two_carried = refl; file_refused = refl; moves_held = refl; moves_refused = refl; longest_file = refl }
