-- The checks on bytes: each computes.
use mathlib.Core.Path.{refl}
use Rattle.method.specs.Table.{size}
use Rattle.file_record.specs.Layout.{pf_record, mv_record, dy_record, ev_record, mv_records, ev_records}
use Rattle.file_record.specs.Reader.{number_at, opens_with, is_record, is_pf, is_mv, is_dy, is_ev, run, is_dy_of}
use Rattle.file_record.specs.Reader.{moves_from, moves_in, days_from, events_from, file_base, move_numbers, list_in, first_in, days_in, day_start, event_start, events_in, good_end, shape_in, read_file}
use Rattle.file_record.specs.Reader.{event_of, request_at}
use Rattle.file_record.specs.Checks.{pf, mv, ev, flat, Checks}
use Rattle.base_bytes.specs.Bytes.{bytes, reading_bytes}

pub checks : Checks
unfolding size bytes pf_record reading_bytes mv_record dy_record ev_record mv_records ev_records number_at opens_with is_record is_pf is_mv is_dy is_ev run is_dy_of moves_from
    moves_in days_from events_from file_base move_numbers list_in first_in days_in day_start event_start events_in good_end shape_in read_file event_of request_at pf mv ev flat
checks =
    record {
      pf_bytes = refl;
      ev_bytes = refl;
      dy_bytes = refl;
      mv_bytes = refl;
      empty = refl;
      cut = refl;
      foreign = refl;
      alone = refl;
      one_event = refl;
      cut_event = refl;
      second_pf = refl;
      by_high = refl;
      by_average = refl;
      by_255 = refl;
      all_events = refl;
      event_65 = refl;
      two_days = refl;
      cut_day = refl;
      gap = refl;
      late_day = refl;
      on_last_day = refl;
      no_turn = refl;
      one_move = refl;
      cut_move = refl;
      all_moves = refl;
      move_17 = refl;
      move_first = refl;
      move_after_day = refl;
      move_after_event = refl;
      moves_and_day = refl;
      list_said = refl;
      no_list = refl;
    }
