-- The checks on a day of a file: each computes.
use mathlib.Core.Path.{refl}
use Rattle.method.specs.Table.{size, offset, day_of, held}
use Rattle.base_bytes.specs.Bytes.{bytes, reading_bytes}
use Rattle.file_record.specs.Layout.{pf_record, dy_record, ev_record}
use Rattle.file_record.specs.Reader.{number_at, opens_with, is_record, is_pf, is_mv, is_dy, is_ev, run, is_dy_of, moves_from, moves_in, days_from, events_from, file_base, first_in, days_in}
use Rattle.file_record.specs.Reader.{day_start, event_start, events_in, good_end, shape_in, read_file, marks_from, numbers, readings_from, table_in}
use Rattle.file_record.specs.Checks.{pf, ev, flat}
use Rattle.file_days.specs.HeldDay.{mark_of, reading_of}
use Rattle.file_days.specs.Checks.{two_days, Checks}

pub checks : Checks
unfolding size offset day_of held bytes reading_bytes pf_record dy_record ev_record number_at opens_with is_record is_pf is_mv is_dy is_ev run is_dy_of moves_from moves_in days_from
    events_from file_base first_in days_in day_start event_start events_in good_end shape_in read_file marks_from numbers readings_from table_in pf ev flat mark_of reading_of two_days
checks =
    record {
      mark_before = refl;
      mark_first = refl;
      mark_last = refl;
      mark_after = refl;
      mark_refused = refl;
      reading_first = refl;
      reading_next = refl;
      reading_missing = refl;
      reading_past = refl;
      reading_after = refl;
      reading_refused = refl;
    }
