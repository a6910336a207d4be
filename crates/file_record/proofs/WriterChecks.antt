-- The checks of the writer: each computes.
use mathlib.Core.Path.{refl}
use Rattle.base_lists.specs.Lists.{all}
use Rattle.base_bytes.specs.Bytes.{bytes, reading_bytes}
use Rattle.method.specs.Table.{size, offset}
use Rattle.file_record.specs.Layout.{pf_record, mv_record, dy_record, ev_record, mv_records, dy_records, ev_records, file_of, fits_event}
use Rattle.file_record.specs.Writer.{events_of, matching, days_in_bounds, few_of, sayable, writing, leaving}
use Rattle.file_record.specs.Checks.{pf, mv, ev, flat}
use Rattle.file_record.specs.WriterChecks.{WriterChecks}

pub writer_checks : WriterChecks
unfolding all bytes reading_bytes size offset pf_record mv_record dy_record ev_record mv_records dy_records ev_records file_of fits_event events_of matching days_in_bounds
    few_of sayable writing leaving pf mv ev flat
writer_checks =
    record {
      no_days = refl;
      short = refl;
      first_alone = refl;
      day_and_event = refl;
      reading_95 = refl;
      reading_97 = refl;
      reading_alone = refl;
      day_129 = refl;
      one_first = refl;
      thirteen_first = refl;
      day_65535 = refl;
      day_65536 = refl;
      participation_65535 = refl;
      participation_65536 = refl;
      all_fields = refl;
      event_65536 = refl;
      start_256 = refl;
      end_256 = refl;
      notice_256 = refl;
      method_256 = refl;
      events_64 = refl;
      events_65 = refl;
      four_numbers = refl;
      six_numbers = refl;
      moves_16 = refl;
      moves_17 = refl;
      half_a_move = refl;
      move_65535 = refl;
      old_65536 = refl;
      new_65536 = refl;
      stands = refl;
      moves_stand = refl;
      method_stands = refl;
      keeps = refl;
    }
