-- `file_reading::count_days` meets its contract. The loop's invariant: the days so far and those of what is left are all of them.
use Rattle.std.proofs.Common.{◌≡◌, ◌+◌, ◌-◌, drop}
use Rattle.file_record.specs.Reader.{run, is_dy_of, dy_length, days_from}
use Rattle.file_reading.proofs.count_days.Given as goal

abbrev pub invariant-loop-days : goal.invariant-loop-days
invariant-loop-days l = l.days + run is_dy_of dy_length (128 - l.days) (l.first + l.days) l.rest ≡ days_from l.first (drop l.base l.file)
