-- `file_writing::put_days` meets its contract. The loop's invariant: the days written and those left to write are the whole (`Filling`).
use Prim.Native.Nat.{◌≤◌}
use lib.ListN.{length}
use Rattle.base_bytes.proofs.Filling.{Filling}
use Rattle.file_record.specs.Layout.{dy_records}
use Rattle.file_record.specs.Reader.{day_start}
use Rattle.file_writing.proofs.Records.{days_left}
use Rattle.file_writing.proofs.put_days.Given as goal

abbrev pub invariant-loop-k : goal.invariant-loop-k
invariant-loop-k l = (l.k ≤ length l.marks) × Filling l.initial.out (dy_records l.fn.first l.marks l.readings) l.out (days_left l.fn.first l.marks l.readings l.k) (day_start 0 l.fn.first l.k)
