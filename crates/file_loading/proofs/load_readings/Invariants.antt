-- `file_loading::load_readings` meets its contract. The loop's invariant: the days written and those left to write are the whole (`Filling`).
use Prim.Native.Nat.{◌+◌, ◌-◌, ◌≤◌}
use lib.ListN.{drop}
use Rattle.file_record.specs.Reader.{readings_from}
use Rattle.file_record.specs.Steps.{span_within}
use Rattle.base_bytes.proofs.Filling.{Filling}
use Rattle.file_loading.proofs.Loading.{start, place}
use Rattle.file_loading.proofs.load_readings.Given as goal

abbrev pub invariant-loop-k : goal.invariant-loop-k
invariant-loop-k l = (l.fn.span.start ≤ l.k) × (l.k ≤ l.fn.span.end) × Filling l.initial.readings (span_within l.fn.shape l.fn.span l.file).readings l.readings (readings_from (l.fn.span.end - l.k) (l.fn.shape.first + l.k) (drop (start l.fn.shape l.k) l.file)) (place l.fn.shape l.fn.span l.k)
