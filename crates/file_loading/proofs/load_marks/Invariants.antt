-- `file_loading::load_marks` meets its contract. The loop's invariant: the marks written and those left to write are the whole (`Filling`).
use Prim.Native.Nat.{◌+◌, ◌-◌, ◌≤◌}
use lib.ListN.{drop}
use Rattle.file_record.specs.Reader.{shape_base, day_start, marks_from}
use Rattle.base_bytes.proofs.Filling.{Filling}
use Rattle.file_loading.proofs.load_marks.Given as goal

abbrev pub invariant-loop-k : goal.invariant-loop-k
invariant-loop-k l = (l.k ≤ l.fn.shape.days) × Filling l.initial.marks (marks_from l.fn.shape.days l.fn.shape.first (drop (shape_base l.fn.shape) l.file)) l.marks (marks_from (l.fn.shape.days - l.k) (l.fn.shape.first + l.k) (drop (day_start (shape_base l.fn.shape) l.fn.shape.first l.k) l.file)) l.k
