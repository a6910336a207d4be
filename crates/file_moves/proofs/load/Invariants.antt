-- `file_moves::load` meets its contract. The loop's invariant: the numbers written and those left to write are the whole (`Filling`).
use Prim.Native.Nat.{◌*◌, ◌-◌, ◌≤◌}
use lib.ListN.{drop}
use Rattle.base_bytes.proofs.Filling.{Filling}
use Rattle.file_record.specs.Reader.{move_start, move_numbers}
use Rattle.file_record.specs.Steps.{list_within}
use Rattle.file_moves.proofs.load.Given as goal

abbrev pub invariant-loop-k : goal.invariant-loop-k
invariant-loop-k l = (l.k ≤ l.fn.shape.moves) × Filling l.initial.moves (list_within l.fn.shape l.file) l.moves (move_numbers (l.fn.shape.moves - l.k) (drop (move_start l.k) l.file)) (2 * l.k)
