-- `file_writing::put_moves` meets its contract. The loop's invariant: the moves written and those left to write are the whole (`Filling`).
use Prim.Native.Nat.{◌*◌, ◌/◌, ◌≤◌}
use lib.ListN.{length}
use Rattle.base_bytes.proofs.Filling.{Filling}
use Rattle.file_record.specs.Layout.{mv_records}
use Rattle.file_record.specs.Reader.{mv_length}
use Rattle.file_writing.proofs.Records.{moves_left}
use Rattle.file_writing.proofs.put_moves.Given as goal

abbrev pub invariant-loop-i : goal.invariant-loop-i
invariant-loop-i l = (l.i ≤ length l.moves / 2) × Filling l.initial.out (mv_records l.moves) l.out (moves_left l.moves l.i) (mv_length * l.i)
