-- `file_putting::put_move` meets its contract (`Putting`).
use Rattle.std.proofs.Common.{◌∙◌, ap, take}
use native.Mathlib.Omega.{arith}
use Rattle.file_putting.proofs.Putting.{move_kept, move_put}
use Rattle.file_putting.proofs.put_move.Goals as goal

pub returns-then-out-lt-MV_LENGTH : goal.returns-then-out-lt-MV_LENGTH
returns-then-out-lt-MV_LENGTH c = let a = c.args in move_kept a.out.now a.old a.new (omega arith)

pub returns : goal.returns
returns c =
    let a = c.args in
    let h = c.put_head in
    move_put a.out.now h.new.out a.old a.new (omega arith) h.ensures (c.copy_from_slice.ensures.after ∙ ap (take 2) c.to_le_bytes.ensures)
