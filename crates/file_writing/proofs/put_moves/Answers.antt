use native.Mathlib.Omega.{arith}
use Rattle.file_writing.proofs.Records.{move_put, moves_put}
use Rattle.file_writing.proofs.put_moves.Goals as goal

pub loop-i-preserved : goal.loop-i-preserved
loop-i-preserved c =
    let l = c.loop-i in
    let a = c.args in
    (omega arith, move_put a.moves.now l.i l.invariant.1 (omega arith) (omega (arith, l.invariant.1.long)) c.put_move.ensures)

pub returns : goal.returns
returns c =
    let l = c.loop-i in
    moves_put c.args.moves.now l.i l.invariant.1 (omega arith) c.requires
