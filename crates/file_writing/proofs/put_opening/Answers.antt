-- `file_writing::put_opening` meets its contract: the PF is put, and then the MV.
use native.Mathlib.Omega.{arith}
use Rattle.file_writing.proofs.Records.{opening_put}
use Rattle.file_writing.proofs.put_opening.Goals as goal

pub returns : goal.returns
returns c =
    opening_put c.args.shape.participation c.args.shape.portfolio c.args.moves.now c.args.out.now (omega (arith, c.requires)) c.put_opening.ensures
    c.put_moves.ensures
