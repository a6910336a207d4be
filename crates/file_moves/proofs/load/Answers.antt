use Prim.Native.Nat.{◌+◌, ◌-◌}
use native.Mathlib.Omega.{arith}
use native.Mathlib.Nat.{sub-zero}
use Rattle.base_bytes.proofs.Filling.{filling_none}
use Rattle.file_record.specs.Reader.{mv_length}
use Rattle.file_record.specs.Steps.{list_within}
use Rattle.file_moves.proofs.Moves.{said_old, said_new, move_put, list_loaded}
use Rattle.file_moves.proofs.load.Goals as goal

pub loop-k-init : goal.loop-k-init
unfolding list_within
loop-k-init c = (omega arith, rw sub-zero (filling_none _ _))

pub loop-k-preserved : goal.loop-k-preserved
loop-k-preserved c =
    let l = c.loop-k in
    let a = c.args in
    let at = c.move_start-at.result in
    let old = said_old at (at + mv_length - at) a.file.now c.move_of-said.ensures (omega arith) in
    let new = said_new at (at + mv_length - at) a.file.now c.move_of-said.ensures (omega arith) in
    (omega arith, move_put a.file.now a.shape.moves l.k l.invariant.1 (omega arith) (omega (arith, l.invariant.1.long)) (rw c.move_start-at.ensures at old) (rw c.move_start-at.ensures at new))

pub returns : goal.returns
returns c =
    let l = c.loop-k in
    let a = c.args in
    list_loaded a.shape a.file.now a.moves.now l.moves l.k (omega arith) (omega arith) l.invariant.1
