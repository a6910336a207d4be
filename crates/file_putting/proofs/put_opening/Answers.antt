-- `file_putting::put_opening` meets its contract (`Putting`).
use native.Mathlib.Omega.{arith}
use Rattle.file_putting.proofs.Putting.{opening_kept, opening_put}
use Rattle.file_putting.proofs.put_opening.Goals as goal

pub returns-then-out-lt-PF_LENGTH : goal.returns-then-out-lt-PF_LENGTH
returns-then-out-lt-PF_LENGTH c = let a = c.args in opening_kept a.out.now a.participation a.portfolio (omega arith)

pub returns : goal.returns
returns c = let a = c.args in
    let h = c.put_head in
    opening_put a.out.now h.new.out a.participation a.portfolio (omega arith) h.ensures c.put_numbers.ensures
