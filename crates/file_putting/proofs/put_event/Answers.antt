-- `file_putting::put_event` meets its contract (`Putting`).
use native.Mathlib.Omega.{arith}
use Rattle.file_putting.proofs.Putting.{event_kept, event_put}
use Rattle.file_putting.proofs.put_event.Goals as goal

pub returns-then-out-lt-EV_LENGTH : goal.returns-then-out-lt-EV_LENGTH
returns-then-out-lt-EV_LENGTH c = let a = c.args in event_kept a.out.now _ (omega arith)

pub returns : goal.returns
returns c = let a = c.args in
    let h = c.put_head in
    event_put a.out.now h.new.out a.day a.s a.e a.n a.method (omega arith) h.ensures
