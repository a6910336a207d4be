-- `listing_event::event` meets its contract: too little room, a refusal, or an answer.
use native.Mathlib.Omega.{arith}
use Rattle.table_days.specs.Lent.{lent}
use Rattle.listing_lines.proofs.Writing.{named, whole, with_room}
use Rattle.listing_event.proofs.Replies.{refusal_text, listed}
use Rattle.listing_event.proofs.event.Goals as goal

pub returns-in-Err : goal.returns-in-Err
returns-in-Err c =
    let a = c.args in
    let t = refusal_text a.moves.now (lent a.table.now) a.request c.baseline.ensures c.in-Err.is in
    with_room c.if-out-lt-LINES_ROOM.false (named t (whole (omega arith) c.put_refusal.ensures)) (omega (arith, c.put_refusal.ensures.most))

pub returns-in-Ok : goal.returns-in-Ok
returns-in-Ok c =
    let a = c.args in
    let t = listed a.moves.now (lent a.table.now) a.request c.baseline.ensures c.in-Ok.is in
    with_room c.if-out-lt-LINES_ROOM.false (named t c.put_answer.ensures.0) c.put_answer.ensures.1
