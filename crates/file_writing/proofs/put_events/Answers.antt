use native.Mathlib.Omega.{arith}
use Rattle.file_writing.proofs.Records.{one_fits, others_fit, event_put, events_put}
use Rattle.file_writing.proofs.put_events.Goals as goal

pub overflow_cast-events : goal.overflow_cast-events
overflow_cast-events c = let l = c.loop-i in omega (arith, one_fits c.args.events.now l.i l.invariant.1 (omega arith))

pub overflow_cast-events-in-loop-i : goal.overflow_cast-events-in-loop-i
overflow_cast-events-in-loop-i c = let l = c.loop-i in omega (arith, one_fits c.args.events.now l.i l.invariant.1 (omega arith))

pub overflow_cast-events-in-loop-i-2 : goal.overflow_cast-events-in-loop-i-2
overflow_cast-events-in-loop-i-2 c = let l = c.loop-i in omega (arith, one_fits c.args.events.now l.i l.invariant.1 (omega arith))

pub overflow_cast-events-in-loop-i-3 : goal.overflow_cast-events-in-loop-i-3
overflow_cast-events-in-loop-i-3 c = let l = c.loop-i in omega (arith, one_fits c.args.events.now l.i l.invariant.1 (omega arith))

pub loop-i-preserved : goal.loop-i-preserved
loop-i-preserved c =
    let a = c.args in
    let l = c.loop-i in (
      omega arith,
      others_fit a.events.now l.i l.invariant.1 (omega arith),
      event_put a.events.now l.i l.invariant.2 (omega arith) (omega (arith, l.invariant.2.long)) c.put_event.ensures,
    )

pub returns : goal.returns
returns c =
    let a = c.args in
    let l = c.loop-i in
    events_put a.events.now l.i l.invariant.2 (omega arith) c.requires.0
