use native.Mathlib.Omega.{arith}
use Rattle.file_writing.proofs.Records.{bounds, days_begin, day_put, days_put}
use Rattle.file_writing.proofs.put_days.Goals as goal

pub loop-k-init : goal.loop-k-init
loop-k-init c =
    let a = c.args in
    (omega arith, days_begin a.out.now a.first a.marks.now a.readings.now)

pub slice_bounds-put_day-count : goal.slice_bounds-put_day-count
slice_bounds-put_day-count c =
    omega (arith, bounds c.args.first c.args.marks.now c.args.readings.now c.loop-k.k c.day_start-start.ensures.start c.day_start-end.ensures.start c.offset-from.ensures c.offset-to.ensures c.loop-k-test.true)

pub slice_bounds-put_day-start : goal.slice_bounds-put_day-start
slice_bounds-put_day-start c =
    omega (arith, bounds c.args.first c.args.marks.now c.args.readings.now c.loop-k.k c.day_start-start.ensures.start c.day_start-end.ensures.start c.offset-from.ensures c.offset-to.ensures c.loop-k-test.true)

pub slice_bounds-put_day-end : goal.slice_bounds-put_day-end
slice_bounds-put_day-end c =
    omega (arith, bounds c.args.first c.args.marks.now c.args.readings.now c.loop-k.k c.day_start-start.ensures.start c.day_start-end.ensures.start c.offset-from.ensures c.offset-to.ensures c.loop-k-test.true)

pub offset_bounds-readings-from : goal.offset_bounds-readings-from
offset_bounds-readings-from c =
    omega (arith, bounds c.args.first c.args.marks.now c.args.readings.now c.loop-k.k c.day_start-start.ensures.start c.day_start-end.ensures.start c.offset-from.ensures c.offset-to.ensures c.loop-k-test.true)

pub slice_bounds-put_day-count-in-loop-k : goal.slice_bounds-put_day-count-in-loop-k
slice_bounds-put_day-count-in-loop-k c =
    omega (arith, bounds c.args.first c.args.marks.now c.args.readings.now c.loop-k.k c.day_start-start.ensures.start c.day_start-end.ensures.start c.offset-from.ensures c.offset-to.ensures c.loop-k-test.true)

pub slice_bounds-put_day-start-in-loop-k : goal.slice_bounds-put_day-start-in-loop-k
slice_bounds-put_day-start-in-loop-k c =
    omega (arith, bounds c.args.first c.args.marks.now c.args.readings.now c.loop-k.k c.day_start-start.ensures.start c.day_start-end.ensures.start c.offset-from.ensures c.offset-to.ensures c.loop-k-test.true)

pub slice_bounds-put_day-end-in-loop-k : goal.slice_bounds-put_day-end-in-loop-k
slice_bounds-put_day-end-in-loop-k c =
    omega (arith, bounds c.args.first c.args.marks.now c.args.readings.now c.loop-k.k c.day_start-start.ensures.start c.day_start-end.ensures.start c.offset-from.ensures c.offset-to.ensures c.loop-k-test.true)

pub loop-k-preserved : goal.loop-k-preserved
loop-k-preserved c =
    let a = c.args in
    let pre = c.requires in
    let l = c.loop-k in (
      omega arith,
      day_put a.first a.marks.now a.readings.now l.k c.day_start-start.ensures.start c.day_start-end.ensures.start
          c.offset-from.ensures c.offset-to.ensures (omega arith) pre.2 l.invariant.1 (omega (arith, l.invariant.1.long)) c.put_day.ensures,
    )

pub returns : goal.returns
returns c =
    let a = c.args in
    let l = c.loop-k in
    days_put a.first a.marks.now a.readings.now l.k l.invariant.1 (omega arith) c.requires.3
