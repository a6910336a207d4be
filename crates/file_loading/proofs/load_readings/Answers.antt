use Prim.Native.Nat.{ℕ, ◌+◌, ◌≤◌}
use mathlib.Core.Path.{◌∙◌, ap}
use native.Mathlib.Omega.{arith}
use lib.ListN.{length, drop}
use borrow.Rule.Slice.PartMut.{mid_len}
use Rattle.file_record.specs.Reader.{numbers}
use Rattle.file_record.specs.Steps.{span_within}
use Rattle.base_bytes.proofs.Filling.{filling_none}
use Rattle.file_loading.proofs.Loading.{start, place_none, inside, day_put, readings_loaded}
use Rattle.file_loading.proofs.load_readings.Goals as goal

pub loop-k-init : goal.loop-k-init
unfolding span_within
loop-k-init c =
    (omega arith, c.requires.0.low, rw (place_none c.args.shape c.args.span) (filling_none _ _))

pub overflow_add-at : goal.overflow_add-at
overflow_add-at c =
    let i = inside c.args.shape c.args.span c.args.file.now c.requires.0 c.loop-k.invariant.0 c.loop-k-test.true c.base-base.ensures c.day_start-at.ensures.start c.place-start.ensures c.place-end.ensures in
    omega (arith, i.day)

pub offset_bounds-readings-start : goal.offset_bounds-readings-start
offset_bounds-readings-start c =
    let i = inside c.args.shape c.args.span c.args.file.now c.requires.0 c.loop-k.invariant.0 c.loop-k-test.true c.base-base.ensures c.day_start-at.ensures.start c.place-start.ensures c.place-end.ensures in
    omega (arith, i.last, i.order, c.requires.1, c.loop-k.invariant.2.long)

pub slice_bounds-load_day-count : goal.slice_bounds-load_day-count
slice_bounds-load_day-count c =
    let i = inside c.args.shape c.args.span c.args.file.now c.requires.0 c.loop-k.invariant.0 c.loop-k-test.true c.base-base.ensures c.day_start-at.ensures.start c.place-start.ensures c.place-end.ensures in
    i.order

pub slice_bounds-load_day-start : goal.slice_bounds-load_day-start
slice_bounds-load_day-start c =
    let i = inside c.args.shape c.args.span c.args.file.now c.requires.0 c.loop-k.invariant.0 c.loop-k-test.true c.base-base.ensures c.day_start-at.ensures.start c.place-start.ensures c.place-end.ensures in
    i.order

pub slice_bounds-load_day-end : goal.slice_bounds-load_day-end
slice_bounds-load_day-end c =
    let i = inside c.args.shape c.args.span c.args.file.now c.requires.0 c.loop-k.invariant.0 c.loop-k-test.true c.base-base.ensures c.day_start-at.ensures.start c.place-start.ensures c.place-end.ensures in
    omega (arith, i.last, c.requires.1, c.loop-k.invariant.2.long)

pub load_day-requires : goal.load_day-requires
load_day-requires c =
    let i = inside c.args.shape c.args.span c.args.file.now c.requires.0 c.loop-k.invariant.0 c.loop-k-test.true c.base-base.ensures c.day_start-at.ensures.start c.place-start.ensures c.place-end.ensures in
    let room : c.place-end.result ≤ length c.loop-k.readings = omega (arith, i.last, c.requires.1, c.loop-k.invariant.2.long) in
    omega (arith, i.day, i.part, mid_len c.place-start.result c.place-end.result c.loop-k.readings room)

pub loop-k-preserved : goal.loop-k-preserved
loop-k-preserved c =
    let i = inside c.args.shape c.args.span c.args.file.now c.requires.0 c.loop-k.invariant.0 c.loop-k-test.true c.base-base.ensures c.day_start-at.ensures.start c.place-start.ensures c.place-end.ensures in
    let a = c.args in
    let l = c.loop-k in
    let at = c.day_start-at.result + 6 in
    let room : c.place-end.result ≤ length l.readings = omega (arith, i.last, c.requires.1, l.invariant.2.long) in
    let long = mid_len c.place-start.result c.place-end.result l.readings room ∙ i.part in (
      omega (arith, l.invariant.0),
      omega arith,
      day_put a.shape a.span a.file.now l.invariant.0 c.loop-k-test.true l.invariant.2 (omega (arith, l.invariant.2.long)) c.place-start.ensures c.place-end.ensures
          (ap (λ (n : ℕ). n + 6) i.starts) (c.load_day.ensures ∙ ap (λ (n : ℕ). numbers n (drop at a.file.now)) long),
    )

pub returns : goal.returns
returns c =
    let a = c.args in
    let l = c.loop-k in
    readings_loaded a.shape a.span a.file.now a.readings.now l.readings l.k (start a.shape l.k) l.invariant.1 (omega arith) l.invariant.2
