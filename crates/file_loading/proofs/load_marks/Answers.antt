use Prim.Native.Nat.{◌+◌}
use native.Mathlib.Omega.{arith}
use native.Mathlib.Nat.{sub-zero, add-zero}
use Rattle.file_record.specs.Reader.{shape_base, day_start}
use Rattle.base_bytes.proofs.Filling.{filling_none, filling_one}
use Rattle.file_record.proofs.Starts.{day_start_none, day_start_more}
use Rattle.file_loading.proofs.Loading.{day_within, marks_more, marks_loaded}
use Rattle.file_loading.proofs.load_marks.Goals as goal

pub loop-k-init : goal.loop-k-init
loop-k-init c =
    let a = c.args in
    (omega arith, rw (sub-zero, add-zero, day_start_none (shape_base a.shape) a.shape.first) (filling_none _ _))

pub overflow_add-marks : goal.overflow_add-marks
overflow_add-marks c =
    let more = c.loop-k-test.true in
    omega (arith, day_within c.args.shape c.args.file.now more c.base-base.ensures c.day_start.ensures.start c.requires.0)

pub bounds-file-day_start : goal.bounds-file-day_start
bounds-file-day_start c =
    let more = c.loop-k-test.true in
    omega (arith, day_within c.args.shape c.args.file.now more c.base-base.ensures c.day_start.ensures.start c.requires.0)

pub loop-k-preserved : goal.loop-k-preserved
loop-k-preserved c =
    let shape = c.args.shape in
    let k = c.loop-k.k in
    let q = c.loop-k.invariant in
    let start = day_start (shape_base shape) shape.first in (
      omega arith,
      rw (c.day_start.ensures.start, c.base-base.ensures)
          (filling_one q.1 _ _ (omega arith)
          (marks_more c.args.file.now (start k) (start (k + 1)) k shape.days shape.first (omega arith) (day_start_more (shape_base shape) shape.first k))),
    )

pub returns : goal.returns
returns c =
    let a = c.args in
    let k = c.loop-k.k in
    marks_loaded a.shape a.file.now a.marks.now c.loop-k.marks k (day_start (shape_base a.shape) a.shape.first k) (omega arith) (omega arith) c.loop-k.invariant.1
