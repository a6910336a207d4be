-- `file_baseline::event_baseline` meets its contract: what the event can ask for always fits into the rooms.
use mathlib.Core.Path.{sym, ◌∙◌}
use native.Mathlib.Omega.{arith}
use Rattle.file_record.proofs.Files.{shape_fits}
use Rattle.file_loading.proofs.Buffers.{within_buffers}
use Rattle.file_baseline.proofs.DaysAsked.{asked_count}
use Rattle.file_baseline.proofs.Files.{rooms_enough, in_rooms, in_marks, never_full}
use Rattle.file_baseline.proofs.event_baseline.Goals as goal

pub overflow_sub-count : goal.overflow_sub-count
overflow_sub-count c = omega (arith, asked_count c.args.shape c.args.request.event c.asked-span.ensures c.offset.ensures c.offset-2.ensures)

pub slice_bounds-marks-end : goal.slice_bounds-marks-end
slice_bounds-marks-end c = omega (arith, (shape_fits c.args.file.now c.args.shape c.requires.accepted).days)

pub slice_bounds-loaded_baseline-end : goal.slice_bounds-loaded_baseline-end
slice_bounds-loaded_baseline-end c =
    let b = within_buffers c.args.shape c.asked-span.result c.args.file.now _ _ c.load_within.ensures.held_marks c.load_within.ensures.held_readings c.if-not-load_within.false (asked_count c.args.shape c.args.request.event c.asked-span.ensures c.offset.ensures c.offset-2.ensures).1 in
    sym b.marks_size

pub slice_bounds-rooms-end : goal.slice_bounds-rooms-end
slice_bounds-rooms-end c =
    omega (arith, asked_count c.args.shape c.args.request.event c.asked-span.ensures c.offset.ensures c.offset-2.ensures, rooms_enough c.requires c.args.request.event c.asked-span.ensures)

pub slice_bounds-loaded_baseline-end-2 : goal.slice_bounds-loaded_baseline-end-2
slice_bounds-loaded_baseline-end-2 c =
    let b = within_buffers c.args.shape c.asked-span.result c.args.file.now _ _ c.load_within.ensures.held_marks c.load_within.ensures.held_readings c.if-not-load_within.false (asked_count c.args.shape c.args.request.event c.asked-span.ensures c.offset.ensures c.offset-2.ensures).1 in
    sym b.readings_size

pub loaded_baseline-requires : goal.loaded_baseline-requires
loaded_baseline-requires c =
    let b = within_buffers c.args.shape c.asked-span.result c.args.file.now _ _ c.load_within.ensures.held_marks c.load_within.ensures.held_readings c.if-not-load_within.false (asked_count c.args.shape c.args.request.event c.asked-span.ensures c.offset.ensures c.offset-2.ensures).1 in
    (in_rooms c.args.request.event c.requires c.asked-span.ensures b, in_marks c.args.request.event c.requires c.asked-span.ensures b, c.asked-span.ensures)

pub returns-then-not-load_within : goal.returns-then-not-load_within
returns-then-not-load_within c = never_full c.requires c.args.request.event c.asked-span.ensures (sym c.if-not-load_within.true ∙ c.load_within.ensures.said)
