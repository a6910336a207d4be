-- `file_writing::put_file` meets its contract: its records are put one after the other.
use native.Mathlib.Omega.{arith}
use Rattle.file_writing.proofs.Records.{places, days_room, file_put}
use Rattle.file_writing.proofs.put_file.Goals as goal

pub slice_bounds-put_opening-end : goal.slice_bounds-put_opening-end
slice_bounds-put_opening-end c = omega (arith, places c.requires c.base-base.ensures)

pub slice_bounds-put_days-count : goal.slice_bounds-put_days-count
slice_bounds-put_days-count c = omega (arith, places c.requires c.base-base.ensures)

pub slice_bounds-put_days-start : goal.slice_bounds-put_days-start
slice_bounds-put_days-start c = omega (arith, places c.requires c.base-base.ensures)

pub put_days-requires : goal.put_days-requires
put_days-requires c =
    let pre = c.requires in
    (pre.few, pre.last, pre.size, days_room pre c.base-base.ensures c.put_opening.ensures)

pub returns : goal.returns
returns c =
    file_put c.requires c.base-base.ensures c.put_opening.ensures c.put_days.ensures c.put_events.ensures
