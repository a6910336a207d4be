-- `listing_whole::put_file` meets its contract: the buffers hold the file's table, and the first line and the events are the listing.
use Prim.Native.Nat.{◌*◌}
use mathlib.Core.Path.{sym}
use native.Mathlib.Omega.{arith}
use lib.Seq.{length-take-le}
use Rattle.method.proofs.Tables.{offset_most}
use Rattle.file_record.proofs.Files.{shape_fits}
use Rattle.file_moves.proofs.Moves.{list_few, list_first}
use Rattle.listing_whole.proofs.Holding.{buffers, holds}
use Rattle.listing_whole.proofs.Whole.{file_listed}
use Rattle.listing_whole.proofs.put_file.Goals as goal

pub slice_bounds-marks-end : goal.slice_bounds-marks-end
slice_bounds-marks-end c = omega (arith, (shape_fits c.args.file.now c.args.shape c.requires.0).days)

pub slice_bounds-loaded-end : goal.slice_bounds-loaded-end
slice_bounds-loaded-end c =
    sym (buffers c.requires.0 _ _ c.load_within.ensures.said c.load_within.ensures.held_marks c.load_within.ensures.held_readings c.offset-count.ensures).marks_size

pub slice_bounds-readings-end : goal.slice_bounds-readings-end
slice_bounds-readings-end c =
    let few = (shape_fits c.args.file.now c.args.shape c.requires.0).days in
    omega (arith, offset_most c.args.shape.first c.args.shape.days 128 few)

pub slice_bounds-loaded-end-2 : goal.slice_bounds-loaded-end-2
slice_bounds-loaded-end-2 c =
    sym (buffers c.requires.0 _ _ c.load_within.ensures.said c.load_within.ensures.held_marks c.load_within.ensures.held_readings c.offset-count.ensures).readings_size

pub slice_bounds-moves-end : goal.slice_bounds-moves-end
slice_bounds-moves-end c =
    omega (arith, list_few c.args.file.now c.requires.0)

pub slice_bounds-loaded-end-3 : goal.slice_bounds-loaded-end-3
slice_bounds-loaded-end-3 c =
    sym (length-take-le (2 * c.args.shape.moves) _ (omega (arith, list_few c.args.file.now c.requires.0)))

pub put_events-requires : goal.put_events-requires
put_events-requires c =
    let held = buffers c.requires.0 _ _ c.load_within.ensures.said c.load_within.ensures.held_marks c.load_within.ensures.held_readings c.offset-count.ensures in (
      holds c.requires.0 held (list_first c.args.file.now c.requires.0 _ (omega arith) c.load_list.ensures.said c.load_list.ensures.held),
      omega (arith, c.opening-next.ensures.most, (shape_fits c.args.file.now c.args.shape c.requires.0).events),
    )

pub returns : goal.returns
returns c =
    let opening = c.opening-next in
    let fits = shape_fits c.args.file.now c.args.shape c.requires.0 in
    (file_listed c.args.file.now (omega arith) c.requires.0 opening.ensures c.put_events.ensures.0, omega (arith, opening.ensures.most, fits.events))
