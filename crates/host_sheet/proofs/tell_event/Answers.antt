-- `host_sheet::tell_event` meets its contract: the buffers hold the file's table and its list.
use Prim.Native.Nat.{◌*◌}
use mathlib.Core.Path.{sym, ◌∙◌}
use native.Mathlib.Omega.{arith}
use lib.Seq.{length-take-le}
use Rattle.method.specs.Table.{most_quarters}
use Rattle.method.proofs.Tables.{offset_most}
use Rattle.file_record.proofs.Files.{shape_fits}
use Rattle.file_record.proofs.Spans.{span}
use Rattle.file_loading.proofs.Loading.{place_whole, fits_own}
use Rattle.file_loading.proofs.Buffers.{WithinBuffers, within_buffers}
use Rattle.file_moves.proofs.Moves.{list_few, list_first}
use Rattle.listing_whole.proofs.Holding.{holds, table_in_lem}
use Rattle.host_sheet.proofs.tell_event.Goals as goal

pub slice_bounds-marks-end : goal.slice_bounds-marks-end
slice_bounds-marks-end c = omega (arith, (shape_fits c.args.file.now c.args.shape c.requires).days)

pub slice_bounds-table-end : goal.slice_bounds-table-end
slice_bounds-table-end c =
    let its : ((let a = c.args in let l = c.load_within in WithinBuffers a.shape (span 0 a.shape.days) a.file.now c.offset-count.result l.new.marks l.new.readings)) = (let s = c in
    let a = s.args in
    let all = span 0 a.shape.days in
    let few = (shape_fits a.file.now a.shape s.requires).days in
    let count = place_whole a.shape in
    let fits = fits_own a.shape all a.file.now 128 (most_quarters * 128) s.requires (omega arith) (omega arith) few
    (omega (arith, count, offset_most a.shape.first a.shape.days 128 few)) in
    within_buffers a.shape all a.file.now _ _ c.load_within.ensures.held_marks c.load_within.ensures.held_readings (c.load_within.ensures.said ∙ fits) (c.offset-count.ensures ∙ sym count)) in
    sym (its).marks_size

pub slice_bounds-readings-end : goal.slice_bounds-readings-end
slice_bounds-readings-end c =
    let few = (shape_fits c.args.file.now c.args.shape c.requires).days in
    omega (arith, offset_most c.args.shape.first c.args.shape.days 128 few)

pub slice_bounds-table-end-2 : goal.slice_bounds-table-end-2
slice_bounds-table-end-2 c =
    let its : ((let a = c.args in let l = c.load_within in WithinBuffers a.shape (span 0 a.shape.days) a.file.now c.offset-count.result l.new.marks l.new.readings)) = (let s = c in
    let a = s.args in
    let all = span 0 a.shape.days in
    let few = (shape_fits a.file.now a.shape s.requires).days in
    let count = place_whole a.shape in
    let fits = fits_own a.shape all a.file.now 128 (most_quarters * 128) s.requires (omega arith) (omega arith) few
    (omega (arith, count, offset_most a.shape.first a.shape.days 128 few)) in
    within_buffers a.shape all a.file.now _ _ c.load_within.ensures.held_marks c.load_within.ensures.held_readings (c.load_within.ensures.said ∙ fits) (c.offset-count.ensures ∙ sym count)) in
    sym (its).readings_size

pub slice_bounds-moves-end : goal.slice_bounds-moves-end
slice_bounds-moves-end c = omega (arith, list_few c.args.file.now c.requires)

pub slice_bounds-tell_table-end : goal.slice_bounds-tell_table-end
slice_bounds-tell_table-end c =
    sym (length-take-le (2 * c.args.shape.moves) _ (omega (arith, list_few c.args.file.now c.requires)))

pub returns : goal.returns
returns c =
    let its : ((let a = c.args in let l = c.load_within in WithinBuffers a.shape (span 0 a.shape.days) a.file.now c.offset-count.result l.new.marks l.new.readings)) = (let s = c in
    let a = s.args in
    let all = span 0 a.shape.days in
    let few = (shape_fits a.file.now a.shape s.requires).days in
    let count = place_whole a.shape in
    let fits = fits_own a.shape all a.file.now 128 (most_quarters * 128) s.requires (omega arith) (omega arith) few
    (omega (arith, count, offset_most a.shape.first a.shape.days 128 few)) in
    within_buffers a.shape all a.file.now _ _ c.load_within.ensures.held_marks c.load_within.ensures.held_readings (c.load_within.ensures.said ∙ fits) (c.offset-count.ensures ∙ sym count)) in
    let q = holds c.requires (its) (list_first c.args.file.now c.requires _ (omega arith) c.load_list.ensures.said c.load_list.ensures.held) in
    rw (table_in_lem q, q.its_moves) at c.tell_table.ensures
