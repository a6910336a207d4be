-- `file_baseline::loaded_baseline` meets its contract: a refusal of the table, or what the engine gives over the rooms.
use Prim.Native.Nat.{◌*◌, ◌/◌}
use mathlib.Core.Path.{sym, ◌∙◌}
use native.Mathlib.Omega.{arith}
use Rattle.std.proofs.Common.{rules}
use lib.ListN.{length}
use lib.Seq.{length-take-le}
use Rattle.table_bytes.proofs.Laws.{refuses}
use Rattle.file_moves.proofs.Moves.{list_few, list_first}
use Rattle.table_baseline.proofs.Tables.{table_refused}
use Rattle.file_record.specs.Reader.{list_in, table_in}
use Rattle.file_baseline.proofs.Files.{marks_count, day_few, over_loaded}
use Rattle.file_baseline.proofs.loaded_baseline.Goals as goal

pub overflow_add-part : goal.overflow_add-part
overflow_add-part c =
    omega (arith, day_few c.requires.0 c.requires.1 c.args.request c.requires.2 (sym c.of_file.ensures ∙ c.in_ok-of_file.was))

pub slice_bounds-part-end : goal.slice_bounds-part-end
slice_bounds-part-end c =
    omega (arith, c.requires.0.high, marks_count c.requires.0.laid_down c.requires.1)

pub slice_bounds-moves-end : goal.slice_bounds-moves-end
slice_bounds-moves-end c =
    omega (arith, list_few c.args.file.now c.requires.0.laid_down.accepted)

pub slice_bounds-over_table_in_bytes-end : goal.slice_bounds-over_table_in_bytes-end
slice_bounds-over_table_in_bytes-end c =
    sym (length-take-le (2 * c.args.shape.moves) _ (omega (arith, list_few c.args.file.now c.requires.0.laid_down.accepted)))

pub returns-in_err-of_file : goal.returns-in_err-of_file
returns-in_err-of_file c =
    let a = c.args in
    refuses _ c.in_err-of_file.field-0.0 _ _
    (table_refused (list_in a.file.now) (table_in a.file.now) a.request (length a.out.now / 4) (sym c.of_file.ensures ∙ c.in_err-of_file.was)) (search rules)

pub returns : goal.returns
returns c =
    let passed = sym c.of_file.ensures ∙ c.in_ok-of_file.was in
    let list = list_first c.args.file.now c.requires.0.laid_down.accepted _ (omega arith) c.load_list.ensures.said c.load_list.ensures.held in
    rw (list, over_loaded c.requires.0 c.requires.1 c.args.request c.requires.2 passed (list_in c.args.file.now) (length c.args.out.now / 4))
    at c.over_table_in_bytes.ensures
