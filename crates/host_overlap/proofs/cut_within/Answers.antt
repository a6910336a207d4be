-- `host_overlap::cut_within` meets its contract: a day, and none.
use Prim.Native.Nat.{◌*◌}
use mathlib.Core.Path.{sym, ◌∙◌}
use native.Mathlib.Omega.{arith}
use lib.Seq.{length-take-le}
use Rattle.file_moves.proofs.Moves.{list_few, list_first}
use Rattle.host_overlap.proofs.Least.{cut_some, cut_none}
use Rattle.host_overlap.proofs.cut_within.Goals as goal

pub slice_bounds-moves-end : goal.slice_bounds-moves-end
slice_bounds-moves-end c = omega (arith, list_few c.args.file.now c.requires)

pub slice_bounds-least_needed-end : goal.slice_bounds-least_needed-end
slice_bounds-least_needed-end c = sym (length-take-le (2 * c.args.shape.moves) _ (omega (arith, list_few c.args.file.now c.requires)))

pub returns : goal.returns
returns c =
    c.told.ensures
    ∙ cut_some c.args.file.now c.requires (list_first c.args.file.now c.requires _ (omega arith) c.load_list.ensures.said c.load_list.ensures.held) c.least_needed.ensures c.in_ok-least_needed.was

pub returns-in_err-least_needed : goal.returns-in_err-least_needed
returns-in_err-least_needed c =
    c.from_residual.ensures
    ∙ cut_none c.args.file.now c.requires (list_first c.args.file.now c.requires _ (omega arith) c.load_list.ensures.said c.load_list.ensures.held) c.least_needed.ensures c.in_err-least_needed.was
