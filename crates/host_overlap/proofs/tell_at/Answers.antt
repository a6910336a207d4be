-- `host_overlap::tell_at` meets its contract: no event there, and an event with the list of the file.
use Prim.Native.Nat.{◌*◌}
use mathlib.Core.Path.{sym}
use native.Mathlib.Omega.{arith}
use lib.Seq.{length-take-le}
use Rattle.file_moves.proofs.Moves.{list_few, list_first}
use Rattle.host_overlap.proofs.Ways.{of_place, of_event}
use Rattle.host_overlap.proofs.tell_at.Goals as goal

pub slice_bounds-moves-end : goal.slice_bounds-moves-end
slice_bounds-moves-end c = omega (arith, list_few c.args.file.now c.requires)

pub slice_bounds-tell_event-end : goal.slice_bounds-tell_event-end
slice_bounds-tell_event-end c = sym (length-take-le (2 * c.args.shape.moves) _ (omega (arith, list_few c.args.file.now c.requires)))

pub returns-in-Err : goal.returns-in-Err
returns-in-Err c =
    of_place c.args.file.now c.args.place c.args.name c.requires c.event_within.ensures c.in-Err.is c.tell_refusal.ensures

pub returns-in-Ok : goal.returns-in-Ok
returns-in-Ok c =
    of_place c.args.file.now c.args.place c.args.name c.requires c.event_within.ensures c.in-Ok.is
    (of_event c.args.file.now c.args.place c.args.name c.requires c.in-Ok.request (list_first c.args.file.now c.requires _ (omega arith) c.load_list.ensures.said c.load_list.ensures.held)
    c.tell_event.ensures)
