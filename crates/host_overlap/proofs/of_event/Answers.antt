-- `host_overlap::of_event` meets its contract: a list that is no list, and the refusals of the request.
use mathlib.Core.Path.{sym, ◌∙◌}
use Rattle.host_overlap.proofs.Ways.{bad_list}
use Rattle.host_overlap.proofs.of_event.Goals as goal

pub returns-then-is_good_list : goal.returns-then-is_good_list
returns-then-is_good_list c = c.of_good_list.ensures c.args.moves.now (sym c.is_good_list.ensures ∙ c.if-is_good_list.true)

pub returns-else-is_good_list : goal.returns-else-is_good_list
returns-else-is_good_list c = let a = c.args in bad_list a.moves.now a.request (sym c.is_good_list.ensures ∙ c.if-is_good_list.false)
