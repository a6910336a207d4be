-- `host_overlap::of_good_list` meets its contract: of the refusals of the request 4 and 6 are left.
use mathlib.Core.Path.{◌∙◌}
use mathlib.Core.List.{[]}
use native.Mathlib.Omega.{arith}
use Rattle.engine_rooms.proofs.Held.{event_held}
use Rattle.host_overlap.proofs.Ways.{good_list}
use Rattle.host_overlap.proofs.of_good_list.Goals as goal

pub returns : goal.returns
returns c moves good =
    let a = c.args in
    c.of_request.ensures.first [] ∙ good_list moves a.request _ good (event_held a.request _ [] (λ e. omega arith))
