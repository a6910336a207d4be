-- `engine_places::placed` meets its contract: the law is `mapped`.
use Rattle.std.proofs.Common.{◌-◌, get_or, rules}
use Rattle.engine_places.proofs.Mapped.{mapped}
use Rattle.engine_places.proofs.placed.Goals as goal

pub returns : goal.returns
returns c =
    let a = c.args in
    let at = mapped _ _ (λ day. get_or a.case.now.rooms.now.at (a.case.now.request.event - day) 0) (λ x y p k. search rules) c.map.ensures.items in
    λ i. record { at = at i; count = a.count; quarters = c.size.ensures i; end = a.end; start = c.against.ensures i }
