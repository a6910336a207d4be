-- `engine_adjustment::window_sum` meets its contract: the sums of the two days' parts, put together.
use Rattle.engine_adjustment.proofs.Windows.{window_parts}
use Rattle.engine_adjustment.proofs.window_sum.Goals as goal

pub returns : goal.returns
returns c =
    let a = c.args in
    window_parts a.yesterday.now a.today.now a.end _ _ _ _ _ c.saturating_sub-start.ensures c.saturating_sub.ensures c.saturating_sub-2.ensures
    c.sum_between-first.ensures c.sum_between-second.ensures
