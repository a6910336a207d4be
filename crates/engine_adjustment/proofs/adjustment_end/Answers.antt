-- `engine_adjustment::adjustment_end` meets its contract, by the two callees'.
use Rattle.std.proofs.Common.{sym, ◌∙◌}
use Rattle.engine_adjustment.proofs.Windows.{found_at_n, found_up_to_s}
use Rattle.engine_adjustment.proofs.adjustment_end.Goals as goal

pub returns-then-window_ends : goal.returns-then-window_ends
returns-then-window_ends c = found_at_n _ _ (sym c.window_ends.ensures ∙ c.if-window_ends.true)

pub returns-else-window_ends : goal.returns-else-window_ends
returns-else-window_ends c =
    c.latest_end.ensures ∙ found_up_to_s _ c.args.request (sym c.window_ends.ensures ∙ c.if-window_ends.false)
