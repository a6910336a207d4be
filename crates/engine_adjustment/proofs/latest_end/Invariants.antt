-- `engine_adjustment::latest_end` meets its contract. The invariant: the latest end from `end` down is the one asked for.
use Rattle.std.proofs.Common.{◌≡◌, ◌++◌}
use Rattle.method.specs.Adjustment.{latest_end}
use Rattle.engine_adjustment.proofs.latest_end.Given as goal

abbrev pub invariant-loop-end : goal.invariant-loop-end
invariant-loop-end l = latest_end (l.yesterday ++ l.today) l.end ≡ latest_end (l.yesterday ++ l.today) l.last

abbrev pub decreases-loop-end : goal.decreases-loop-end
decreases-loop-end l = l.end
