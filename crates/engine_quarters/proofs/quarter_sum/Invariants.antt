-- `engine_quarters::quarter_sum` meets its contract. The loop's invariant: the sum over the days so far, and that it is small.
use Rattle.std.proofs.Common.{◌≡◌, ◌*◌, ◌≤◌, take}
use Rattle.method.specs.Adjustment.{S}
use Rattle.engine_rooms.specs.Rooms.{history_of}
use Rattle.engine_baseline.specs.Engine.{with_days}
use Rattle.engine_quarters.proofs.quarter_sum.Given as goal

abbrev pub invariant-loop-day : goal.invariant-loop-day
invariant-loop-day l =
    (l.sum ≡ S l.case.request.event (with_days (history_of l.case) (take l.day-index l.day-items)) l.t) × (l.sum ≤ 4294967295 * l.day-index)
