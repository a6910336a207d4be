-- `engine_quarters::usual_sum` meets its contract. The loop's invariant: the sum of S over the first `q` quarters of the window.
use Rattle.std.proofs.Common.{◌≡◌, ◌*◌, ◌≤◌, take}
use Rattle.engine_rooms.specs.Rooms.{history_of}
use Rattle.engine_baseline.specs.Engine.{with_days}
use Rattle.engine_quarters.proofs.Sums.{sums_from}
use Rattle.engine_quarters.proofs.usual_sum.Given as goal

abbrev pub invariant-loop-q : goal.invariant-loop-q
invariant-loop-q l =
    (l.sum ≡ sums_from l.case.request.event (with_days (history_of l.case) (take l.count l.days)) l.q l.start) × (l.sum ≤ 21474836475 * l.q)
