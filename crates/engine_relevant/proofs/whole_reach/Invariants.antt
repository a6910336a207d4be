-- `engine_relevant::whole_reach` meets its contract. The invariant: no relevant day lies as far back as `back`.
use Prim.Native.Nat.{◌-◌}
use mathlib.Core.Path.{◌≡◌}
use Rattle.calendar_groups.specs.Holidays.{group as group_of}
use Rattle.method.specs.Method.{whole_reach}
use Rattle.method.specs.Requested.{method_of}
use Rattle.engine_relevant.proofs.Reaching.{reach_within}
use Rattle.engine_relevant.proofs.whole_reach.Given as goal

abbrev pub invariant-loop-back : goal.invariant-loop-back
invariant-loop-back l = whole_reach (method_of (group_of l.moves) l.request) ≡ reach_within (group_of l.moves) l.request (l.back - 1)
