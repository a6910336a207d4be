-- `engine_numerators::floor` meets its contract.
use Rattle.std.proofs.Common.{◌%◌, ◌^◌, get_or}
use Rattle.base_lists.proofs.Places.{Storing}
use Rattle.method.specs.Adjustment.{floored, unfloored}
use Rattle.engine_numerators.proofs.floor.Given as goal

abbrev pub invariant-loop-sum : goal.invariant-loop-sum
invariant-loop-sum l = Storing (λ q. floored (unfloored 12 (get_or l.initial.sums q 0) l.adjustment) % 2 ^ 32) l.initial.sums l.sums l.sum-index
