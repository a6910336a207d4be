-- `engine_sums::add_part` meets its contract.
use Rattle.std.proofs.Common.{◌+◌, ◌%◌, ◌^◌, get_or}
use Rattle.base_lists.proofs.Places.{Storing}
use Rattle.engine_sums.proofs.add_part.Given as goal

abbrev pub invariant-loop-q : goal.invariant-loop-q
invariant-loop-q l = Storing (λ k. (get_or l.initial.sums k 0 + get_or l.part k 0) % 2 ^ 32) l.initial.sums l.sums l.q
