-- `engine_sums::sum_days` meets its contract. The loop's invariant: the sums of the days so far (`Added`).
use Rattle.std.proofs.Common.{length}
use Rattle.engine_sums.proofs.Adding.{Added}
use Rattle.engine_sums.proofs.sum_days.Given as goal

abbrev pub invariant-loop-place : goal.invariant-loop-place
invariant-loop-place l = Added l.size l.readings l.at l.start (length l.fn.sums) l.sums l.place-index
