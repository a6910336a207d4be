-- `engine_numerators::sum_windows` meets its contract. The loop's invariant: the total of the days so far.
use Rattle.std.proofs.Common.{◌≡◌, take}
use Rattle.engine_numerators.specs.NumeratorSteps.{window_sums}
use Rattle.engine_numerators.proofs.sum_windows.Given as goal

abbrev pub invariant-loop-place : goal.invariant-loop-place
invariant-loop-place l = l.total ≡ window_sums l.chosen.quarters l.readings (take l.place-index l.place-items) l.chosen.end
