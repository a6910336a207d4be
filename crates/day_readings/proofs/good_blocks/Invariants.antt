-- `day_readings::good_blocks` meets its contract, which is the invariant: only good readings stand before `at`.
use Rattle.std.proofs.Common.{◌-◌, length}
use Rattle.day_readings.specs.Steps.{GoodBefore}
use Rattle.day_readings.proofs.good_blocks.Given as goal

abbrev pub invariant-loop-block : goal.invariant-loop-block
invariant-loop-block l = GoodBefore l.readings l.at

abbrev pub decreases-loop-block : goal.decreases-loop-block
decreases-loop-block l = length l.readings - l.at
