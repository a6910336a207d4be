use Rattle.std.proofs.Common.{◌∙◌, arith}
use Rattle.engine_quarters.proofs.Sums.{S_none, S_more}
use Rattle.engine_quarters.proofs.quarter_sum.Goals as goal

pub loop-day-init : goal.loop-day-init
loop-day-init c = (S_none _ _ _, omega arith)

pub loop-day-preserved : goal.loop-day-preserved
loop-day-preserved c =
    let l = c.loop-day in
    (S_more _ _ _ _ l.day-index c.loop-day-test.true l.invariant.0 (c.from-sum.ensures ∙ c.reading_of.ensures), omega (arith, l.invariant.1))
