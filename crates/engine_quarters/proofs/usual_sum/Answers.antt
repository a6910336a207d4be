use Rattle.std.proofs.Common.{◌≡◌, arith}
use Rattle.method.specs.Adjustment.{B}
use Rattle.engine_quarters.proofs.Sums.{no_quarters, more_quarters}
use Rattle.engine_quarters.proofs.usual_sum.Goals as goal

pub loop-q-init : goal.loop-q-init
loop-q-init c = (no_quarters _ _ _, omega arith)

pub loop-q-preserved : goal.loop-q-preserved
loop-q-preserved c =
    let l = c.loop-q in
    (more_quarters _ _ l.q _ l.invariant.0 c.quarter_sum-sum.ensures.0, omega (arith, l.invariant.1, c.quarter_sum-sum.ensures.1))

pub returns : goal.returns
unfolding B
returns c =
    let l = c.loop-q in
    let q : l.q ≡ 12 = omega (arith, c.loop-q-test.false) in
    (rw (q, c.saturating_sub-start.ensures) at l.invariant.0, omega (arith, q, l.invariant.1))
