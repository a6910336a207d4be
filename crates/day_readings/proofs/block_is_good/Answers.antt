-- `day_readings::block_is_good` meets its contract: by one row of bits put together, or by two.
use Rattle.std.proofs.Common.{arith, ltb-true}
use Rattle.day_readings.proofs.Joining.{joined_good, joined_high}
use Rattle.day_readings.proofs.block_is_good.Goals as goal

pub returns-then-bits-more : goal.returns-then-bits-more
returns-then-bits-more c r =
    let a = c.args in
    let low = c.joined-bits in
    joined_good a.block.now (λ i. omega (arith, c.type_inv.block i)) a.more low.result c.requires low.ensures
    (omega (arith, c.if-bits-more.true))

pub returns-then-bits-lt16777216 : goal.returns-then-bits-lt16777216
returns-then-bits-lt16777216 c r =
    let a = c.args in
    let low = c.joined-bits in
    let high = c.joined in
    let below = ltb-true high.result _ r in
    joined_high a.block.now (λ i. omega (arith, c.type_inv.block i)) a.more low.result c.requires low.ensures
    high.result high.ensures (omega (arith, c.if-bits-lt16777216.true)) (omega (arith, below))
