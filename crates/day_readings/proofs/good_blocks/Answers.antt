use Rattle.std.proofs.Common.{◌+◌, ◌∙◌, rules}
use Rattle.base_lists.proofs.All.{leading_part}
use Rattle.method.specs.Table.{most_quarters, good_reading}
use Rattle.day_readings.proofs.good_blocks.Goals as goal

pub loop-block-preserved : goal.loop-block-preserved
loop-block-preserved c =
    let l = c.loop-block in
    let xs = c.args.readings.now in
    let found = c.in-Some.ensures.lookup in
    let good = c.block_is_good.ensures c.if-not-block_is_good.false in
    record {
      within = search rules;
      passed = leading_part good_reading xs l.at (l.at + most_quarters) (search rules) (search rules) (rw found.0.2 at good) ∙ l.invariant.passed;
    }
