use native.Mathlib.Omega.{arith}
use borrow.Author.Rules.{rules}
use Rattle.listing_lines.proofs.Writing.{writing_begin}
use Rattle.listing_quarter_lines.proofs.Quarters.{quarters_next, quarters_end}
use Rattle.listing_quarter_lines.proofs.put_lines.Goals as goal

pub loop-numerator-init : goal.loop-numerator-init
loop-numerator-init c =
    record { keeps = search rules; so_far = writing_begin _ (omega arith); quarter = omega arith; most = omega arith }

pub loop-numerator-preserved : goal.loop-numerator-preserved
loop-numerator-preserved c =
    record {
      keeps = search rules;
      so_far = quarters_next _ _ _ _ c.loop-numerator.invariant.so_far c.loop-numerator-test.true c.put_quarter.ensures.writes;
      quarter = omega arith;
      most = omega arith;
    }

pub returns-clause-writes : goal.returns-clause-writes
returns-clause-writes c = quarters_end _ _ _ _ c.loop-numerator.invariant.so_far c.loop-numerator-test.false
