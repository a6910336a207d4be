use native.Mathlib.Omega.{arith}
use borrow.Author.Rules.{rules}
use lib.ListN.{get_or}
use Rattle.base_digits.specs.Digits.{dec}
use Rattle.listing_lines.proofs.Writing.{both_placed, writing_begin}
use Rattle.listing_event_line.proofs.Lines.{numbers_next, numbers_end}
use Rattle.listing_event_line.proofs.put_numbers.Goals as goal

pub loop-number-init : goal.loop-number-init
loop-number-init c = record { keeps = search rules; so_far = writing_begin _ (omega arith); most = omega arith }

pub loop-number-preserved : goal.loop-number-preserved
loop-number-preserved c =
    let n = get_or c.args.numbers.now c.loop-number.number-index 0 in
    let p = both_placed (dec n) c.put_field.ensures.puts (omega arith) in
    record {
      keeps = search rules;
      so_far = numbers_next _ _ c.loop-number.invariant.so_far c.loop-number-test.true p;
      most = omega arith;
    }

pub returns-clause-writes : goal.returns-clause-writes
returns-clause-writes c = numbers_end _ _ c.loop-number.invariant.so_far c.loop-number-test.false
