-- `listing_event_line::put_carried` meets its contract: one number, or none.
use mathlib.Core.List.{[]}
use native.Mathlib.Omega.{arith}
use Rattle.base_digits.specs.Digits.{dec}
use Rattle.listing_lines.specs.Lines.{spaced}
use Rattle.listing_lines.proofs.Writing.{both_placed, named, writing_begin, writing_end}
use Rattle.listing_lines.proofs.Lines.{next_is}
use Rattle.listing_event_line.specs.Carried.{there}
use Rattle.listing_event_line.proofs.put_carried.Goals as goal

pub returns-in-Some-clause-writes : goal.returns-in-Some-clause-writes
unfolding there
returns-in-Some-clause-writes c =
    rw c.in-Some.is (named (next_is (dec c.in-Some.number)) (both_placed (dec c.in-Some.number) c.put_field.ensures.puts (omega arith)))

pub returns-in_default-clause-writes : goal.returns-in_default-clause-writes
unfolding there spaced
returns-in_default-clause-writes c =
    let text = c.args.text.now in
    rw c.in_default.is (writing_end (writing_begin {d = text.out.now} {at = text.at} [] (omega arith)))
