-- `listing_event_line::put_answered` meets its contract: how many days, the days, and what stands before and after them are the line.
use native.Mathlib.Omega.{arith}
use lib.ListN.{take}
use mir.Syntax.{w64}
use mir.ValLaws.{to_z-of_z}
use borrow.Author.Rules.{rules}
use Rattle.base_lists.specs.Ascii.{ascii}
use Rattle.base_digits.specs.Digits.{dec}
use Rattle.listing_lines.proofs.Writing.{both_placed, then, named}
use Rattle.listing_lines.proofs.Lines.{spaced_word_and}
use Rattle.listing_event_line.proofs.Lines.{Few, few_days, days_are, event_is}
use Rattle.listing_event_line.proofs.put_answered.Goals as goal

pub returns-clause-writes : goal.returns-clause-writes
returns-clause-writes c =
    let its : Few c.args.chosen.count c.min-count.result c.args.chosen.days = few_days _ _ _ (search rules) c.min-count.ensures in
    let chosen = c.args.chosen in
    let close = rw (to_z-of_z w64 c.args.adjustment c.ranges.adjustment) at c.put_close.ensures.writes in
    let line = event_is c.args.request (take chosen.count chosen.days) chosen.reach c.args.denominator c.args.adjustment in
    let count = both_placed (dec c.min-count.result) c.put_field.ensures.puts (omega arith) in
    let days = named (days_are its) (then (named (spaced_word_and (ascii "days") (dec c.min-count.result)) count) c.put_numbers.ensures.writes) in
    named line (then (then c.put_three.ensures.writes days) close)

pub returns-clause-most : goal.returns-clause-most
returns-clause-most c = omega arith
