-- `listing_first_line::put_header` meets its contract: five pieces in a row are the line.
use native.Mathlib.Omega.{arith}
use Rattle.base_digits.specs.Digits.{dec}
use Rattle.listing_lines.proofs.Writing.{both_placed, then_both, then_put, named}
use Rattle.listing_first_line.proofs.Header.{header_is}
use Rattle.listing_first_line.proofs.put_header.Goals as goal

pub returns-clause-writes : goal.returns-clause-writes
returns-clause-writes c =
    let file = c.args.file in
    let portfolio = both_placed (dec file.portfolio) c.put_field.ensures.puts (omega arith) in
    let from = then_both (dec file.participation) portfolio c.put_field-2.ensures.puts (omega arith) in
    let held = then_both (dec file.first) from c.put_field-3.ensures.puts (omega arith) in
    let days = then_both (dec file.days) held c.put_field-4.ensures.puts (omega arith) in
    named (header_is file) (then_put days c.put_bytes.ensures.puts (omega arith))
