-- `listing_event_line::put_three` meets its contract: three pieces in a row.
use native.Mathlib.Omega.{arith}
use Rattle.base_digits.specs.Digits.{dec}
use Rattle.listing_lines.proofs.Writing.{placed, then_both}
use Rattle.listing_lines.proofs.Lines.{three_fields}
use Rattle.listing_event_line.proofs.put_three.Goals as goal

pub returns-clause-writes : goal.returns-clause-writes
returns-clause-writes c =
    let r = c.args.request in
    let first = placed c.put_number.ensures.puts (omega arith) in
    let second = then_both (dec r.s) first c.put_field.ensures.puts (omega arith) in
    rw three_fields at (then_both (dec r.e) second c.put_field-2.ensures.puts (omega arith))
