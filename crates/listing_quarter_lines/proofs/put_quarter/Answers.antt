-- `listing_quarter_lines::put_quarter` meets its contract: three numbers and the end of the line.
use native.Mathlib.Omega.{arith}
use Rattle.base_digits.specs.Digits.{dec}
use Rattle.listing_lines.proofs.Writing.{placed, then_both, then_put, named}
use Rattle.listing_lines.proofs.Lines.{three_fields}
use Rattle.listing_quarter_lines.proofs.Quarters.{quarter_is}
use Rattle.listing_quarter_lines.proofs.put_quarter.Goals as goal

pub returns-clause-writes : goal.returns-clause-writes
returns-clause-writes c =
    let a = c.args in
    let first = placed c.put_number.ensures.puts (omega arith) in
    let second = then_both (dec a.numerator) first c.put_field.ensures.puts (omega arith) in
    let third = then_both (dec c.rounded.result) second c.put_field-2.ensures.puts (omega arith) in
    let line = then_put (rw three_fields at third) c.put_bytes.ensures.puts (omega arith) in
    named (quarter_is a.denominator a.t a.numerator _ c.rounded.ensures) line
