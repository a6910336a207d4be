-- `listing_first_line::put_opening` meets its contract: a header, or a refused file.
use native.Mathlib.Omega.{arith}
use Rattle.base_digits.specs.Digits.{dec}
use Rattle.listing_lines.specs.WriteSteps.{opening_line}
use Rattle.listing_lines.proofs.Writing.{both_placed, then_put, named}
use Rattle.listing_first_line.proofs.Header.{refused_is}
use Rattle.listing_first_line.proofs.put_opening.Goals as goal

pub returns-in-Ok-clause-writes : goal.returns-in-Ok-clause-writes
unfolding opening_line
returns-in-Ok-clause-writes c = rw c.in-Ok.is c.put_header.ensures.writes

pub returns-in-Err-clause-writes : goal.returns-in-Err-clause-writes
unfolding opening_line
returns-in-Err-clause-writes c =
    let first = both_placed (dec c.offset_of.result) c.put_field.ensures.puts (omega arith) in
    rw (c.in-Err.is, ← c.offset_of.ensures) (named (refused_is c.offset_of.result) (then_put first c.put_bytes.ensures.puts (omega arith)))
