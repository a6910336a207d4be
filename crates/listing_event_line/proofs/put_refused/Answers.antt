-- `listing_event_line::put_refused` meets its contract: five pieces in a row are the line.
use native.Mathlib.Omega.{arith}
use Rattle.base_lists.specs.Ascii.{ascii}
use Rattle.base_digits.specs.Digits.{dec}
use Rattle.listing_lines.proofs.Writing.{both_placed, then, then_put, named}
use Rattle.listing_lines.proofs.Lines.{spaced_word_and}
use Rattle.listing_event_line.proofs.Lines.{both_carried, refusal_is}
use Rattle.listing_event_line.proofs.put_refused.Goals as goal

pub returns-clause-writes : goal.returns-clause-writes
returns-clause-writes c =
    let a = c.args in
    let number = both_placed (dec c.number.result) c.put_field.ensures.puts (omega arith) in
    let front = then c.put_three.ensures.writes (named (spaced_word_and (ascii "refused") _) number) in
    let carried = named (both_carried a.refusal c.carried.ensures) (then c.put_carried.ensures.writes c.put_carried-2.ensures.writes) in
    named (refusal_is a.request a.refusal _ c.number.ensures) (then front (then_put carried c.put_bytes.ensures.puts (omega arith)))
