-- `listing_event_line::put_close` meets its contract: five pieces in a row.
use mir.Syntax.{w64}
use mir.ValLaws.{to_z-of_z}
use Rattle.listing_event_line.proofs.Lines.{close_is}
use Rattle.listing_event_line.proofs.put_close.Goals as goal

pub returns-clause-writes : goal.returns-clause-writes
returns-clause-writes c =
    let a = c.args in
    let signed = rw (to_z-of_z w64 a.adjustment c.ranges.adjustment) at c.put_signed.ensures.puts in
    (close_is a.reach a.denominator a.adjustment c.requires c.put_field.ensures.puts c.put_field.ensures.most c.put_field-2.ensures.puts c.put_field-2.ensures.most
    c.put_bytes.ensures.puts c.put_bytes.ensures.most signed c.put_signed.ensures.most c.put_bytes-2.ensures.puts c.put_bytes-2.ensures.most).0
