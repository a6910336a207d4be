-- `listing_event::put_answer` meets its contract: the event line, and the quarter lines.
use native.Mathlib.Omega.{arith}
use mir.Syntax.{w64}
use mir.Val.{SFits}
use mir.ValLaws.{to_z-of_z}
use borrow.Author.Rules.{rules}
use Rattle.listing_lines.specs.Lines.{lines_text}
use Rattle.listing_lines.proofs.Writing.{then, whole}
use Rattle.listing_event.proofs.put_answer.Goals as goal

pub returns : goal.returns
unfolding lines_text
returns c =
    let a = c.args.answer in
    let fits : SFits w64 a.adjustment = search rules in
    let line = whole (omega arith) (rw (to_z-of_z w64 a.adjustment fits) at c.put_event_line-next.ensures) in
    (then line (whole (omega (arith, c.put_event_line-next.ensures.most)) c.put_quarters.ensures), omega (arith, c.put_event_line-next.ensures.most, c.put_quarters.ensures.most))
