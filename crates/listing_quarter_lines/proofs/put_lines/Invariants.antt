-- `listing_quarter_lines::put_lines` meets its contract. The loop's invariant: all but the lines from `numerator-index` on is written.
use Prim.Native.Nat.{◌+◌, ◌*◌, ◌≤◌}
use mathlib.Core.Path.{◌≡◌}
use lib.ListN.{drop}
use Rattle.base_text.specs.TextSteps.{Keeps}
use Rattle.listing_lines.specs.Lines.{lines_text}
use Rattle.listing_lines.specs.Listing.{quarter_lines}
use Rattle.listing_quarter_lines.specs.Room.{line_room}
use Rattle.listing_lines.proofs.Writing.{Writing}
use Rattle.listing_quarter_lines.proofs.put_lines.Given as goal

abbrev pub invariant-loop-numerator : goal.invariant-loop-numerator
invariant-loop-numerator l = record {
  keeps : Keeps l.initial.text l.text;
  so_far : Writing l.initial.text.out.now l.initial.text.at (lines_text (quarter_lines l.denominator l.first l.numerators)) l.text.at l.text.out.now
      (lines_text (quarter_lines l.denominator l.t (drop l.numerator-index l.numerators)));
  quarter : l.t ≡ l.first + l.numerator-index;
  most : l.text.at ≤ l.initial.text.at + line_room * l.numerator-index;
}
