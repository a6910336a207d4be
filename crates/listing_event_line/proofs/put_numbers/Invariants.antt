-- `listing_event_line::put_numbers` meets its contract. The loop's invariant: all but the numbers from `number-index` on is written.
use Prim.Native.Nat.{◌+◌, ◌*◌, ◌≤◌}
use mathlib.Core.List.{map}
use lib.ListN.{drop}
use Rattle.base_digits.specs.Digits.{dec}
use Rattle.base_text.specs.TextSteps.{Keeps}
use Rattle.listing_lines.specs.Lines.{spaced}
use Rattle.listing_lines.proofs.Writing.{Writing}
use Rattle.listing_event_line.proofs.put_numbers.Given as goal

abbrev pub invariant-loop-number : goal.invariant-loop-number
invariant-loop-number l = record {
  keeps : Keeps l.initial.text l.text;
  so_far : Writing l.initial.text.out.now l.initial.text.at (spaced (map dec l.numbers)) l.text.at l.text.out.now (spaced (map dec (drop l.number-index l.numbers)));
  most : l.text.at ≤ l.initial.text.at + 11 * l.number-index;
}
