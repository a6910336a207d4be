-- `calendar_groups::is_good_list` meets its contract: one law for each way out.
use Prim.Native.Nat.{◌*◌}
use mathlib.Core.Path.{◌≡◌, sym, ◌∙◌}
use mathlib.Core.Bool.{◌&&◌}
use lib.Dec.{leb}
use lib.ListN.{length}
use Rattle.std.proofs.Common.{rules}
use Rattle.calendar_groups.specs.Holidays.{good_pairs}
use Rattle.calendar_groups.proofs.Moves.{by_pairs, by_rising, by_again}
use Rattle.calendar_groups.proofs.is_good_list.Goals.{then-moves, else-moves}
use Rattle.calendar_groups.proofs.is_good_list.Goals as goal

pub returns-then-is_rising : goal.returns-then-is_rising
returns-then-is_rising c =
    let told : c.if-moves.value ≡ (leb (length c.args.moves.now) (2 * 16) && good_pairs c.args.moves.now) =
    elim c.if-moves.branch [ then-moves w ↦ search rules | else-moves w ↦ search rules ] in
    let rising = sym c.is_rising.ensures ∙ c.if-is_rising.true in
    c.if-is_rising.true ∙ by_rising c.args.moves.now told c.if-are_good_pairs.true rising

pub returns-else-is_rising : goal.returns-else-is_rising
returns-else-is_rising c =
    let told : c.if-moves.value ≡ (leb (length c.args.moves.now) (2 * 16) && good_pairs c.args.moves.now) =
    elim c.if-moves.branch [ then-moves w ↦ search rules | else-moves w ↦ search rules ] in
    by_again c.args.moves.now told c.if-are_good_pairs.true c.is_repeated.ensures

pub returns-else-are_good_pairs : goal.returns-else-are_good_pairs
returns-else-are_good_pairs c =
    let told : c.if-moves.value ≡ (leb (length c.args.moves.now) (2 * 16) && good_pairs c.args.moves.now) =
    elim c.if-moves.branch [ then-moves w ↦ search rules | else-moves w ↦ search rules ] in
    by_pairs c.args.moves.now told c.if-are_good_pairs.false
