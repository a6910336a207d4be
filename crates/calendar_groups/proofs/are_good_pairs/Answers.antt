use Prim.Native.Nat.{ℕ}
use mathlib.Core.Path.{◌∙◌}
use mathlib.Core.Bool.{Bool, true, ◌&&◌}
use mathlib.Core.List.{List}
use borrow.Author.Tests.{ne_eqb}
use lib.Dec.{leb}
use Rattle.std.proofs.Common.{rules, tests}
use Rattle.std.proofs.lemmas.Iterator.{YieldsList-from_slice}
use Rattle.std.proofs.lemmas.Iterator.Consumers.{fold_from_yields_List}
use Rattle.std.specs.Prelude.{slice_index}
use Rattle.base_lists.proofs.All.{all_folded}
use Rattle.calendar_dates.specs.Days.{last_day}
use Rattle.calendar_holidays.specs.Yearly.{is_fixed_holiday}
use Rattle.calendar_groups.specs.Steps.{pairs}
use Rattle.calendar_groups.proofs.ByPairs.{all_good, half_bad}
use Rattle.calendar_groups.proofs.are_good_pairs.Goals as goal

abbrev good : List ℕ → Bool
good pair = is_fixed_holiday (slice_index pair 0) && leb (slice_index pair 1) last_day

pub returns-then-moves-eq0 : goal.returns-then-moves-eq0
returns-then-moves-eq0 c =
    let moves = c.args.moves.now in
    fold_from_yields_List _ (λ all pair. all && good pair) true _ c.fold.ensures.ran (YieldsList-from_slice (pairs moves) (search rules)) (λ a x b q k. search (rules, tests))
    ∙ all_folded good (pairs moves) ∙ all_good moves c.if-moves-eq0.true

pub returns-else-moves-eq0 : goal.returns-else-moves-eq0
returns-else-moves-eq0 c = ne_eqb _ _ c.if-moves-eq0.false ∙ half_bad c.args.moves.now c.if-moves-eq0.false
