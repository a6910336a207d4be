use mathlib.Core.Path.{◌∙◌}
use Rattle.std.proofs.Common.{rules, tests}
use Rattle.std.proofs.lemmas.Iterator.{YieldsList-from_slice}
use Rattle.std.proofs.lemmas.Iterator.Consumers.{fold_from_yields_List}
use Rattle.std.specs.Prelude.{slice_index, ◌==◌, ◌||◌, false}
use Rattle.calendar_groups.specs.Steps.{pairs}
use Rattle.calendar_groups.proofs.ByPairs.{fold_second}
use Rattle.calendar_groups.proofs.is_replacing.Goals as goal

pub returns : goal.returns
returns c =
    let moves = c.args.moves.now in
    let day = c.args.day in
    fold_from_yields_List _ (λ found pair. found || (day == slice_index pair 1)) false _ c.fold.ensures.ran
    (YieldsList-from_slice (pairs moves) (search rules)) (λ a x b q k. search (rules, tests)) ∙ fold_second day moves
