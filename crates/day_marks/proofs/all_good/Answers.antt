use mathlib.Core.Path.{◌∙◌}
use mathlib.Core.Bool.{true, ◌&&◌}
use lib.Dec.{ltb}
use Rattle.std.proofs.Common.{rules, tests}
use Rattle.std.proofs.lemmas.Iterator.{YieldsList-from_slice}
use Rattle.std.proofs.lemmas.Iterator.Consumers.{fold_from_yields_List}
use Rattle.base_lists.proofs.All.{all_is, all_folded}
use Rattle.method.specs.Table.{good_mark}
use Rattle.day_marks.proofs.all_good.Goals as goal

pub returns : goal.returns
returns c =
    let xs = c.args.marks.now in
    fold_from_yields_List _ (λ good mark. good && ltb mark 4) true _ c.fold.ensures.ran (YieldsList-from_slice xs (search rules)) (λ a x b q k. search (rules, tests))
    ∙ all_folded good_mark xs ∙ all_is good_mark xs
