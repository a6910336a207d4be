use mathlib.Core.Path.{◌∙◌}
use mathlib.Core.Bool.{true, ◌&&◌}
use Rattle.std.proofs.Common.{rules, tests}
use Rattle.std.proofs.lemmas.Iterator.{YieldsList-from_slice}
use Rattle.std.proofs.lemmas.Iterator.Consumers.{fold_from_yields_List}
use Rattle.base_lists.proofs.All.{all_folded}
use Rattle.file_record.specs.Layout.{fits_day}
use Rattle.file_writable.proofs.moves_fit.Goals as goal

pub returns : goal.returns
returns c =
    let xs = c.args.moves.now in
    fold_from_yields_List _ (λ fit day. fit && fits_day day) true _ c.fold.ensures.ran (YieldsList-from_slice xs (search rules)) (λ a x b q k. search (rules, tests))
    ∙ all_folded fits_day xs
