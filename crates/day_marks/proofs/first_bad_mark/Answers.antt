use mathlib.Core.Path.{sym, ◌∙◌}
use mathlib.Core.Bool.{not}
use borrow.Author.Tests.{eqb-true}
use lib.Bits.{bit_and}
use lib.Dec.{eqb}
use lib.ListN.{length}
use Rattle.std.proofs.Common.{rules, tests}
use Rattle.std.proofs.lemmas.Iterator.{YieldsList-from_slice}
use Rattle.std.proofs.lemmas.Iterator.Search.{position_from_yields_List}
use Rattle.std.proofs.lemmas.Iterator.Adapters.{position_from-zero}
use Rattle.base_lists.specs.Lists.{leading}
use Rattle.base_lists.proofs.Leading.{all-leading}
use Rattle.method.specs.Table.{good_mark}
use Rattle.day_marks.proofs.Marks.{first_bad}
use Rattle.day_marks.proofs.first_bad_mark.Goals as goal

pub returns-then-all_good : goal.returns-then-all_good
returns-then-all_good c =
    let xs = c.args.marks.now in
    sym (eqb-true (leading good_mark xs) (length xs) (sym (all-leading good_mark xs) ∙ sym c.all_good.ensures ∙ c.if-all_good.true))

pub returns : goal.returns
returns c =
    let xs = c.args.marks.now in
    let place = position_from_yields_List (λ mark. not (eqb (bit_and mark 252) 0)) _ _ _ c.position-bad.ensures.ran (YieldsList-from_slice xs (search rules)) (λ x b q k. search (rules, tests)) ∙ position_from-zero _ xs in
    rw place at c.unwrap_or.ensures ∙ first_bad xs (λ k. (c.type_inv.marks k).fits)
