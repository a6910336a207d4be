use Rattle.std.proofs.Common.{◌+◌, ◌%◌, ◌^◌, arith, rules, tests}
use Rattle.std.proofs.lemmas.Iterator.{YieldsList-from_slice}
use Rattle.std.proofs.lemmas.Iterator.Consumers.{fold_from_yields_List}
use Rattle.base_sums.proofs.Folded.{summed}
use Rattle.base_sums.proofs.sum.Goals as goal

pub returns : goal.returns
returns c =
    let xs = c.args.xs.now in
    summed xs (λ k. omega (arith, c.type_inv.xs k))
    (fold_from_yields_List _ (λ total x. (total + x) % 2 ^ 64) 0 _ c.fold.ensures.ran (YieldsList-from_slice xs (search rules)) (λ a x b q k. search (rules, tests)))
