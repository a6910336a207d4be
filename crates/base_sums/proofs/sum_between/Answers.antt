-- `base_sums::sum_between` meets its contract: the part ends where the list does.
use Rattle.std.proofs.Common.{refl, arith}
use Rattle.base_lists.specs.Lists.{sum_of}
use Rattle.base_lists.proofs.Parts.{no_part}
use Rattle.base_sums.proofs.sum_between.Goals as goal

pub returns-else-start-last : goal.returns-else-start-last
unfolding sum_of
returns-else-start-last c =
    let a = c.args in
    rw (no_part a.start a.end a.xs.now (rw c.min-last.ensures at c.if-start-last.false))
    (record { sum = refl; bound = omega arith })
