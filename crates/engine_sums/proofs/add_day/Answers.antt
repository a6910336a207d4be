-- `engine_sums::add_day` meets its contract: the law is `clipped`.
use Rattle.engine_sums.proofs.Adding.{clipped}
use Rattle.engine_sums.proofs.add_day.Goals as goal

pub returns : goal.returns
returns c =
    let a = c.args in
    clipped a.sums.now a.day.now a.start _ _ c.min-from.ensures c.min-length.ensures c.add_part.ensures c.type_inv.sums
