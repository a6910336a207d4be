use native.Mathlib.Omega.{arith}
use borrow.Author.Rules.{rules}
use Rattle.engine_ranking.proofs.Carry.{next_passed, all_passed}
use Rattle.engine_ranking.proofs.push.Goals as goal

pub loop-here-preserved : goal.loop-here-preserved
loop-here-preserved c =
    let l = c.loop-here in
    next_passed l.row l.carry l.here-index l.invariant (omega arith) (search rules) (search rules)

pub returns : goal.returns
returns c = let l = c.loop-here in all_passed l.row l.carry l.here-index l.invariant (omega arith)
