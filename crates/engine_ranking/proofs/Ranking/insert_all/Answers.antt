use mathlib.Core.Path.{ap, ◌∙◌}
use native.Mathlib.Omega.{arith}
use borrow.Author.Rules.{rules}
use Rattle.engine_ranking.specs.Steps.{insert_all}
use Rattle.engine_ranking.proofs.OneByOne.{one_more, all_in, first_of_ten, counted_to}
use Rattle.engine_ranking.proofs.Ranking.insert_all.Goals as goal

pub loop-other-preserved : goal.loop-other-preserved
loop-other-preserved c =
    let l = c.loop-other in
    record { left = one_more _ l.self.words l.other-index l.invariant.left c.loop-other-test.true c.push.ensures; count = l.invariant.count }

pub returns-clause-words : goal.returns-clause-words
returns-clause-words c =
    let a = c.args in
    let l = c.loop-other in
    let first = first_of_ten a.others.now.words a.count (search rules) c.min.ensures in
    all_in _ l.self.words l.other-index l.invariant.left c.loop-other-test.false ∙ ap (λ w. insert_all w a.self.now.words) first

pub returns-clause-count : goal.returns-clause-count
returns-clause-count c = omega (arith, c.loop-other.invariant.count, c.unwrap_or.ensures, counted_to c.try_from.result c.args.count c.try_from.ensures)
