use Rattle.std.proofs.Common.{rules, tests}
use Rattle.std.proofs.lemmas.Fn.{always_returns_same}
use Rattle.std.specs.Prelude.{slice_index}
use lib.Dec.{ltb}
use Rattle.calendar_groups.proofs.ByPairs.{rises}
use Rattle.calendar_groups.proofs.is_rising.Goals as goal

pub returns : goal.returns
returns c =
    let told = c.is_sorted_by.ensures.cases (λ p q. ltb (slice_index p 0) (slice_index q 0)) (always_returns_same _ _ _ (λ a r f k. search (rules, tests))) in
    rises c.args.moves.now _ (rw c.pairs.ensures at told)
