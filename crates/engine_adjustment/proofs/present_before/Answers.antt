-- `engine_adjustment::present_before` meets its contract: the law is `run_found`.
use Rattle.std.proofs.Common.{◌≡◌, ◌-◌, ◌++◌, get_or, rules, tests}
use Rattle.std.proofs.lemmas.Iterator.{first_from_Range}
use Rattle.method.specs.Table.{missing}
use Rattle.engine_adjustment.proofs.Windows.{run_found}
use Rattle.engine_adjustment.proofs.present_before.Goals as goal

pub returns : goal.returns
returns c =
    let a = c.args in
    let xs = a.yesterday.now ++ a.today.now in
    rw c.unwrap_or.ensures (run_found xs a.end c.find.result c.requires
    (first_from_Range _ _ _ _ (λ k. get_or xs (a.end - k - 1) 0 ≡ missing) (λ k. get_or xs (a.end - k - 1) 0 ≡ missing → ⊥) c.find.ensures.ran (λ x q k. search (rules, tests)) (λ x q k. search (rules, tests))))
