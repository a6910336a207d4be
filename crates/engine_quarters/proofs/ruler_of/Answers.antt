-- `engine_quarters::ruler_of` meets its contract.
use Rattle.std.proofs.Common.{rules}
use Rattle.engine_numerators.proofs.Windows.{all-small, ruler_most}
use Rattle.engine_quarters.proofs.ruler_of.Goals as goal

pub returns-clause-most : goal.returns-clause-most
returns-clause-most c =
    let yesterday = c.part_of-yesterday.result.now in
    let today = c.part_of-today.result.now in
    λ end. ruler_most yesterday today end (all-small yesterday (λ i. search rules)) (all-small today (λ i. search rules))
