-- `engine_quarters::own_sum` meets its contract.
use Rattle.std.proofs.Common.{ap, ◌∙◌, arith}
use Rattle.method.specs.Adjustment.{A}
use Rattle.engine_quarters.proofs.own_sum.Goals as goal

pub returns : goal.returns
returns c =
    let end = c.args.end in
    (c.window_sum.ensures ∙ ap (λ l. A l end) c.ruler_of.ensures.line, omega (arith, c.window_sum.ensures, c.ruler_of.ensures.most end))
