use Rattle.std.proofs.Common.{◌%◌, ◌^◌, ap, ◌∙◌, arith}
use Rattle.base_lists.proofs.Places.{storing_begin, storing_here, storing_next}
use mir.Syntax.{w64}
use mir.Val.{to_z, of_z}
use Rattle.method.specs.Adjustment.{floored, unfloored}
use Rattle.engine_numerators.proofs.floor.Goals as goal

pub loop-sum-init : goal.loop-sum-init
loop-sum-init c = storing_begin _ _

pub loop-sum-preserved : goal.loop-sum-preserved
loop-sum-preserved c =
    let l = c.loop-sum in
    storing_next l.invariant (omega arith)
    (c.numerator.ensures ∙ ap (λ x. floored (unfloored 12 x (to_z w64 (of_z w64 c.args.adjustment))) % 2 ^ 32) (storing_here l.invariant))
