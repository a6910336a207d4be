use Rattle.std.proofs.Common.{◌*◌, ◌^◌, ◌<◌, ◌∙◌, arith}
use Rattle.std.proofs.Math.Nat.{mul-le-mul_left}
use Rattle.engine_numerators.proofs.Signed.{difference_fits, difference_back, mag_difference}
use Rattle.engine_numerators.proofs.adjustment.Goals as goal

pub overflow_sub-result : goal.overflow_sub-result
overflow_sub-result c =
    let most : c.from-count.result * c.args.own < 2 ^ 40 = omega (arith, mul-le-mul_left c.from-count.result c.requires) in
    difference_fits _ _ most (omega (arith, c.sum_windows.ensures.bound))

pub returns : goal.returns
returns c =
    let count = c.from-count.result in
    let usual = c.sum_windows.result in
    let most : count * c.args.own < 2 ^ 40 = omega (arith, mul-le-mul_left count c.requires) in
    let less : usual < 2 ^ 40 = omega (arith, c.sum_windows.ensures.bound) in
    let back = difference_back (count * c.args.own) usual most less in
    record {
      value = back ∙ rw (c.from-count.ensures ∙ c.min.ensures, c.sum_windows.ensures.sum);
      bound = rw back (mag_difference (count * c.args.own) usual (2 ^ 40) most less);
    }
