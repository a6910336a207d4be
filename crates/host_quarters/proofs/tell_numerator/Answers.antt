-- `host_quarters::tell_numerator` meets its contract: a difference of two numbers, each of which fits.
use Prim.Native.Nat.{◌+◌, ◌*◌, ◌<◌, ◌^◌}
use mathlib.Core.Path.{sym, ap, ◌∙◌}
use native.Mathlib.Nat.{mul-le-mul_right}
use native.Mathlib.Omega.{arith}
use Rattle.std.specs.Prelude.{Some}
use Rattle.method.proofs.Asked.{asked_high}
use Rattle.engine_numerators.proofs.Signed.{difference_back}
use Rattle.host_quarters.proofs.Numerators.{with_window}
use Rattle.host_quarters.proofs.tell_numerator.Goals as goal

pub returns-in_ok-end-in-HighXOfY : goal.returns-in_ok-end-in-HighXOfY
returns-in_ok-end-in-HighXOfY c =
    let a = c.args in
    let own = c.own_sum-own.result in
    let high : 12 * a.sum + a.chosen.count * own < 2 ^ 40 = omega (arith, mul-le-mul_right own c.requires.0, c.own_sum-own.ensures.1, c.requires.1) in
    let usual : c.usual_sum-usual.result < 2 ^ 40 = omega (arith, c.usual_sum-usual.ensures.1) in
    ap Some (difference_back (12 * a.sum + a.chosen.count * own) c.usual_sum-usual.result high usual)
    ∙ with_window _ _ _ _ _ (asked_high c.args.case.now.request (sym c.in-HighXOfY.ensures)) (sym c.adjustment_end.ensures ∙ c.in_ok-end-in-HighXOfY.was) c.own_sum-own.ensures.0 c.usual_sum-usual.ensures.0
