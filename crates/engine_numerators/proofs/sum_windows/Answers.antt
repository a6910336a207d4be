use Rattle.std.proofs.Common.{◌+◌, ◌≤◌, length, take, refl, length-take, arith}
use Rattle.std.proofs.lemmas.List.{take_all}
use Rattle.base_lists.specs.Lists.{sum_of}
use Rattle.engine_numerators.specs.NumeratorSteps.{window_sums}
use Rattle.engine_numerators.proofs.Windows.{all-small, windows_few, windows_next}
use Rattle.engine_numerators.proofs.sum_windows.Goals as goal

pub loop-place-init : goal.loop-place-init
unfolding window_sums sum_of
loop-place-init c = refl

pub overflow_add-total : goal.overflow_add-total
overflow_add-total c =
    let a = c.args in
    let l = c.loop-place in
    let items = c.starts-place-items.result.now in
    let next = windows_next _ _ _ _ l.total l.place-index c.window_sum-total.result (omega arith) l.invariant c.readings_at-day.ensures.list c.window_sum-total.ensures in
    let few : length (take (l.place-index + 1) items) ≤ 5 = omega (arith, length-take (l.place-index + 1) items, c.starts-place-items.ensures.few) in
    omega (arith, next, windows_few a.chosen.now.quarters a.readings.now (take (l.place-index + 1) items) a.chosen.now.end (all-small _ c.type_inv.readings) few)

pub loop-place-preserved : goal.loop-place-preserved
loop-place-preserved c =
    let l = c.loop-place in
    windows_next _ _ _ _ l.total l.place-index c.window_sum-total.result (omega arith) l.invariant c.readings_at-day.ensures.list c.window_sum-total.ensures

pub returns : goal.returns
returns c =
    let a = c.args in
    let l = c.loop-place in
    let items = c.starts-place-items.result.now in
    let whole = rw (take_all l.place-index items c.loop-place-test.false) at l.invariant in
    record {
      sum = rw c.starts-place-items.ensures.list at whole;
      bound = omega (arith, whole, windows_few a.chosen.now.quarters a.readings.now items a.chosen.now.end (all-small _ c.type_inv.readings) c.starts-place-items.ensures.few);
    }
