use Rattle.std.proofs.Common.{length}
use Rattle.engine_sums.proofs.Adding.{added_begin, added_next, added_end}
use Rattle.engine_sums.proofs.sum_days.Goals as goal

pub loop-place-init : goal.loop-place-init
loop-place-init c =
    let a = c.args in
    added_begin a.size a.readings.now a.at.now a.start (length a.sums.now) (c.fill.ensures.after (λ y h. h))

pub loop-place-preserved : goal.loop-place-preserved
loop-place-preserved c =
    added_next _ _ _ _ _ c.loop-place.invariant c.loop-place-test.true c.readings_at-day.ensures.list c.add_day.ensures

pub returns : goal.returns
returns c = added_end _ _ _ _ _ c.loop-place.invariant c.loop-place-test.false
