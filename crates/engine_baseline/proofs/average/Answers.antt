-- `engine_baseline::average` meets its contract: each need is a law of `Steps`.
use mathlib.Core.Path.{refl}
use native.Mathlib.Omega.{arith}
use lib.ListN.{length}
use Rattle.engine_baseline.proofs.Steps.{ranges, room_long, averages}
use Rattle.engine_baseline.proofs.average.Goals as goal

pub overflow_sub-part : goal.overflow_sub-part
overflow_sub-part c =
    let a = c.args in
    let case = a.case.now in
    omega (arith, (ranges case.request case.rooms.now case.readings.now (length a.out.now) a.chosen c.requires.0).some)

pub returns : goal.returns
returns c =
    let a = c.args in
    let case = a.case.now in
    let room = length a.out.now in
    averages case.request case.rooms.now case.readings.now room a.chosen c.requires.0 c.requires.1 c.placed-places.ensures a.out.now
    (room_long case.request case.rooms.now case.readings.now room a.chosen c.requires.0 a.out.now refl) (rw c.starts.ensures.list at c.sum_days.ensures) refl
