-- `file_putting::put_day` meets its contract (`Putting`).
use Prim.Native.Nat.{◌+◌, ◌*◌, ◌<◌}
use mathlib.Core.Path.{refl}
use lib.ListN.{length}
use native.Mathlib.Omega.{arith}
use Rattle.file_putting.proofs.Putting.{day_kept, day_put}
use Rattle.file_putting.proofs.put_day.Goals as goal
use Rattle.file_putting.proofs.put_day.Goals.{then-out-lt-BEFORE_READINGS-via-then-out-lt-BEFORE_READINGS, then-out-lt-BEFORE_READINGS-via-else-out-lt-BEFORE_READINGS+then-out-readings}

pub returns : goal.returns
returns c = let a = c.args in
    let h = c.put_head in
    day_put a.out.now h.new.out a.day a.mark a.readings.now (omega arith) h.ensures refl c.put_numbers.ensures

pub returns-then-out-lt-BEFORE_READINGS : goal.returns-then-out-lt-BEFORE_READINGS
returns-then-out-lt-BEFORE_READINGS c =
    let a = c.args in
    let short : length a.out.now < 6 + 4 * length a.readings.now = elim c.then-out-lt-BEFORE_READINGS.branch [
      | then-out-lt-BEFORE_READINGS-via-then-out-lt-BEFORE_READINGS w ↦ omega (arith, w.if-out-lt-BEFORE_READINGS.true)
      | then-out-lt-BEFORE_READINGS-via-else-out-lt-BEFORE_READINGS+then-out-readings w ↦ omega (arith, w.if-out-lt-BEFORE_READINGS.false, w.if-out-readings.true)
    ] in
    day_kept a.out.now a.day a.mark a.readings.now short
