-- `engine_rooms::readings_at` meets its contract.
use Prim.Native.Nat.{◌+◌, ◌-◌}
use mathlib.Core.Path.{◌≡◌, refl}
use native.Mathlib.Omega.{arith}
use Rattle.engine_rooms.proofs.Parts.{part_inside, part_past}
use Rattle.engine_rooms.proofs.readings_at.Goals as goal

pub returns-then-end-readings : goal.returns-then-end-readings
returns-then-end-readings c =
    let a = c.args in
    let e : a.at + a.size - a.at ≡ a.size = omega arith in
    part_inside refl c.if-end-readings.true (rw e) (omega arith)

pub returns-else-end-readings : goal.returns-else-end-readings
returns-else-end-readings c = part_past refl c.if-end-readings.false refl (omega arith)
