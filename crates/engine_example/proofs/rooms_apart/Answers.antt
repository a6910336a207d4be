-- `engine_example::rooms_apart` meets its contract: each way out is a law of `Apart`.
use Prim.Native.Nat.{◌+◌, ◌-◌}
use mathlib.Core.Path.{refl, ap}
use native.Mathlib.Omega.{arith}
use Rattle.method.proofs.Tables.{size_most}
use Rattle.engine_example.proofs.Apart.{no_day, too_short, both_agree}
use Rattle.engine_example.proofs.rooms_apart.Goals as goal

pub overflow_add-start : goal.overflow_add-start
overflow_add-start c = let a = c.args in omega (arith, c.size.ensures, size_most a.request.event)

pub overflow_add-end : goal.overflow_add-end
overflow_add-end c =
    let event = c.args.request.event in
    omega (arith, c.size.ensures, size_most event, c.size-then-event-ne0.ensures, size_most (event - 1))

pub returns-then-end-readings : goal.returns-then-end-readings
returns-then-end-readings c =
    let a = c.args in
    both_agree a.request a.before a.today a.gap a.readings.now c.if-event-ne0.true
    (omega (arith, c.if-end-readings.true, c.size.ensures, c.size-then-event-ne0.ensures)) _ refl refl (ap (λ n. n + a.gap) c.size.ensures) refl refl

pub returns-else-end-readings : goal.returns-else-end-readings
returns-else-end-readings c =
    let a = c.args in
    too_short a.request a.before a.today a.gap a.readings.now _ refl c.if-event-ne0.true
    (omega (arith, c.if-end-readings.false, c.size.ensures, c.size-then-event-ne0.ensures))

pub returns-else-event-ne0 : goal.returns-else-event-ne0
returns-else-event-ne0 c =
    let a = c.args in
    no_day a.request a.before a.today a.gap a.readings.now _ refl c.if-event-ne0.false
