-- `file_baseline::first_bad_reading` meets its contract: it is found before the span, in its rooms, or after it.
use native.Mathlib.Omega.{arith}
use Rattle.file_baseline.proofs.Files.{bad_few, rooms_few, found_before, found_inside, found_after}
use Rattle.file_baseline.proofs.first_bad_reading.Goals as goal

pub returns-then-bad-start : goal.returns-then-bad-start
returns-then-bad-start c = found_before c.requires c.first_bad_reading-bad.ensures (omega (arith, c.offset-start.ensures))

pub overflow_add-result : goal.overflow_add-result
overflow_add-result c = omega (arith, c.offset-start.ensures, rooms_few c.requires)

pub returns-then-inside-rooms : goal.returns-then-inside-rooms
returns-then-inside-rooms c =
    rw c.offset-start.ensures
    (found_inside c.requires c.first_bad_reading-bad.ensures (omega (arith, c.offset-start.ensures)) c.first_bad_reading-inside.ensures c.if-inside-rooms.true)

pub overflow_add-result-2 : goal.overflow_add-result-2
overflow_add-result-2 c = omega (arith, c.offset-start.ensures, rooms_few c.requires)

pub overflow_add-result-3 : goal.overflow_add-result-3
overflow_add-result-3 c =
    let found = found_after c.requires c.first_bad_reading-bad.ensures (omega (arith, c.offset-start.ensures)) c.first_bad_reading-inside.ensures c.if-inside-rooms.false
    c.first_bad_reading.ensures in
    omega (arith, c.offset-start.ensures, found, bad_few c.requires.laid_down)

pub returns : goal.returns
returns c =
    rw c.offset-start.ensures
    (found_after c.requires c.first_bad_reading-bad.ensures (omega (arith, c.offset-start.ensures)) c.first_bad_reading-inside.ensures c.if-inside-rooms.false
    c.first_bad_reading.ensures)
