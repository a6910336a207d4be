-- `engine_baseline::adjusted` meets its contract: each need is a law of `Steps`, at the start (`s`) or where the window's end is known (`e`).
use Rattle.std.proofs.Common.{◌≡◌, ◌-◌, ◌++◌, length, refl, arith}
use borrow.Author.Rules.{sfits_of}
use mir.Syntax.{w64}
use mir.ValLaws.{to_z-of_z}
use Rattle.method.specs.Adjustment.{adjustment_end}
use Rattle.engine_answer.proofs.Laws.{refuses}
use Rattle.engine_adjustment.proofs.Windows.{found_none, found_some, found_past}
use Rattle.engine_baseline.proofs.Steps.{no_window, ranges, room_long, adjusted_answers}
use Rattle.engine_baseline.proofs.adjusted.Goals as goal

pub returns-in_default : goal.returns-in_default
returns-in_default c =
    let a = c.args in
    let case = a.case.now in
    let yesterday = c.part-yesterday.ensures.part.list in
    let itself : case.request.event - 0 ≡ case.request.event = omega arith in
    let today = rw itself at c.part-today.ensures.part.list in
    let room = length a.out.now in
    let line = c.part-yesterday.result.now ++ c.part-today.result.now in
    refuses _ _ _ a.out.now
    (no_window case.request case.rooms.now case.readings.now room a.chosen c.requires.0 c.requires.1 yesterday today refl
    (found_none (adjustment_end case.request line) c.in_default.ensures)) refl

pub overflow_sub-length : goal.overflow_sub-length
overflow_sub-length c =
    let a = c.args in
    let case = a.case.now in
    let room = length a.out.now in
    omega (arith, (ranges case.request case.rooms.now case.readings.now room a.chosen c.requires.0).some)

pub returns : goal.returns
returns c =
    let a = c.args in
    let case = a.case.now in
    let yesterday = c.part-yesterday.ensures.part.list in
    let itself : case.request.event - 0 ≡ case.request.event = omega arith in
    let today = rw itself at c.part-today.ensures.part.list in
    let room = length a.out.now in
    let ends = found_some _ _ c.in-Some.ensures in
    let past = found_past _ _ c.in-Some.ensures in
    rw (to_z-of_z w64 c.write-adjustment.result (sfits_of c.write-adjustment.type_inv))
    (adjusted_answers case.request case.rooms.now case.readings.now room a.chosen c.requires.0 c.requires.1 yesterday today ends past c.placed-places.ensures c.write-adjustment.ensures
    (room_long case.request case.rooms.now case.readings.now room a.chosen c.requires.0 a.out.now refl) refl)
