-- `file_writing::write` meets its contract: one law for each way out.
use mathlib.Core.Path.{sym, ◌∙◌}
use native.Mathlib.Omega.{arith}
use lib.ListN.{length}
use Rattle.file_record.specs.Writer.{lent}
use Rattle.file_record.proofs.Writing.{matches, says, no_match, unsaid}
use Rattle.file_writing.proofs.Whole.{passed_by, end_most, too_short, shaped, written}
use Rattle.file_writing.proofs.write.Goals as goal

pub returns-then-not-matching : goal.returns-then-not-matching
returns-then-not-matching c =
    let a = c.args in
    no_match (lent a.participation a.portfolio a.first a.marks.now a.readings.now a.moves.now a.events.now) a.out.now
    (sym c.is_matching-matching.ensures ∙ c.if-not-matching.true)

pub returns-then-not-sayable : goal.returns-then-not-sayable
returns-then-not-sayable c =
    let a = c.args in
    unsaid (lent a.participation a.portfolio a.first a.marks.now a.readings.now a.moves.now a.events.now) a.out.now
    (sym c.is_matching-matching.ensures ∙ c.if-not-matching.false) (sym c.is_sayable-sayable.ensures ∙ c.if-not-sayable.true)

pub overflow_cast-shape : goal.overflow_cast-shape
overflow_cast-shape c =
    let a = c.args in
    omega (arith, says a.participation a.first (length a.marks.now) a.moves.now a.events.now (sym c.is_sayable-sayable.ensures ∙ c.if-not-sayable.false))

pub overflow_cast-shape-2 : goal.overflow_cast-shape-2
overflow_cast-shape-2 c =
    let a = c.args in
    omega (arith, matches a.first (length a.marks.now) (length a.readings.now) (sym c.is_matching-matching.ensures ∙ c.if-not-matching.false))

pub overflow_cast-shape-3 : goal.overflow_cast-shape-3
overflow_cast-shape-3 c =
    let a = c.args in
    omega (arith, says a.participation a.first (length a.marks.now) a.moves.now a.events.now (sym c.is_sayable-sayable.ensures ∙ c.if-not-sayable.false))

pub overflow_add-end : goal.overflow_add-end
overflow_add-end c =
    omega (arith, end_most (passed_by c.args.participation c.args.portfolio c.args.first c.args.marks.now c.args.readings.now c.args.moves.now c.args.events.now (sym c.is_matching-matching.ensures ∙ c.if-not-matching.false) (sym c.is_sayable-sayable.ensures ∙ c.if-not-sayable.false) (rw c.base.ensures at c.day_start-start.ensures.start)))

pub returns-then-out-end : goal.returns-then-out-end
returns-then-out-end c =
    too_short (passed_by c.args.participation c.args.portfolio c.args.first c.args.marks.now c.args.readings.now c.args.moves.now c.args.events.now (sym c.is_matching-matching.ensures ∙ c.if-not-matching.false) (sym c.is_sayable-sayable.ensures ∙ c.if-not-sayable.false) (rw c.base.ensures at c.day_start-start.ensures.start)) c.args.out.now c.if-out-end.true

pub put_file-requires : goal.put_file-requires
put_file-requires c =
    shaped (passed_by c.args.participation c.args.portfolio c.args.first c.args.marks.now c.args.readings.now c.args.moves.now c.args.events.now (sym c.is_matching-matching.ensures ∙ c.if-not-matching.false) (sym c.is_sayable-sayable.ensures ∙ c.if-not-sayable.false) (rw c.base.ensures at c.day_start-start.ensures.start)) c.args.out.now c.if-out-end.false

pub overflow_cast-result : goal.overflow_cast-result
overflow_cast-result c =
    omega (arith, end_most (passed_by c.args.participation c.args.portfolio c.args.first c.args.marks.now c.args.readings.now c.args.moves.now c.args.events.now (sym c.is_matching-matching.ensures ∙ c.if-not-matching.false) (sym c.is_sayable-sayable.ensures ∙ c.if-not-sayable.false) (rw c.base.ensures at c.day_start-start.ensures.start)))

pub returns : goal.returns
returns c =
    written (passed_by c.args.participation c.args.portfolio c.args.first c.args.marks.now c.args.readings.now c.args.moves.now c.args.events.now (sym c.is_matching-matching.ensures ∙ c.if-not-matching.false) (sym c.is_sayable-sayable.ensures ∙ c.if-not-sayable.false) (rw c.base.ensures at c.day_start-start.ensures.start)) c.args.out.now c.if-out-end.false c.put_file.ensures
