-- `table_directory::entries` meets its contract: each way out is a law of `Rooms`.
use Prim.Native.Nat.{◌-◌}
use mathlib.Core.Path.{sym, ◌∙◌}
use lib.ListN.{length}
use borrow.Author.Tests.{lt-ltb, le-ltb}
use Rattle.table_days.specs.Lent.{table_of}
use Rattle.table_days.proofs.Extracts.{within, before}
use Rattle.table_directory.proofs.Rooms.{entries_many, entries_none, entries_are}
use Rattle.table_directory.proofs.entries.Goals.{then-marks-gt128-via-then-marks-gt128, then-marks-gt128-via-else-marks-gt128+then-event-first}
use Rattle.table_directory.proofs.entries.Goals as goal

pub returns-then-marks-gt128 : goal.returns-then-marks-gt128
returns-then-marks-gt128 c = λ readings.
    let a = c.args in
    let t = table_of a.first a.marks.now readings in
    elim c.then-marks-gt128.branch [
      | then-marks-gt128-via-then-marks-gt128 w ↦ entries_many t a.event w.if-marks-gt128.true
      | then-marks-gt128-via-else-marks-gt128+then-event-first w ↦
          entries_none t a.event w.if-marks-gt128.false (sym (before t a.event w.if-event-first.true))
    ]

pub returns-then-before-marks : goal.returns-then-before-marks
returns-then-before-marks c = λ readings.
    let a = c.args in
    let t = table_of a.first a.marks.now readings in
    entries_are t a.event c.if-marks-gt128.false
    (sym (within t a.event c.if-event-first.false) ∙ lt-ltb (a.event - a.first) (length a.marks.now) c.if-before-marks.true)
    c.min.ensures

pub returns-else-before-marks : goal.returns-else-before-marks
returns-else-before-marks c = λ readings.
    let a = c.args in
    let t = table_of a.first a.marks.now readings in
    entries_none t a.event c.if-marks-gt128.false
    (sym (within t a.event c.if-event-first.false) ∙ le-ltb (a.event - a.first) (length a.marks.now) c.if-before-marks.false)
