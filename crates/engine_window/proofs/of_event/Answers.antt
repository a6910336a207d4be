-- `engine_window::of_event` meets its contract: the eligible days fill the window, or they do not.
use Prim.Native.Nat.{◌≤◌}
use mathlib.Core.Path.{◌≡◌, ◌∙◌}
use native.Mathlib.Omega.{arith}
use borrow.Author.Rules.{rules}
use lib.ListN.{length}
use Rattle.calendar_groups.specs.Holidays.{group as group_of}
use Rattle.engine_choice.proofs.Requested.{follows}
use Rattle.engine_choice.proofs.WholeChoice.{filled_few}
use Rattle.engine_window.proofs.Shown.{of_front, shown_full, shown_few}
use Rattle.engine_window.proofs.of_event.Goals as goal

pub shared_ref_as_front-of_row : goal.shared_ref_as_front-of_row
shared_ref_as_front-of_row c =
    filled_few c.look-found.result (follows _ c.args.case.now.request c.rules_of-rules.ensures).sound c.if-found-rules.true c.filled-window.ensures

pub shared_ref_as_front-of_row-else-found-rules : goal.shared_ref_as_front-of_row-else-found-rules
shared_ref_as_front-of_row-else-found-rules c = (follows _ c.args.case.now.request c.rules_of-rules.ensures).sound.ten

pub returns-then-found-rules : goal.returns-then-found-rules
returns-then-found-rules c =
    let case = c.args.case.now in
    let row = c.filled-window.result in
    let f = follows _ case.request c.rules_of-rules.ensures in
    let within : row.count ≤ 10 = filled_few c.look-found.result f.sound c.if-found-rules.true c.filled-window.ensures in
    let ten : length row.words ≡ 10 = search rules in
    c.of_row.ensures ∙ of_front case.request.event c.rules_of-rules.result row.words row.count _ (omega (arith, ten, within))
    ∙ rw (c.filled-window.ensures, c.whole_reach.ensures)
    (shown_few (group_of case.moves.now) case.request case.rooms.now case.readings.now c.look-found.result c.group_of-group.ensures f c.look-found.ensures c.saturating_sub-before.ensures
    c.if-found-rules.true)

pub returns-else-found-rules : goal.returns-else-found-rules
returns-else-found-rules c =
    let case = c.args.case.now in
    let row = c.look-found.result.eligible in
    let f = follows _ case.request c.rules_of-rules.ensures in
    let ten : length row.words ≡ 10 = search rules in
    c.of_row-else-found-rules.ensures ∙ of_front case.request.event c.rules_of-rules.result row.words c.rules_of-rules.result.most _ (omega (arith, ten, f.sound.ten))
    ∙ shown_full (group_of case.moves.now) case.request case.rooms.now case.readings.now c.look-found.result c.group_of-group.ensures f c.look-found.ensures c.if-found-rules.false
