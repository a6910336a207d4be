-- `engine_choice::choose` meets its contract: the eligible days fill the window, or they do not. What was looked at is known at `l`.
use mathlib.Core.Path.{◌∙◌}
use Rattle.calendar_groups.specs.Holidays.{group as group_of}
use Rattle.engine_choice.proofs.Requested.{follows}
use Rattle.engine_choice.proofs.WholeChoice.{request_few, request_full}
use Rattle.engine_choice.proofs.choose.Goals as goal

pub choose_among_few-requires : goal.choose_among_few-requires
choose_among_few-requires c =
    ((follows _ c.args.case.now.request c.rules_of-rules.ensures).sound, c.if-found-rules.true)

pub pick-requires : goal.pick-requires
pick-requires c =
    let sound = (follows _ c.args.case.now.request c.rules_of-rules.ensures).sound in
    (sound, sound.ten)

pub returns-then-found-rules : goal.returns-then-found-rules
returns-then-found-rules c =
    let case = c.args.case.now in
    c.choose_among_few.ensures
    ∙ request_few (group_of case.moves.now) case.request case.rooms.now case.readings.now c.look-found.result c.group_of-group.ensures
    (follows _ case.request c.rules_of-rules.ensures) c.look-found.ensures c.saturating_sub-before.ensures c.if-found-rules.true

pub returns-else-found-rules : goal.returns-else-found-rules
returns-else-found-rules c =
    let case = c.args.case.now in
    c.pick.ensures
    ∙ request_full (group_of case.moves.now) case.request case.rooms.now case.readings.now c.look-found.result c.group_of-group.ensures
    (follows _ case.request c.rules_of-rules.ensures) c.look-found.ensures c.if-found-rules.false
