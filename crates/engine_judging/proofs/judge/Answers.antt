-- `engine_judging::judge` meets its contract: a law each for a spare and an eligible day.
use borrow.Author.Rules.{rules}
use Rattle.engine_judging.proofs.Judging.{judged_as_spare, judged_as_eligible}
use Rattle.engine_judging.proofs.judge.Goals as goal

pub returns-then-is_event : goal.returns-then-is_event
returns-then-is_event c =
    let a = c.args in
    judged_as_spare a.request a.back a.mark a.part.now c.event_sum.ensures c.saturating_sub-nearness.ensures c.word-word.ensures
    (search rules) (search rules) (search rules)

pub returns-else-is_event : goal.returns-else-is_event
returns-else-is_event c =
    let a = c.args in
    judged_as_eligible a.request a.back a.mark a.part.now c.event_sum.ensures c.saturating_sub-nearness.ensures c.word-word.ensures
    (search rules) (search rules) (search rules)
