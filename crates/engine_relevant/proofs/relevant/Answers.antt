-- `engine_relevant::relevant` meets its contract: one law a way out.
use native.Mathlib.Omega.{arith}
use mathlib.Core.Path.{◌∙◌}
use Rattle.calendar_groups.specs.Holidays.{group as group_of}
use Rattle.engine_relevant.proofs.Relevance.{too_early, the_eve, no_eve, no_weekday}
use Rattle.engine_relevant.proofs.relevant.Goals.{else-eq-via-then-eq+else-from, else-eq-via-else-eq}
use Rattle.engine_relevant.proofs.relevant.Goals as goal

pub returns-then-day-request : goal.returns-then-day-request
returns-then-day-request c =
    let a = c.args in too_early (group_of a.moves.now) a.group a.request a.day c.if-day-request.true

pub returns-then-from : goal.returns-then-from
returns-then-from c =
    let a = c.args in
    the_eve (group_of a.moves.now) a.group a.request a.day c.eq.ensures c.if-eq.true (omega (arith, c.if-from.true, c.from.ensures, c.from-then-eq.ensures))

pub returns : goal.returns
returns c =
    let a = c.args in
    c.in_group.ensures
    ∙ elim c.else-eq.branch [
      | else-eq-via-then-eq+else-from w ↦ no_eve (group_of a.moves.now) a.group a.request a.day c.if-day-request.false c.eq.ensures (λ e. w.if-from.false (omega (arith, e, w.from.ensures, w.from-then-eq.ensures)))
      | else-eq-via-else-eq w ↦ no_weekday (group_of a.moves.now) a.group a.request a.day c.if-day-request.false c.eq.ensures w.if-eq.false
    ]
