-- `engine_relevant::in_group` meets its contract: one law a way out.
use mathlib.Core.Path.{sym, ap, ◌∙◌}
use mathlib.Core.Bool.{not}
use borrow.Author.Tests.{lt-leb, eq-eqb, ne_eqb}
use Rattle.calendar_groups.specs.Holidays.{group as group_of}
use Rattle.calendar_groups.specs.declared.Group.{Group}
use Rattle.method.specs.Relevant.{same_group}
use Rattle.engine_relevant.proofs.Relevance.{at_weekend, in_the_week, on_saturday, no_saturday, on-sunday, no_sunday}
use Rattle.engine_relevant.proofs.in_group.Goals as goal

pub returns-else-weekday-ge2 : goal.returns-else-weekday-ge2
returns-else-weekday-ge2 c =
    let a = c.args in
    lt-leb _ _ c.if-weekday-ge2.false ∙ at_weekend a.moves.now a.day c.if-weekday-ge2.false ∙ ap (λ (g : Group). same_group (group_of a.moves.now a.day) g) (sym c.in-Weekday.is)

pub returns-then-weekday-ge2 : goal.returns-then-weekday-ge2
returns-then-weekday-ge2 c =
    let a = c.args in
    ap not c.is_holiday.ensures ∙ in_the_week a.moves.now a.day c.if-weekday-ge2.true ∙ ap (λ (g : Group). same_group (group_of a.moves.now a.day) g) (sym c.in-Weekday.is)

pub returns-then-weekday-eq0 : goal.returns-then-weekday-eq0
returns-then-weekday-eq0 c =
    let a = c.args in
    ap not c.is_holiday-then-weekday-eq0.ensures ∙ on_saturday a.moves.now a.day c.if-weekday-eq0.true ∙ ap (λ (g : Group). same_group (group_of a.moves.now a.day) g) (sym c.in-Saturday.is)

pub returns-else-weekday-eq0 : goal.returns-else-weekday-eq0
returns-else-weekday-eq0 c =
    let a = c.args in
    ne_eqb _ _ c.if-weekday-eq0.false ∙ no_saturday a.moves.now a.day c.if-weekday-eq0.false ∙ ap (λ (g : Group). same_group (group_of a.moves.now a.day) g) (sym c.in-Saturday.is)

pub returns-then-weekday-eq1 : goal.returns-then-weekday-eq1
returns-then-weekday-eq1 c =
    let a = c.args in
    eq-eqb _ _ c.if-weekday-eq1.true ∙ on-sunday a.moves.now a.day c.if-weekday-eq1.true ∙ ap (λ (g : Group). same_group (group_of a.moves.now a.day) g) (sym c.in-HolidayGroup.is)

pub returns-else-weekday-eq1 : goal.returns-else-weekday-eq1
returns-else-weekday-eq1 c =
    let a = c.args in
    c.is_holiday-else-weekday-eq1.ensures ∙ no_sunday a.moves.now a.day c.if-weekday-eq1.false ∙ ap (λ (g : Group). same_group (group_of a.moves.now a.day) g) (sym c.in-HolidayGroup.is)
