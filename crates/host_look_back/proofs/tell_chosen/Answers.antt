-- `host_look_back::tell_chosen` meets its contract: 1 where a day is chosen, else 0.
use mathlib.Core.Path.{◌∙◌}
use Rattle.host_look_back.proofs.Windows.{chosen_told_lem}
use Rattle.host_look_back.proofs.tell_chosen.Goals as goal

pub returns-then-is_taken : goal.returns-then-is_taken
returns-then-is_taken c =
    c.told.ensures ∙ chosen_told_lem _ _ _ _ c.of_event-window.ensures c.if-window.false c.rank_of.ensures c.is_taken.ensures c.if-is_taken.true

pub returns-else-is_taken : goal.returns-else-is_taken
returns-else-is_taken c =
    c.told-else-is_taken.ensures ∙ chosen_told_lem _ _ _ _ c.of_event-window.ensures c.if-window.false c.rank_of.ensures c.is_taken.ensures c.if-is_taken.false
