-- `file_days::mark_within` meets its contract: a day that is held, and one that is not.
use Rattle.std.proofs.Common.{rules, ◌+◌, ap, ◌∙◌, ℕ}
use lib.ListN.{get_or}
use Rattle.file_days.proofs.Days.{mark_there, mark_none}
use Rattle.file_days.proofs.mark_within.Goals as goal

pub returns-then-not-holds : goal.returns-then-not-holds
returns-then-not-holds c = let a = c.args in mark_none a.shape a.file.now a.day (search rules)

pub returns : goal.returns
returns c =
    let a = c.args in
    mark_there a.shape a.file.now a.day (search rules) (c.from.ensures ∙ ap (λ (n : ℕ). get_or a.file.now (n + 4) 0) c.start-at.ensures)
