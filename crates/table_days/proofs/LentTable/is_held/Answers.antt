-- `table_days::LentTable::is_held` meets its contract.
use mathlib.Core.Path.{◌∙◌}
use borrow.Author.Tests.{lt-leb}
use Rattle.table_days.specs.Lent.{lent}
use Rattle.table_days.proofs.Extracts.{within, before}
use Rattle.table_days.proofs.LentTable.is_held.Goals as goal

pub returns-then-self-day : goal.returns-then-self-day
returns-then-self-day c = within (lent c.args.self.now) c.args.day c.if-self-day.true

pub returns-else-self-day : goal.returns-else-self-day
returns-else-self-day c = lt-leb _ _ c.if-self-day.false ∙ before (lent c.args.self.now) c.args.day c.if-self-day.false
