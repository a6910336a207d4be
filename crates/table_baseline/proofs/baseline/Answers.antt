-- `table_baseline::baseline` meets its contract: what was found of the table says the rest.
use mathlib.Core.Path.{sym, ◌∙◌}
use Rattle.std.proofs.Common.{rules}
use Rattle.engine_answer.proofs.Laws.{refuses}
use Rattle.table_baseline.proofs.Tables.{table_refused, over_table_lem}
use Rattle.table_baseline.proofs.baseline.Goals as goal

pub returns-in_err-of_table : goal.returns-in_err-of_table
returns-in_err-of_table c =
    refuses _ c.in_err-of_table.field-0.0 _ _ (table_refused _ _ _ _ (sym c.of_table.ensures ∙ c.in_err-of_table.was)) (search rules)

pub returns : goal.returns
returns c = rw (over_table_lem _ _ _ _ (sym c.of_table.ensures ∙ c.in_ok-of_table.was)) at c.over_table.ensures
