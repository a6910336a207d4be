-- What a caller written in C is told of the working of an event over a table, by include/honeyplank.h.
use Rattle.std.specs.Prelude.{ℕ, List, ◌++◌, ℤ, Option}
use Rattle.calendar_groups.specs.Holidays.{group}
use Rattle.method.specs.declared.Request.{Request}
use Rattle.method.specs.Table.{Table, most_quarters, history}
use Rattle.method.specs.Verdict.{table_refusals, list_refusals, request_refusals}
use Rattle.host_answer.specs.Names.{row_after}
use Rattle.host_working.specs.Told.{working_row}

-- the refusals 1 to 3, 14 and 4 to 7 in their order, with room for any event; where none applies there is a working to tell
unfoldable pub table_sheet : List ℕ → Table → Request → ℕ → List (Option ℤ)
table_sheet moves t r at =
    row_after (table_refusals t ++ list_refusals moves ++ request_refusals (history t) r most_quarters) (working_row (group moves) r (history t) at)
