-- What a caller written in C is told of the working of the event at a place of a file, by include/honeyplank.h.
use Rattle.std.specs.Prelude.{ℕ, List, ℤ, Option, Result, Ok, Err}
use Rattle.method.specs.declared.Refusal.{Refusal}
use Rattle.method.specs.declared.Request.{Request}
use Rattle.method.specs.Table.{Table}
use Rattle.file_record.specs.Reader.{read_file, list_in, table_in, event_at_place}
use Rattle.host_answer.specs.Names.{refusal_row}
use Rattle.host_table.specs.OverTable.{table_sheet}

abbrev pub sheet_at : Result Request Refusal → List ℕ → Table → ℕ → List (Option ℤ)
sheet_at (Err w) moves t at = refusal_row w
sheet_at (Ok r) moves t at = table_sheet moves t r at

-- 11, 12, then the working over the file's table by its list of moves
unfoldable pub file_sheet : List ℕ → ℕ → ℕ → List (Option ℤ)
file_sheet file place at = sheet_at (event_at_place (read_file file) file place) (list_in file) (table_in file) at
