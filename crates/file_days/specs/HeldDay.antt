-- What a file holds of one day: its mark, and the reading at a quarter of the day.
use Rattle.std.specs.Prelude.{ℕ, cond, ◌&&◌, List, get_or, ltb, Option, Some, None, Result, Ok, Err}
use Rattle.method.specs.Table.{Table, size, day_of, held, history}
use Rattle.file_record.specs.Reader.{table_in}
use Rattle.method.specs.declared.Refusal.{Refusal}
use Rattle.file_record.specs.declared.Shape.{Shape}

-- of a day that a table holds
unfoldable pub mark_of : Table → ℕ → Option ℕ
mark_of t day = cond (held (history t) day) (Some (day_of t day).mark) None

unfoldable pub reading_of : Table → ℕ → ℕ → Option ℕ
reading_of t day quarter = cond (held (history t) day && ltb quarter (size day)) (Some (get_or (day_of t day).readings quarter 0)) None

-- of a day that a file holds; of a file that is refused there is nothing
abbrev pub mark_in : Result Shape Refusal → List ℕ → ℕ → Option ℕ
mark_in (Ok shape) file day = mark_of (table_in file) day
mark_in (Err refusal) file day = None

abbrev pub reading_in : Result Shape Refusal → List ℕ → ℕ → ℕ → Option ℕ
reading_in (Ok shape) file day quarter = reading_of (table_in file) day quarter
reading_in (Err refusal) file day quarter = None
