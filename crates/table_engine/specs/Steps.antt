-- What the engine gives by a list of moves over the rooms of a table, whatever the table holds: where 1 to 3 let it pass it is the verdict (`over_table_lem`).
use Rattle.std.specs.Prelude.{ℕ, List}
use Rattle.method.specs.declared.Request.{Request}
use Rattle.method.specs.Table.{Table}
use Rattle.method.specs.Verdict.{Reply}
use Rattle.engine_baseline.specs.Engine.{over_rooms}
use Rattle.table_directory.specs.Steps.{directory_of}

unfoldable pub over_table : List ℕ → Table → Request → ℕ → Reply
over_table moves t r room = over_rooms moves r (directory_of t r.event) t.readings room
