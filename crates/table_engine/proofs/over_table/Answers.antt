-- `table_engine::over_table` meets its contract: the rooms are those of the table's directory.
use Rattle.table_engine.specs.Steps.{over_table}
use Rattle.table_engine.proofs.over_table.Goals as goal

pub returns : goal.returns
unfolding over_table
returns c = rw (c.directory-rooms.ensures c.args.table.now.readings.now) at c.baseline_over.ensures
