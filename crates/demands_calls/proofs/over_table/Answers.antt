-- `table_baseline::baseline` meets the demands, by its contract.
use Rattle.demands.proofs.Demands.{demands}
use Rattle.demands_calls.proofs.over_table.Goals as goal

pub returns : goal.returns
returns c = demands _ _ _ _ c.baseline.ensures
