-- `file_baseline::file_baseline` meets the demands, by its contract.
use Rattle.demands.proofs.Demands.{demands}
use Rattle.demands_calls.proofs.of_file.Goals as goal

pub returns : goal.returns
returns c = demands _ _ _ _ c.file_baseline.ensures
