-- `host_entries::hp_baseline` meets the demands, by its contract.
use Rattle.demands.proofs.Entries.{file_entry}
use Rattle.demands_calls.proofs.entry_of_file.Goals as goal

pub returns : goal.returns
returns c = file_entry _ _ c.hp_baseline.ensures
