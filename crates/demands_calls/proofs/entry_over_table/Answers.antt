-- `host_entries::hp_baseline_table` meets the demands, by its contract.
use Rattle.demands.proofs.Entries.{table_entry}
use Rattle.demands_calls.proofs.entry_over_table.Goals as goal

pub returns : goal.returns
returns c = table_entry _ _ _ c.hp_baseline_table.ensures
