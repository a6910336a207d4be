-- `day_readings::complete` meets its contract. The invariant: what was found so far, and all that are still to come, is all.
use Rattle.std.proofs.Common.{◌≡◌, ◌&&◌, drop}
use Rattle.base_lists.specs.Lists.{all}
use Rattle.method.specs.Table.{present}
use Rattle.day_readings.proofs.complete.Given as goal

abbrev pub invariant-loop-reading : goal.invariant-loop-reading
invariant-loop-reading l = (l.all_present && all present (drop l.reading-index l.day)) ≡ all present l.day
