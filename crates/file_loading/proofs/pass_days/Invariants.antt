-- `file_loading::pass_days` meets its contract. The loop's invariant: the days passed are good, and what is left is all that remains (`Passing`).
use mathlib.Core.Path.{◌≡◌}
use lib.ListN.{length}
use Rattle.method.specs.Table.{most_quarters}
use Rattle.file_loading.proofs.Loading.{Passing}
use Rattle.file_loading.proofs.pass_days.Given as goal

abbrev pub invariant-loop-k : goal.invariant-loop-k
invariant-loop-k l = Passing l.fn.shape l.fn.span l.file l.k × (length l.day ≡ most_quarters)
