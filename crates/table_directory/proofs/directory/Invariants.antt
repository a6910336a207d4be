-- `table_directory::directory` meets its contract. The loop's invariant: the first `i` places of both rows are filled.
use Prim.Native.Nat.{◌-◌}
use mathlib.Core.Path.{◌≡◌}
use lib.ListN.{get_or}
use Rattle.method.specs.Table.{offset}
use Rattle.base_lists.proofs.Places.{filled}
use Rattle.table_directory.proofs.directory.Given as goal

abbrev pub invariant-loop-i : goal.invariant-loop-i
invariant-loop-i l = (l.at ≡ filled (λ j. offset l.first (l.event - j - l.first)) 46 l.i) ×
    (l.kept ≡ filled (λ j. get_or l.marks (l.event - j - l.first) 0) 46 l.i)
