-- `engine_choice::days_of` meets its contract. The invariant: the days of the first `i` words stand in their places, and noughts after them.
use mathlib.Core.Path.{◌≡◌}
use mathlib.Core.List.{map}
use lib.ListN.{take}
use Rattle.engine_ranking.specs.Steps.{padded}
use Rattle.engine_choice.specs.Steps.{word_day}
use Rattle.engine_choice.proofs.days_of.Given as goal

abbrev pub invariant-loop-i : goal.invariant-loop-i
invariant-loop-i g l = l.days ≡ padded g.row.N (map (word_day l.event) (take l.i l.words))
