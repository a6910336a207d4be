-- What the row will be stays the same: the places passed, and then the rest with the word in the hand pushed in.
use mathlib.Core.Path.{◌≡◌}
use mathlib.Core.List.{◌++◌}
use lib.ListN.{take, drop}
use Rattle.engine_ranking.specs.Steps.{pushed}
use Rattle.engine_ranking.proofs.push.Given as goal

abbrev pub invariant-loop-here : goal.invariant-loop-here
invariant-loop-here l = take l.here-index l.row ++ pushed l.carry (drop l.here-index l.row) ≡ pushed l.word l.initial.row
