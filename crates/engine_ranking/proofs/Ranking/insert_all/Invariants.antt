-- What is left to do gives the whole.
use mathlib.Core.Path.{◌≡◌}
use lib.ListN.{drop}
use Rattle.engine_ranking.specs.Steps.{insert_all}
use Rattle.engine_ranking.proofs.Ranking.insert_all.Given as goal

abbrev pub invariant-loop-other : goal.invariant-loop-other
invariant-loop-other l =
    record {
      left : insert_all (drop l.other-index l.other-items) l.self.words ≡ insert_all l.other-items l.initial.self.words;
      count : l.self.count ≡ l.initial.self.count;
    }
