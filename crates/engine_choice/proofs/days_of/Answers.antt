use Prim.Native.Nat.{ℕ}
use mathlib.Core.Path.{ap, ◌∙◌}
use mathlib.Core.List.{List}
use native.Mathlib.Omega.{arith}
use lib.ListN.{take, set}
use Rattle.engine_choice.specs.Steps.{word_day}
use Rattle.engine_choice.proofs.Five.{no_words, one_more, all_places}
use Rattle.engine_choice.proofs.days_of.Goals as goal

pub loop-i-init : goal.loop-i-init
loop-i-init g c = no_words g.row.N

pub loop-i-preserved : goal.loop-i-preserved
loop-i-preserved g c =
    let a = c.args in
    let l = c.loop-i in
    ap (λ (ds : List ℕ). set ds l.i c.day_of.result) l.invariant
    ∙ one_more g.row.N (word_day a.event) (take c.min.result a.words.now) l.i c.day_of.result (omega arith) c.day_of.ensures

pub returns : goal.returns
returns g c =
    let a = c.args in
    c.loop-i.invariant ∙ all_places g.row.N (word_day a.event) a.words.now c.min.ensures (omega arith)
