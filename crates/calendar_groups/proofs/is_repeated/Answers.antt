use mathlib.Core.Path.{refl, sym, ◌∙◌}
use Rattle.calendar_groups.proofs.ByPairs.{next_again, none_again}
use Rattle.calendar_groups.proofs.is_repeated.Goals as goal

pub returns-then-is_moved : goal.returns-then-is_moved
returns-then-is_moved c =
    let l = c.loop-rest in
    rw (← l.invariant, next_again l.rest.now c.in-len2-up.len_at_least, ← c.is_moved.ensures, c.if-is_moved.true) refl

pub loop-rest-preserved : goal.loop-rest-preserved
loop-rest-preserved c =
    let l = c.loop-rest in
    let e = rw (← c.is_moved.ensures, c.if-is_moved.false) at (next_again l.rest.now c.in-len2-up.len_at_least) in
    sym e ∙ l.invariant

pub returns : goal.returns
returns c =
    let l = c.loop-rest in
    sym (none_again l.rest.now c.in_default.len_below) ∙ l.invariant
