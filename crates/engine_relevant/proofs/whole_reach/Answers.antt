use Prim.Native.Nat.{◌+◌, ◌-◌, ◌≤◌, ◌<◌, min}
use mathlib.Core.Path.{◌≡◌, sym, ap, ◌∙◌}
use native.Mathlib.Omega.{arith}
use Rattle.calendar_groups.specs.Holidays.{group as group_of}
use Rattle.engine_relevant.proofs.Relevance.{relevant_to_lem}
use Rattle.engine_relevant.proofs.Reaching.{reach_within, reach_start, reach_pass, reach_here, reach_none}
use Rattle.engine_relevant.proofs.whole_reach.Goals as goal

pub loop-back-init : goal.loop-back-init
loop-back-init c =
    let a = c.args in
    let e : min 45 a.request.event ≡ c.min-farthest.result + 1 - 1 = omega (arith, c.min-farthest.ensures) in
    reach_start (group_of a.moves.now) a.request ∙ ap (reach_within (group_of a.moves.now) a.request) e

pub returns-then-relevant : goal.returns-then-relevant
returns-then-relevant c =
    let a = c.args in
    let back = c.loop-back.back - 1 in
    let own = relevant_to_lem (group_of a.moves.now) _ a.request (a.request.event - back) c.group_of-group.ensures in
    let z : 0 < back = omega (arith, c.loop-back-test.true) in
    let h : back ≤ a.request.event = omega (arith, c.loop-back.auto.back, c.min-farthest.ensures) in
    sym (c.loop-back.invariant ∙ reach_here (group_of a.moves.now) a.request back z h (sym own ∙ sym c.relevant.ensures ∙ c.if-relevant.true))

pub loop-back-preserved : goal.loop-back-preserved
loop-back-preserved c =
    let a = c.args in
    let back = c.loop-back.back - 1 in
    let own = relevant_to_lem (group_of a.moves.now) _ a.request (a.request.event - back) c.group_of-group.ensures in
    let z : 0 < back = omega (arith, c.loop-back-test.true) in
    let h : back ≤ a.request.event = omega (arith, c.loop-back.auto.back, c.min-farthest.ensures) in
    c.loop-back.invariant ∙ reach_pass (group_of a.moves.now) a.request back z h (sym own ∙ sym c.relevant.ensures ∙ c.if-relevant.false)

pub returns : goal.returns
returns c =
    let a = c.args in
    let e : c.loop-back.back - 1 ≡ 0 = omega (arith, c.loop-back-test.false) in
    sym (c.loop-back.invariant ∙ ap (reach_within (group_of a.moves.now) a.request) e ∙ reach_none (group_of a.moves.now) a.request)
