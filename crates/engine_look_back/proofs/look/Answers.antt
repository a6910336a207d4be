use Prim.Native.Nat.{◌+◌, ◌-◌}
use mathlib.Core.Path.{◌≡◌, refl, ◌∙◌}
use native.Mathlib.Omega.{arith}
use Rattle.calendar_groups.specs.Holidays.{group as group_of}
use Rattle.engine_relevant.specs.Steps.{relevant_to}
use Rattle.engine_look_back.specs.Steps.{rooms_of}
use Rattle.engine_look_back.proofs.Held.{before_is}
use Rattle.engine_look_back.proofs.Looking.{Back, back_start, back_further, back_more, back_full, back_end}
use Rattle.engine_look_back.proofs.look.Goals as goal
use Rattle.engine_look_back.proofs.look.Goals.{After-look_at}

pub loop-nearer-init : goal.loop-nearer-init
loop-nearer-init c = rw (c.new.ensures, c.new-2.ensures) (back_start _ _ _ _ _ _)

pub returns-then-found-most : goal.returns-then-found-most
returns-then-found-most c =
    let held = c.held_before-before.ensures ∙ before_is c.args.case.now.request c.args.case.now.rooms.now in
    rw held at (back_full c.loop-nearer.invariant c.if-found-most.true)

pub look_at-requires : goal.look_at-requires
look_at-requires c =
    let l = c.loop-nearer in
    let held = c.held_before-before.ensures in
    record { next = back_further l.invariant refl (omega arith) (omega (arith, held)) (omega (arith, held)) }

-- the day is looked at
looked : (c : After-look_at) → let a = c.args in
    let case = a.case.now in
    Back (relevant_to (group_of case.moves.now) a.group case.request) case.request (rooms_of case.request case.rooms.now case.readings.now) a.most a.spares
    c.held_before-before.result (c.loop-nearer.nearer + 1) c.look_at.new.found
looked c =
    let l = c.loop-nearer in
    let held = c.held_before-before.ensures in
    let event = c.args.case.now.request.event in
    let here : event - (event - (l.nearer + 1)) ≡ l.nearer + 1 = omega (arith, held, c.loop-nearer-test.true) in
    back_more l.invariant refl (omega arith) (omega (arith, held)) c.if-found-most.false (rw here c.look_at.ensures)

pub loop-nearer-preserved : goal.loop-nearer-preserved
loop-nearer-preserved c = looked (goal.at.loop-nearer-preserved c).After-look_at

pub returns : goal.returns
returns c =
    let held = c.held_before-before.ensures ∙ before_is c.args.case.now.request c.args.case.now.rooms.now in
    rw held at (back_end c.loop-nearer.invariant (omega arith))
