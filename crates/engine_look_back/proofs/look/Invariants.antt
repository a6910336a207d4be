-- `engine_look_back::look` meets its contract. The invariant: what was found is what the days nearer than `back` hold.
use Prim.Native.Nat.{◌-◌}
use Rattle.calendar_groups.specs.Holidays.{group as group_of}
use Rattle.engine_relevant.specs.Steps.{relevant_to}
use Rattle.engine_look_back.specs.Steps.{rooms_of}
use Rattle.engine_look_back.proofs.Looking.{Back}
use Rattle.engine_look_back.proofs.look.Given as goal

abbrev pub invariant-loop-nearer : goal.invariant-loop-nearer
invariant-loop-nearer l =
    let case = l.case in
    Back (relevant_to (group_of case.moves.now) l.group case.request) case.request (rooms_of case.request case.rooms.now case.readings.now) l.most l.spares l.before l.nearer
    l.found
