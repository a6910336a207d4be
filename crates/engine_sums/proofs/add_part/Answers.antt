use Rattle.std.proofs.Common.{◌+◌, ◌%◌, ◌^◌, get_or, ap, arith}
use Rattle.base_lists.proofs.Places.{storing_begin, storing_here, storing_next}
use Rattle.engine_sums.proofs.add_part.Goals as goal

pub loop-q-init : goal.loop-q-init
loop-q-init c = storing_begin _ _

pub loop-q-preserved : goal.loop-q-preserved
loop-q-preserved c =
    let l = c.loop-q in
    storing_next l.invariant (omega arith) (ap (λ x. (x + get_or c.args.part.now l.q 0) % 2 ^ 32) (storing_here l.invariant))
