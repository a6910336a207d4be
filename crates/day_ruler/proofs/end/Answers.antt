-- `day_ruler::end` meets its contract.
use Prim.Native.Nat.{◌-◌}
use native.Mathlib.Omega.{arith}
use Rattle.day_ruler.proofs.Stands.{ends}
use Rattle.method.proofs.Tables.{size_most}
use Rattle.method.proofs.Ruler.{start_size}
use Rattle.day_ruler.proofs.end.Goals as goal

pub overflow_add-result : goal.overflow_add-result
overflow_add-result c =
    let event = c.args.event in
    omega (arith, c.start.ensures, start_size event, size_most (event - 1), c.size.ensures, size_most event)

pub returns : goal.returns
returns c = ends c.args.event c.start.ensures c.size.ensures
