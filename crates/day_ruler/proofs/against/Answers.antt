-- `day_ruler::against` meets its contract.
use Rattle.day_ruler.proofs.Stands.{stands_before, stands_from}
use Rattle.day_ruler.proofs.against.Goals as goal

pub returns-then-quarter-today : goal.returns-then-quarter-today
returns-then-quarter-today c = stands_before c.args.event c.args.quarter c.start-today.ensures c.if-quarter-today.true

pub returns-else-quarter-today : goal.returns-else-quarter-today
returns-else-quarter-today c = stands_from c.args.event c.args.quarter c.start-today.ensures c.if-quarter-today.false
