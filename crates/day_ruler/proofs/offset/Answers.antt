-- `day_ruler::offset` meets its contract.
use Rattle.method.proofs.Tables.{offset_even}
use Rattle.day_ruler.proofs.offset.Goals as goal

pub returns : goal.returns
returns c = let a = c.args in rw c.size.ensures (offset_even a.first a.days)
