-- `day_ruler::size` meets its contract.
use mathlib.Core.Path.{sym}
use Rattle.method.proofs.Tables.{size_is}
use Rattle.day_ruler.proofs.size.Goals as goal

pub returns : goal.returns
returns c = sym (size_is c.args.day)
