-- `day_ruler::start` meets its contract.
use mathlib.Core.Path.{ap, ◌∙◌}
use Rattle.method.specs.Table.{size}
use Rattle.method.proofs.Ruler.{start_size}
use Rattle.day_ruler.proofs.start.Goals as goal

pub returns : goal.returns
returns c = c.size.ensures ∙ ap size c.saturating_sub.ensures ∙ start_size c.args.event
