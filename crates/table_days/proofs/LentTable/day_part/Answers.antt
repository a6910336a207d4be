-- `table_days::LentTable::day_part` meets its contract: a part of the lent readings, at its place.
use mathlib.Core.Path.{refl, sym, ◌∙◌}
use native.Mathlib.Omega.{arith}
use Rattle.table_days.specs.Lent.{lent}
use Rattle.table_days.proofs.Extracts.{part_held, part_none}
use Rattle.table_days.proofs.LentTable.day_part.Goals as goal

pub returns-then-has : goal.returns-then-has
returns-then-has c =
    part_held (lent c.args.self.now) c.args.day c.args.self.now.readings.ref_ptr _ _ refl c.offset-at.result c.offset-at.ensures
    (sym c.has.ensures.is ∙ c.if-has.true) (rw c.size.ensures) (omega arith)

pub returns-else-has : goal.returns-else-has
returns-else-has c =
    part_none (lent c.args.self.now) c.args.day c.args.self.now.readings.ref_ptr _ _ refl (sym c.has.ensures.is ∙ c.if-has.false) refl (omega arith)
