-- `table_days::LentTable::part_place` meets its contract: a part that is not empty is that of a day that is held, and stands at a small place.
use mathlib.Core.Path.{sym, ◌∙◌}
use native.Mathlib.Omega.{arith}
use borrow.Author.Tests.{eqb-false}
use Rattle.table_days.specs.Lent.{lent}
use Rattle.table_days.proofs.Extracts.{place_first, place_small}
use Rattle.table_days.proofs.LentTable.part_place.Goals as goal

pub overflow_sub-day : goal.overflow_sub-day
overflow_sub-day c =
    place_first (lent c.args.self.now) c.args.day c.day_part-part.ensures.list (eqb-false _ 0 (sym c.is_empty.ensures ∙ c.if-is_empty.false))

pub overflow_cast-result : goal.overflow_cast-result
overflow_cast-result c =
    omega (
      arith,
      c.offset.ensures,
      place_small (lent c.args.self.now) c.args.day c.day_part-part.ensures.list (eqb-false _ 0 (sym c.is_empty.ensures ∙ c.if-is_empty.false)),
    )
