-- `table_days::LentTable::has` meets its contract, and a day that it has has its readings.
use mathlib.Core.Path.{refl, sym, ◌∙◌}
use Rattle.table_days.specs.Lent.{lent}
use Rattle.table_days.proofs.Extracts.{has_day_lem, has_inside}
use Rattle.table_days.proofs.LentTable.has.Goals as goal

pub returns-then-is_extract-clause-is : goal.returns-then-is_extract-clause-is
returns-then-is_extract-clause-is c =
    c.is_held.ensures ∙
    has_day_lem (lent c.args.self.now) c.args.day (sym (c.is_extract.ensures.extract c.args.self.now.readings.now refl) ∙ c.if-is_extract.true)

pub returns-then-is_extract-clause-inside : goal.returns-then-is_extract-clause-inside
returns-then-is_extract-clause-inside c = λ e.
    let its = has_inside (lent c.args.self.now) c.args.day (sym (returns-then-is_extract-clause-is c) ∙ e) in
    (its.0, its.2)
