-- `calendar_holidays::easter` meets its contract: 1 March is a date where the definition is not 0, and Easter so many days after it.
use mathlib.Core.Path.{sym, ◌∙◌}
use native.Mathlib.Omega.{arith}
use borrow.Author.Rules.{rules}
use Rattle.calendar_dates.proofs.Dates.{date_is, numbered_is}
use Rattle.calendar_holidays.proofs.EasterSum.{from_march, no_march}
use Rattle.calendar_holidays.proofs.easter.Goals as goal

pub easter_from_march-requires : goal.easter_from_march-requires
easter_from_march-requires c =
    let march = date_is c.args.year 3 1 (numbered_is _ _ (sym c.day_number.ensures ∙ c.in-Some.is)).0 in
    search rules

pub overflow_add-result : goal.overflow_add-result
overflow_add-result c =
    omega (arith, from_march c.args.year c.in-Some.day (sym c.day_number.ensures ∙ c.in-Some.is))

pub returns-in-Some : goal.returns-in-Some
returns-in-Some c =
    omega (arith, from_march c.args.year c.in-Some.day (sym c.day_number.ensures ∙ c.in-Some.is))

pub returns-in-None : goal.returns-in-None
returns-in-None c =
    sym (no_march c.args.year (sym c.day_number.ensures ∙ c.in-None.is))
