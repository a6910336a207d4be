-- `calendar_holidays::easter_from_march` meets its contract: of a date in April, and of one in May, by the laws of EasterTable.
use mathlib.Core.Path.{◌∙◌}
use native.Mathlib.Omega.{arith}
use Rattle.calendar_holidays.proofs.EasterTable.{in_april, in_may}
use Rattle.calendar_holidays.proofs.easter_from_march.Goals as goal

pub overflow_sub-result : goal.overflow_sub-result
overflow_sub-result c = omega (arith, in_april _ _ c.requires (c.from-sunday.ensures ∙ c.easter_sunday.ensures) c.if-sunday-lt500.true)

pub overflow_sub-result-else-sunday-lt500 : goal.overflow_sub-result-else-sunday-lt500
overflow_sub-result-else-sunday-lt500 c = omega (arith, in_may _ _ c.requires (c.from-sunday.ensures ∙ c.easter_sunday.ensures) c.if-sunday-lt500.false)

pub returns-then-sunday-lt500 : goal.returns-then-sunday-lt500
returns-then-sunday-lt500 c = omega (arith, in_april _ _ c.requires (c.from-sunday.ensures ∙ c.easter_sunday.ensures) c.if-sunday-lt500.true)

pub returns-else-sunday-lt500 : goal.returns-else-sunday-lt500
returns-else-sunday-lt500 c = omega (arith, in_may _ _ c.requires (c.from-sunday.ensures ∙ c.easter_sunday.ensures) c.if-sunday-lt500.false)
