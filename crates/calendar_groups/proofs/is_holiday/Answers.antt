-- `calendar_groups::is_holiday` meets its contract: by the second days of the list, and the two rules.
use mathlib.Core.Path.{◌≡◌, sym, ◌∙◌}
use mathlib.Core.Bool.{◌||◌}
use Rattle.std.proofs.Common.{rules}
use Rattle.base_lists.specs.Lists.{member}
use Rattle.calendar_holidays.specs.Yearly.{is_easter_holiday}
use Rattle.calendar_groups.specs.Holidays.{second_days}
use Rattle.calendar_groups.proofs.Moves.{by_either, by_date, by_none}
use Rattle.calendar_groups.proofs.is_holiday.Goals.{then-is_replacing, else-is_replacing}
use Rattle.calendar_groups.proofs.is_holiday.Goals as goal

pub returns-then-is_easter_holiday : goal.returns-then-is_easter_holiday
returns-then-is_easter_holiday c =
    let told : c.if-is_replacing.value ≡ (member c.args.day (second_days c.args.moves.now) || is_easter_holiday c.args.day) =
    elim c.if-is_replacing.branch [ then-is_replacing w ↦ search rules | else-is_replacing w ↦ search rules ] in
    by_either c.args.moves.now c.args.day told c.if-is_easter_holiday.true

pub returns-then-is_fixed_holiday : goal.returns-then-is_fixed_holiday
returns-then-is_fixed_holiday c =
    let told : c.if-is_replacing.value ≡ (member c.args.day (second_days c.args.moves.now) || is_easter_holiday c.args.day) =
    elim c.if-is_replacing.branch [ then-is_replacing w ↦ search rules | else-is_replacing w ↦ search rules ] in
    by_date c.args.moves.now c.args.day told c.if-is_easter_holiday.false (sym c.is_fixed_holiday.ensures ∙ c.if-is_fixed_holiday.true) c.is_moved.ensures

pub returns-else-is_fixed_holiday : goal.returns-else-is_fixed_holiday
returns-else-is_fixed_holiday c =
    let told : c.if-is_replacing.value ≡ (member c.args.day (second_days c.args.moves.now) || is_easter_holiday c.args.day) =
    elim c.if-is_replacing.branch [ then-is_replacing w ↦ search rules | else-is_replacing w ↦ search rules ] in
    c.if-is_fixed_holiday.false ∙ by_none c.args.moves.now c.args.day told c.if-is_easter_holiday.false (sym c.is_fixed_holiday.ensures ∙ c.if-is_fixed_holiday.false)
