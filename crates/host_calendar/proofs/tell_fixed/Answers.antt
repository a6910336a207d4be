-- `host_calendar::tell_fixed` meets its contract: of a holiday, its date.
use Prim.Native.Nat.{◌<◌, ◌^◌}
use mathlib.Core.Path.{sym, ap, ◌∙◌}
use native.Mathlib.Omega.{arith}
use mir.Syntax.{w64}
use mir.ValLaws.{to_z_pos}
use Rattle.std.specs.Prelude.{Some}
use Rattle.host_answer.specs.Names.{told}
use Rattle.host_calendar.proofs.Ways.{fixed_there}
use Rattle.host_calendar.proofs.tell_fixed.Goals as goal

pub returns-then-is_fixed_holiday : goal.returns-then-is_fixed_holiday
returns-then-is_fixed_holiday c =
    let small : c.month_digits.result < 2 ^ 63 = omega arith in
    ap Some (to_z_pos w64 c.month_digits.result small)
    ∙ fixed_there c.args.day (sym c.of_day.ensures ∙ c.in_ok-date.was) (sym c.is_fixed_holiday.ensures ∙ c.if-is_fixed_holiday.true) (ap told c.month_digits.ensures)
