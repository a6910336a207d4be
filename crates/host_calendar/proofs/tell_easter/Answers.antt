-- `host_calendar::tell_easter` meets its contract: of a holiday, a difference.
use mathlib.Core.Path.{sym, ap, ◌∙◌}
use native.Mathlib.Omega.{arith}
use Rattle.calendar_dates.specs.declared.Place.{Place}
use Rattle.calendar_dates.specs.Steps.{place_of}
use Rattle.calendar_holidays.specs.Yearly.{easter}
use Rattle.engine_numerators.proofs.Signed.{difference_back}
use Rattle.host_calendar.proofs.Ways.{easter_there}
use Rattle.host_calendar.proofs.tell_easter.Goals as goal

pub returns-then-is_easter_holiday : goal.returns-then-is_easter_holiday
unfolding place_of
returns-then-is_easter_holiday c =
    let d = c.args.day in
    easter_there d (sym c.is_easter_holiday.ensures ∙ c.if-is_easter_holiday.true)
    (c.easter.ensures ∙ ap (λ (p : Place). easter p.year) c.place_of-place.ensures)
    (difference_back d c.easter.result (omega (arith, c.ranges)) (omega arith))
