-- What the functions over one day of the look-back ensure.
use Rattle.std.specs.Prelude.{ℕ, ◌-◌, not, cond, Option, Some, None}
use Rattle.std.proofs.Math.Option as maybe
use Rattle.base_lists.specs.Lists.{all}
use Rattle.method.specs.declared.Request.{Request}
use Rattle.method.specs.Table.{Day, History, held, present}
use Rattle.method.specs.Eligible.{event_sum}
use Rattle.method_working.specs.declared.Reason.{Reason}
use Rattle.method_working.specs.declared.Reason.TheVariants.{NotHeld}
use Rattle.method_working.specs.Working.{reason_of, event_quarters}

-- why the day `back` days before the event, which is relevant, is used or is not
abbrev pub held_reason : Request → History Day → ℕ → Reason
held_reason r h back = cond (not (held h (r.event - back))) NotHeld (reason_of (h.day (r.event - back)))

-- the sum of a day that is held over the event's own quarters, or none
abbrev pub held_sum : Request → Day → maybe.Option ℕ
held_sum r d = cond (all present (event_quarters r d)) (maybe.some (event_sum r d)) maybe.none

-- a sum, or none, as a value of code
unfoldable pub sum_found : maybe.Option ℕ → Option ℕ
sum_found maybe.none = None
sum_found (maybe.some x) = Some x
