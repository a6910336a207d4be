-- The working of an event: of each day of the look-back why it is used or is not, its sum and its rank; and the adjustment window. What is shown is
-- over any history, by the groups of any list of moves.
use Rattle.std.specs.Prelude.{ℕ, ◌+◌, ◌-◌, Bool, not, cond, ◌&&◌, ◌||◌, List, length, take, drop, leb, ltb, eqb}
use Rattle.std.proofs.Math.Option.{Option, none, some}
use Rattle.base_lists.specs.Lists.{all, leading, member}
use Rattle.calendar_groups.specs.declared.Group.{Group}
use Rattle.calendar_groups.specs.declared.Group.TheVariants.{Weekday}
use Rattle.method.specs.declared.Request.{Request}
use Rattle.method.specs.Table.{Day, History, held, present, event_bit, outage_bit}
use Rattle.method.specs.Ruler.{against}
use Rattle.method.specs.Relevant.{same_group}
use Rattle.method.specs.Eligible.{complete, event_sum}
use Rattle.method.specs.Method.{days_of, window, is_short, chosen}
use Rattle.method.specs.Adjustment.{ruler, is_average, adjustment_end}
use Rattle.method.specs.Requested.{method_of}
use Rattle.method_working.specs.declared.Reason.{Reason}
use Rattle.method_working.specs.declared.Reason.TheVariants.{TooEarly, AnotherGroup, DayBefore, NotHeld, ReadingMissing, Outage, EventRecorded, Eligible}

-- 01, "Choosing the days", of a relevant day that is held: "It is complete if none of its 96 readings is missing"; "both bits are clear"
unfoldable pub reason_of : Day → Reason
reason_of d = cond (not (complete d)) ReadingMissing (cond (outage_bit d.mark) Outage (cond (event_bit d.mark) EventRecorded Eligible))

-- of the day `back` days before the event: "A day is relevant if it lies there, is not below 0 or P, is of D's group and, when D is a weekday, is not D-1."
unfoldable pub reason : (ℕ → Group) → Request → History Day → ℕ → Reason
reason group r h back =
    let d = r.event - back in
    cond (ltb r.event back || ltb d r.participation) TooEarly
    (cond (not (same_group (group d) (group r.event))) AnotherGroup
    (cond (same_group (group r.event) Weekday && eqb (d + 1) r.event) DayBefore (cond (not (held h d)) NotHeld (reason_of (h.day d)))))

-- "the event's own quarters" of a day, of which `event_sum` is the sum
abbrev pub event_quarters : Request → Day → List ℕ
event_quarters r d = take (r.e - r.s) (drop (against r.event r.s) d.readings)

-- "the sum of the day's readings over the event's own quarters", of the day `back` days before the event; none where it is not held, or where a
-- reading is missing there
unfoldable pub summed : Request → History Day → ℕ → Option ℕ
summed r h back =
    let d = r.event - back in
    cond (leb back r.event && held h d && all present (event_quarters r (h.day d))) (some (event_sum r (h.day d))) none

-- the rank of a day among days by rank, counted from 1; 0 where it is none of them
unfoldable pub rank_in : List ℕ → ℕ → ℕ
rank_in days d = cond (member d days) (leading (λ x. not (eqb x d)) days + 1) 0

-- the readings along the ruler, and where the adjustment window ends on it; 0 where there is none
abbrev pub along : Request → History Day → List ℕ
along r h = ruler (h.day (r.event - 1)) (h.day r.event)

unfoldable pub ends : Request → History Day → ℕ
ends r h = adjustment_end r (along r h)

module _ (group : ℕ → Group) (r : Request) (h : History Day) where
  -- "The window is then ranked by that order"
  unfoldable pub by_rank : List ℕ
  by_rank = days_of ((method_of group r).rank (window (method_of group r) h))

  -- the rank of the day `back` days before the event; 0 where it is not in the window
  unfoldable pub rank : ℕ → ℕ
  rank back = cond (leb back r.event) (rank_in by_rank (r.event - back)) 0

  -- "the first N are chosen": the day `back` days before the event is
  unfoldable pub is_chosen : ℕ → Bool
  is_chosen back = leb back r.event && member (r.event - back) (days_of (chosen (method_of group r) h))

  -- neither 8 nor 9 is given: days are chosen
  unfoldable pub chooses : Bool
  chooses = not (is_short (method_of group r) h) && not (eqb ((method_of group r).taken (length (window (method_of group r) h))) 0)

  -- an adjustment is made: not of Average X of Y, and not where 10 is given
  unfoldable pub adjusts : Bool
  adjusts = chooses && not (is_average r) && not (eqb (ends r h) 0)

  -- the event has a baseline
  unfoldable pub answers : Bool
  answers = chooses && (is_average r || not (eqb (ends r h) 0))
