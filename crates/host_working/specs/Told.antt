-- What a caller written in C is told of the working of an event by include/honeyplank.h.
use Rattle.std.specs.Prelude.{ℕ, ◌-◌, Bool, not, cond, ◌&&◌, List, [], ◌∷◌, ◌++◌, length, ℤ, pos, leb, ltb, Option, Some, None}
use Rattle.std.proofs.Math.Option.{Option as Maybe, none, some}
use Rattle.calendar_groups.specs.declared.Group.{Group}
use Rattle.method.specs.declared.Request.{Request}
use Rattle.method.specs.Table.{Day, History}
use Rattle.method.specs.Ruler.{ruler_end}
use Rattle.method.specs.Relevant.{group_number}
use Rattle.method.specs.Method.{window, is_short, chosen}
use Rattle.method.specs.Adjustment.{S, A, B}
use Rattle.method.specs.Requested.{method_of}
use Rattle.method_working.specs.declared.Reason.{Reason}
use Rattle.method_working.specs.declared.Reason.TheVariants.{TooEarly, AnotherGroup, DayBefore, NotHeld, ReadingMissing, Outage, EventRecorded, Eligible}
use Rattle.method_working.specs.Working.{reason, summed, rank, is_chosen, chooses, along, ends, adjusts, answers}
use Rattle.method_working.specs.Sheet.{sheet_of, numerator_shown}
use Rattle.host_answer.specs.Names.{told, told_if, row_from}

-- HP_TOO_EARLY to HP_ELIGIBLE
abbrev pub reason_number : Reason → ℕ
reason_number TooEarly = 1
reason_number AnotherGroup = 2
reason_number DayBefore = 3
reason_number NotHeld = 4
reason_number ReadingMissing = 5
reason_number Outage = 6
reason_number EventRecorded = 7
reason_number Eligible = 8

abbrev pub told_of : Maybe ℕ → Option ℤ
told_of none = None
told_of (some x) = told x

abbrev pub as_number : Bool → ℤ
as_number test = cond test (pos 1) (pos 0)

module _ (group : ℕ → Group) (r : Request) (h : History Day) where
  -- of the window, from HP_WORKING_GROUP on, which is 25: D's group and Y; its size and the ranks passed over and taken, where 8 is not given
  unfoldable pub window_numbers : List (Option ℤ)
  window_numbers =
      let m = method_of group r in
      let size = length (window m h) in
      let shown = not (is_short m h) in
      told (group_number (group r.event)) ∷ told m.most ∷
      told_if shown (told size) ∷ told_if shown (told (m.passed size)) ∷ told_if shown (told (m.taken size)) ∷ []

  -- of the adjustment window, from HP_WORKING_END on, which is 30, where there is an adjustment: where it ends, A and B
  unfoldable pub adjustment_numbers : List (Option ℤ)
  adjustment_numbers =
      let shown = told_if (adjusts group r h) in
      shown (told (ends r h)) ∷ shown (told (A (along r h) (ends r h))) ∷
      shown (told (B r.event (chosen (method_of group r) h) (ends r h))) ∷ []

  -- of the day `back` days before the event, from HP_BACK_DAY on, which is 33: its number and its group, where it is not below 0; why it is used or is not;
  -- its sum over the event, where there is one; its rank in the window and whether it is chosen, where 8 is not given. Nothing outside the look-back
  unfoldable pub day_numbers : ℕ → List (Option ℤ)
  day_numbers back =
      let looked = leb 1 back && leb back 45 in
      let known = looked && leb back r.event in
      let shown = looked && not (is_short (method_of group r) h) in
      told_if known (told (r.event - back)) ∷ told_if known (told (group_number (group (r.event - back)))) ∷
      told_if looked (told (reason_number (reason group r h back))) ∷ told_if looked (told_of (summed r h back)) ∷
      told_if shown (told (rank group r h back)) ∷ told_if shown (Some (as_number (is_chosen group r h back))) ∷ []

  -- of the ruler quarter `t`, from HP_QUARTER_S on, which is 39: S(t), where days are chosen, and the numerator before the floor, of an event's quarter
  -- where it has a baseline
  unfoldable pub quarter_numbers : ℕ → List (Option ℤ)
  quarter_numbers t =
      told_if (chooses group r h && ltb t (ruler_end r.event)) (told (S r.event (chosen (method_of group r) h) t)) ∷
      told_if (answers group r h && leb r.s t && ltb t r.e) (Some (numerator_shown r (sheet_of group r h) t)) ∷ []

  -- `at` is how many days before the event a day lies, or a ruler quarter, by what is asked
  unfoldable pub working_row : ℕ → List (Option ℤ)
  working_row at = row_from 25 (window_numbers ++ adjustment_numbers ++ day_numbers at ++ quarter_numbers at)
