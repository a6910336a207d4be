-- 01's table of refusals, row by row, with what orders 2 and 3 of 02 put into it, and what is answered where none applies.
use Rattle.std.specs.Prelude.{ℕ, ◌+◌, ◌-◌, ◌*◌, ◌/◌, ◌%◌, ◌≡◌, Bool, true, false, not, cond, ◌&&◌, ◌||◌, List, [], ◌∷◌, ◌++◌, map, length, get_or, take, ℤ, pos, leb, ltb, eqb}
use Rattle.base_lists.specs.Lists.{any, leading, least_of, places}
use Rattle.calendar_dates.specs.Days.{last_day}
use Rattle.calendar_holidays.specs.Yearly.{is_fixed_holiday}
use Rattle.calendar_groups.specs.Holidays.{first_days, repeated, group}
use Rattle.calendar_groups.specs.declared.Group.{Group}
use Rattle.calendar_groups.specs.declared.Group.TheVariants.{Weekday, Saturday, HolidayGroup}
use Rattle.method.specs.declared.Request.{Request}
use Rattle.method.specs.declared.Refusal.{Refusal}
use Rattle.method.specs.declared.Refusal.TheVariants.{BadFile, NoEvent, BadTable, BadMark, BadReading, BadRequest, NotHeld}
use Rattle.method.specs.declared.Refusal.TheVariants.{NotYetParticipating, NoRoom, MarginTooShort, TooFew, NoAdjustmentWindow, BadMoves}
use Rattle.method.specs.Table.{Table, Day, held_days, offset, day_of, held, history, good_mark, good_reading, missing}
use Rattle.method.specs.Ruler.{ruler_start, ruler_end}
use Rattle.method.specs.Relevant.{relevant_days}
use Rattle.method.specs.Method.{eligibles, window, chosen, reach, days_of}
use Rattle.method.specs.Adjustment.{ruler, adjustment_end, S, A, B, adjustment, is_average, parts_of}
use Rattle.method.specs.HighXofY.{Y, N}
use Rattle.method.specs.AverageXofY.{average_y}
use Rattle.method.specs.Requested.{method_of}
use Rattle.method.specs.Verdict.{Answer}
use Rattle.file_record.specs.Reader.{is_pf, good_end, events_in}
use Rattle.demands.specs.Calls.{Call, over_table, of_file, moves, extract, request, per_quarter}

-- Y of a request by its method, and N, by a list of moves
abbrev pub y_of : List ℕ → Request → ℕ
y_of moves r = cond (is_average r) (average_y (group moves r.event)) (Y (group moves r.event))

abbrev pub n_of : List ℕ → Request → ℕ
n_of moves r = N (group moves r.event)

-- order 3: "001's rules leave no day to average" of a window of so many days, where `since` is D-P: one weekday or none, or two or three before D-P is 7; no
-- other day, or one before it is
abbrev pub none_left : Group → ℕ → ℕ → Bool
none_left Weekday since size = ltb size 2 || (ltb size 4 && ltb since 7)
none_left Saturday since size = ltb size 1 || (ltb size 2 && ltb since 7)
none_left HolidayGroup since size = ltb size 1 || (ltb size 2 && ltb since 7)

-- the methodology of an extract and a request by a list of moves: window, chosen days, their number and reach; the ruler, where the adjustment window
-- ends, A and B
module _ (moves : List ℕ) (t : Table) (r : Request) where
  abbrev pub window_of : List (ℕ × Day)
  window_of = window (method_of (group moves) r) (history t)

  abbrev pub chosen_of : List (ℕ × Day)
  chosen_of = chosen (method_of (group moves) r) (history t)

  abbrev pub count_of : ℕ
  count_of = length chosen_of

  abbrev pub reach_of : ℕ
  reach_of = reach (method_of (group moves) r) (history t)

  abbrev pub ruler_of : List ℕ
  ruler_of = ruler (day_of t (r.event - 1)) (day_of t r.event)

  abbrev pub end_of : ℕ
  end_of = adjustment_end r ruler_of

  abbrev pub a_of : ℕ
  a_of = A ruler_of end_of

  abbrev pub b_of : ℕ
  b_of = B r.event chosen_of end_of

  -- "The adjustment is (N·A - B)/(12N)"; order 3: "without adjustment"
  abbrev pub adjusted_of : ℤ
  adjusted_of = cond (is_average r) (pos 0) (adjustment count_of a_of b_of)

  -- "The baseline at event quarter t is max(0, 12·S(t) + N·A - B)/(12N)", where `-` stops at 0; order 3: "average them per quarter", "over the number averaged"
  abbrev pub numerator_at : ℕ → ℕ
  numerator_at t = cond (is_average r) (S r.event chosen_of t) (12 * S r.event chosen_of t + count_of * a_of - b_of)

  unfoldable pub numerators_of : List ℕ
  numerators_of = map numerator_at (places (r.e - r.s) r.s)

  -- what is answered
  unfoldable pub answer_over : Answer
  answer_over =
      record {
        days = days_of chosen_of;
        reach = reach_of;
        denominator = parts_of r * count_of;
        adjusted = adjusted_of;
        numerators = numerators_of;
      }

-- "Refusal numbers, tested in this order": "When, and only when", and what it carries
unfoldable pub file_rows : Call → List (Bool × Refusal)
file_rows (over_table list t r) = []
file_rows (of_file file place) =
    -- 11: "file not as laid down (file callers only)", "byte offset of that record"
    (not (is_pf file && eqb (good_end file) (length file)), BadFile (cond (is_pf file) (good_end file) 0)) ∷
    -- 12: "no event at that place (host entry only)"
    (leb (events_in file) place, NoEvent) ∷ []

unfoldable pub table_rows : Table → List (Bool × Refusal)
table_rows t =
    -- 1: "h is 0 or above 128, readings not 96·h, or F+h-1 above 36,524"
    (
      eqb (held_days t) 0 || ltb 128 (held_days t) || not (eqb (length t.readings) (offset t.first (held_days t))) ||
          ltb last_day (t.first + held_days t - 1),
      BadTable,
    ) ∷
    -- 2: "a mark with another bit", "day place of the first"
    (any (λ m. leb 4 m) t.marks, BadMark (leading good_mark t.marks)) ∷
    -- 3: "a reading above 10,000,000 that is not the missing mark", "place of the first"
    (any (λ x. ltb 10000000 x && not (eqb x missing)) t.readings, BadReading (leading good_reading t.readings)) ∷ []

-- order 2: "after 3, before 4"
unfoldable pub list_rows : List ℕ → List (Bool × Refusal)
list_rows moves =
    -- 14: "a pair whose first day is no fixed-date holiday, a repeated first day, more than 16 pairs or a day past 36,524"; or half a pair
    (
      any (λ d. not (is_fixed_holiday d)) (first_days moves) || repeated (first_days moves) || ltb 16 (length moves / 2) || any (λ d. ltb last_day d) moves ||
          eqb (length moves % 2) 1,
      BadMoves,
    ) ∷ []

-- where `size` is the output's length, and `w` the places of it that a numerator takes
unfoldable pub request_rows : Table → Request → ℕ → ℕ → List (Bool × Refusal)
request_rows t r w size =
    -- 4: "P above 36,524; s outside 96..191; e outside s+1..192; n above s"; order 3: "an unknown method"
    (
      ltb last_day r.participation || (ltb r.s (ruler_start r.event) || leb (ruler_end r.event) r.s) ||
          (ltb r.e (r.s + 1) || ltb (ruler_end r.event) r.e) || ltb r.s r.n || ltb 1 r.method,
      BadRequest,
    ) ∷
    -- 5: "D not held"
    (not (held (history t) r.event), NotHeld) ∷
    -- 6: "P later than D"
    (ltb r.event r.participation, NotYetParticipating) ∷
    -- 7: "output shorter than e-s quarters"; of a file "below 4(e-s) bytes"
    (ltb size (w * (r.e - r.s)), NoRoom) ∷ []

unfoldable pub day_rows : List ℕ → Table → Request → List (Bool × Refusal)
day_rows moves t r =
    -- 8: "margin too short: eligible held days below Y and a relevant day before F", "D minus the oldest relevant day"
    (
      ltb (length (eligibles (method_of (group moves) r) (history t))) (y_of moves r) && any (λ d. ltb d t.first) (relevant_days (group moves) r),
      MarginTooShort (r.event - least_of r.event (relevant_days (group moves) r)),
    ) ∷
    -- 9: "too few: window below N", "its size, reach"; order 3: "when 001's rules leave no day to average"
    (
      cond (is_average r) (none_left (group moves r.event) (r.event - r.participation) (length (window_of moves t r)))
          (ltb (length (window_of moves t r)) (n_of moves r)),
      TooFew (length (window_of moves t r)) (reach_of moves t r),
    ) ∷
    -- 10: "no adjustment window", "reach"; order 3: "10 is not given here"
    (not (is_average r) && eqb (end_of moves t r) 0, NoAdjustmentWindow (reach_of moves t r)) ∷ []

-- 11, 12, 1 to 3, 14, 4 to 7: those earlier than 8; and all
unfoldable pub earlier : Call → ℕ → List (Bool × Refusal)
earlier c size = file_rows c ++ (table_rows (extract c) ++ (list_rows (moves c) ++ request_rows (extract c) (request c) (per_quarter c) size))

unfoldable pub rows : Call → ℕ → List (Bool × Refusal)
rows c size = earlier c size ++ day_rows (moves c) (extract c) (request c)

-- the test of a row
abbrev pub applies : Bool × Refusal → Bool
applies row = row.0

-- the refusal stands in a row of which the test holds, and no test before it does
pub record FirstIn (rows : List (Bool × Refusal)) (w : Refusal) : Type 0 where
  pub place : ℕ
  pub its : get_or rows place (false, w) ≡ (true, w)
  pub none_before : any applies (take place rows) ≡ false
