-- The three demands of the order (document 00), sentence by sentence, about what a call gives back: its result `a`, and its output, `out` before
-- the call and `after` it. The functions of `src/lib.rt` have them as their contracts, on every input: "Callers promise nothing beforehand."
use Rattle.std.specs.Prelude.{ℕ, ◌-◌, ◌*◌, ◌≤◌, ◌<◌, ◌≡◌, ◌↔◌, true, false, List, [], ◌∷◌, length, take, drop, pos, leb, Result, Ok, Err, IsOk}
use Rattle.base_lists.specs.Lists.{all, any, member}
use Rattle.calendar_groups.specs.Holidays.{group}
use Rattle.method.specs.declared.Request.{Request}
use Rattle.method.specs.declared.Refusal.{Refusal}
use Rattle.method.specs.declared.Refusal.TheVariants.{MarginTooShort}
use Rattle.method.specs.Table.{Table, day_of, held, history}
use Rattle.method.specs.Method.{days_of, whole_reach}
use Rattle.method.specs.Adjustment.{adjustment, is_average}
use Rattle.method.specs.Ruler.{ruler_start}
use Rattle.method.specs.Requested.{method_of}
use Rattle.method.specs.Verdict.{answered, refused, first_of, by_list, verdict}
use Rattle.method.specs.CutTables.{LongerFormed, held_before, cut_to, Undecided, Parted}
use Rattle.engine_answer.specs.Answer.{in_five}
use Rattle.engine_answer.specs.declared.Answer.{Answer}
use Rattle.demands.specs.Calls.{Call, moves, extract, request, per_quarter, stand, room, Gets, result, reported}
use Rattle.demands.specs.Rows.{file_rows, table_rows, earlier, rows, applies, FirstIn, answer_over, numerators_of, chosen_of, count_of, reach_of, a_of, b_of, n_of}

-- a number is one of these
abbrev pub OneOf : ℕ → List ℕ → Type 0
OneOf n list = member n list ≡ true

-- the places of the output that the event's quarters take
abbrev pub quarters : Call → ℕ
quarters c = per_quarter c * ((request c).e - (request c).s)

-- the result is an answer, "too few days" or "no adjustment window"
abbrev pub Settled : Result Answer Refusal → Type 0
Settled a = OneOf (result a) (0 ∷ 9 ∷ 10 ∷ [])

module _ (c : Call) (a : Result Answer Refusal) (out after : List ℕ) where
  pub record Demand1 : Type 0 where
    -- "For every table, file and request the call ends in an answer or in one refusal from the list in document 01, in its order.": the first of
    -- the rows of which the test holds; where none does, the answer
    pub one : Gets c (first_of (rows c (length out)) (answered (answer_over (moves c) (extract c) (request c)))) a out after
    -- "When, and only when"
    pub refused_when : (w : Refusal) → (a ≡ Err w) ↔ FirstIn (rows c (length out)) w
    pub answered_when : IsOk a ↔ (any applies (rows c (length out)) ≡ false)
    -- "A refusal changes no buffer": every other buffer is lent to be read only
    pub kept : (w : Refusal) → a ≡ Err w → after ≡ out
    -- "an answer writes only the quarters of the event"
    pub long : length after ≡ length out
    pub rest : IsOk a → drop (quarters c) after ≡ drop (quarters c) out

-- of an answer `a`
module _ (c : Call) (a : Answer) (out after : List ℕ) where
  -- of High X of Y: N days, numerators over 12N, and the adjustment
  pub record Adjusted : Type 0 where
    pub count : a.chosen.count ≡ n_of (moves c) (request c)
    pub denominator : a.denominator ≡ 12 * n_of (moves c) (request c)
    pub adjusted : a.adjustment ≡ adjustment (n_of (moves c) (request c)) (a_of (moves c) (extract c) (request c)) (b_of (moves c) (extract c) (request c))
    -- "over 60 or 24"
    pub over : OneOf a.denominator (60 ∷ 24 ∷ [])

  -- of Average X of Y, 02, order 3: "Numerators are over the number averaged", "without adjustment"
  pub record Averaged : Type 0 where
    pub denominator : a.denominator ≡ a.chosen.count
    pub adjusted : a.adjustment ≡ pos 0
    pub over : OneOf a.denominator (2 ∷ 1 ∷ [])

  -- "The window, the ranked days, the adjustment and the baseline are those of the operator's methodology, version 1.0, as document 01 fixes
  -- it, exact to the last fraction of a kilowatt."; order 3: "Demands 2 and 3 hold for each method"
  pub record Demand2 : Type 0 where
    pub days : a.chosen.days ≡ in_five (days_of (chosen_of (moves c) (extract c) (request c)))
    pub count : a.chosen.count ≡ count_of (moves c) (extract c) (request c)
    pub reach : a.chosen.reach ≡ reach_of (moves c) (extract c) (request c)
    pub numerators : take (quarters c) after ≡ stand c (numerators_of (moves c) (extract c) (request c))
    -- "The answer holds the numerators, never above 1,200,000,000"
    pub never_above : all (λ x. leb x 1200000000) (numerators_of (moves c) (extract c) (request c)) ≡ true
    pub high : is_average (request c) ≡ false → Adjusted
    pub average : is_average (request c) ≡ true → Averaged

module _ (c : Call) (a : Result Answer Refusal) (out after : List ℕ) where
  pub record Demand3 : Type 0 where
    -- "Where an event over a well-formed extract gets an answer, 'too few days' or 'no adjustment window', every longer well-formed history
    -- that agrees with the extract, for the same portfolio and request, gets the same by the methodology, all numbers included.": 02, order 2, reads
    -- this "for the same list", and demand 2 too
    pub stable : Settled a → (l : Table) → LongerFormed l (extract c) → Gets c (by_list (moves c) (history l) (request c) (room c out)) a out after
    -- "'Margin too short' is given, once no earlier refusal applies, exactly when two longer well-formed histories agree with the extract and
    -- have different baseline windows for that request.": and two strictly longer ones, with a day in one window alone, are shown
    pub exactly : any applies (earlier c (length out)) ≡ false → (result a ≡ 8) ↔ Undecided (group (moves c)) (extract c) (request c)
    pub shown : result a ≡ 8 → Parted (group (moves c)) (extract c) (request c)
    -- "The reported reach is the fewest days before the event that give this result.": so many are held; the extract cut to so many gets the same
    -- result, and cut to fewer it gets "margin too short"
    pub reach_held : Settled a → reported a ≤ held_before (extract c) (request c)
    pub reach_same : Settled a → Gets c (verdict (moves c) (cut_to (extract c) (request c) (reported a)) (request c) (room c out)) a out after
    pub reach_fewest : Settled a → (k : ℕ) → k < reported a
        → verdict (moves c) (cut_to (extract c) (request c) k) (request c) (room c out) ≡ refused (MarginTooShort (whole_reach (method_of (group (moves c)) (request c))))

-- `u` is `t` but for day D's mark, its readings from s on, and all later days; it may end on another day
pub record SameBefore (t u : Table) (r : Request) : Type 0 where
  pub first : u.first ≡ t.first
  pub event : held (history u) r.event ≡ held (history t) r.event
  pub days : (d : ℕ) → d < r.event → held (history t) d ≡ true → day_of u d ≡ day_of t d
  pub readings : take (r.s - ruler_start r.event) (day_of u r.event).readings ≡ take (r.s - ruler_start r.event) (day_of t r.event).readings

-- "Day D's marks, its readings from s on, and all later days play no part beyond refusals 1 to 3.": where none of 11, 12 and 1 to 3 applies to the
-- call, and none of 1 to 3 to `u`, `u` gets what the call gives
abbrev pub NoPart : Call → Result Answer Refusal → List ℕ → List ℕ → Type 0
NoPart c a out after =
    any applies (file_rows c) ≡ false → any applies (table_rows (extract c)) ≡ false
    → (u : Table) → SameBefore (extract c) u (request c) → any applies (table_rows u) ≡ false
    → Gets c (verdict (moves c) u (request c) (room c out)) a out after

pub record Demands (c : Call) (a : Result Answer Refusal) (out after : List ℕ) : Type 0 where
  pub first : Demand1 c a out after
  pub second : (x : Answer) → a ≡ Ok x → Demand2 c x out after
  pub third : Demand3 c a out after
  pub no_part : NoPart c a out after
