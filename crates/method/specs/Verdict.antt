-- 01, "Refusal numbers, tested in this order", and the refusals that document 02 adds.
use Rattle.std.specs.Prelude.{ℕ, ◌+◌, ◌-◌, Bool, cond, not, ◌&&◌, List, [], ◌∷◌, ◌++◌, map, length, drop, ℤ, leb, ltb}
use Rattle.std.proofs.Math.Option.{Option, none, some}
use Rattle.base_lists.specs.Lists.{all, leading}
use Rattle.calendar_dates.specs.Days.{last_day}
use Rattle.calendar_groups.specs.Holidays.{good_moves, group}
use Rattle.calendar_groups.specs.declared.Group.{Group}
use Rattle.method.specs.declared.Request.{Request}
use Rattle.method.specs.declared.Refusal.{Refusal}
use Rattle.method.specs.declared.Refusal.TheVariants.{BadFile, NoEvent, BadTable, BadMark, BadReading, BadRequest, NotHeld}
use Rattle.method.specs.declared.Refusal.TheVariants.{NotYetParticipating, NoRoom, MarginTooShort, TooFew, NoAdjustmentWindow, Unwritable, BadMoves}
use Rattle.method.specs.Table.{Table, Day, History, good_mark, good_reading, held, history, shaped, is_extract}
use Rattle.method.specs.Ruler.{ruler_start, ruler_end}
use Rattle.method.specs.Method.{Outcome, short, few, chose, outcome}
use Rattle.method.specs.Adjustment.{Baseline, floored}
use Rattle.method.specs.Requested.{method_of}

-- the paper's number of a refusal, and the numbers that it carries; document 02: "No refusal added here or later carries a number."
abbrev pub number : Refusal → ℕ
number (BadFile place) = 11
number NoEvent = 12
number BadTable = 1
number (BadMark place) = 2
number (BadReading place) = 3
number BadRequest = 4
number NotHeld = 5
number NotYetParticipating = 6
number NoRoom = 7
number (MarginTooShort days) = 8
number (TooFew size reach) = 9
number (NoAdjustmentWindow reach) = 10
number Unwritable = 13
number BadMoves = 14

abbrev pub carries : Refusal → List ℕ
carries (BadFile place) = place ∷ []
carries NoEvent = []
carries BadTable = []
carries (BadMark place) = place ∷ []
carries (BadReading place) = place ∷ []
carries BadRequest = []
carries NotHeld = []
carries NotYetParticipating = []
carries NoRoom = []
carries (MarginTooShort days) = days ∷ []
carries (TooFew size reach) = size ∷ reach ∷ []
carries (NoAdjustmentWindow reach) = reach ∷ []
carries Unwritable = []
carries BadMoves = []

-- an answer: the chosen days by rank, the reach, and the baseline's numerators over one denominator
pub record Answer : Type 0 where
  pub days : List ℕ
  pub reach : ℕ
  pub denominator : ℕ
  pub adjusted : ℤ
  pub numerators : List ℕ

pub data Reply : Type 0 where
  refused : Refusal → Reply
  answered : Answer → Reply

-- 1, 2 and 3: "Places count from 0 over the whole table."
unfoldable pub table_refusals : Table → List (Bool × Refusal)
table_refusals t =
    (not (is_extract t), BadTable) ∷
    (not (all good_mark t.marks), BadMark (leading good_mark t.marks)) ∷
    (not (all good_reading t.readings), BadReading (leading good_reading t.readings)) ∷ []

-- "P above 36,524; s outside 96..191; e outside s+1..192; n above s": none of these; 02, order 3: "an unknown method is 4"
unfoldable pub good_request : Request → Bool
good_request r =
    leb r.participation last_day && (leb (ruler_start r.event) r.s && ltb r.s (ruler_end r.event)) &&
    (leb (r.s + 1) r.e && leb r.e (ruler_end r.event)) && leb r.n r.s && leb r.method 1

-- 4 to 7 over a history, where `room` is the output's length
unfoldable pub request_refusals : History Day → Request → ℕ → List (Bool × Refusal)
request_refusals h r room =
    (not (good_request r), BadRequest) ∷
    (not (held h r.event), NotHeld) ∷
    (ltb r.event r.participation, NotYetParticipating) ∷
    (ltb room (r.e - r.s), NoRoom) ∷ []

-- 8 to 10, or the answer
unfoldable pub closing : Outcome (Option Baseline) → Reply
closing (short days) = refused (MarginTooShort days)
closing (few size reach) = refused (TooFew size reach)
closing (chose days reach none) = refused (NoAdjustmentWindow reach)
closing (chose days reach (some b)) =
    answered
    (record {
      days = days;
      reach = reach;
      denominator = b.denominator;
      adjusted = b.adjusted;
      numerators = map floored b.numerators;
    })

-- the first refusal of which the test holds, else the reply
unfoldable pub first_of : List (Bool × Refusal) → Reply → Reply
first_of [] reply = reply
first_of (t ∷ ts) reply = let later = first_of ts reply in cond t.0 (refused t.1) later

-- what the methodology gives over a well-formed history of any length
unfoldable pub methodology : (ℕ → Group) → History Day → Request → ℕ → Reply
methodology group h r room = first_of (request_refusals h r room) (closing (outcome (method_of group r) h))

-- 02, order 2: "Every call gets a list of up to 16 pairs"; "Refusals: 14, ..; after 3, before 4"
unfoldable pub list_refusals : List ℕ → List (Bool × Refusal)
list_refusals moves = (not (good_moves moves), BadMoves) ∷ []

-- what the methodology gives by the groups of a list of moves
unfoldable pub by_list : List ℕ → History Day → Request → ℕ → Reply
by_list moves h r room = first_of (list_refusals moves) (methodology (group moves) h r room)

-- the verdict over a lent table and a list of moves
unfoldable pub verdict : List ℕ → Table → Request → ℕ → Reply
verdict moves t r room = first_of (table_refusals t) (by_list moves (history t) r room)

-- "Refused, every lent buffer keeps its bytes. Answered, the first e-s outputs are written and the rest kept."
unfoldable pub written : Reply → List ℕ → List ℕ
written (refused w) out = out
written (answered a) out = a.numerators ++ drop (length a.numerators) out

-- "Well formed means that 1, 2 and 3 are not given; for histories in demand 3 the limit of 128 days is lifted."
unfoldable pub well_formed : Table → Bool
well_formed t = shaped t && all good_mark t.marks && all good_reading t.readings
