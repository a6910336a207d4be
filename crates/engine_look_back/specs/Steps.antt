-- What looking back from an event finds: the eligible and the spare days, as words.
use Rattle.std.specs.Prelude.{ℕ, zero, suc, ◌+◌, ◌-◌, ◌≤◌, ◌<◌, min, ◌≡◌, Bool, false, ◌&&◌, cond, List, [], ◌∷◌, ◌++◌, map, length, set, leb, Option, Some, None}
use Rattle.base_lists.specs.Lists.{keep, least_of}
use Rattle.calendar_groups.specs.declared.Group.{Group}
use Rattle.method.specs.declared.Request.{Request}
use Rattle.method.specs.Table.{Day, event_bit}
use Rattle.method.specs.Method.{days_of}
use Rattle.method.specs.Relevant.{days_before}
use Rattle.method.specs.Eligible.{eligible, spare}
use Rattle.engine_relevant.specs.Steps.{relevant_to}
use Rattle.engine_ranking.specs.Steps.{word, sort_down, padded, pushed}
use Rattle.engine_judging.specs.declared.Judged.{Judged}
use Rattle.engine_judging.specs.declared.Judged.TheVariants.{Eligible, Spare}
use Rattle.engine_rooms.specs.declared.Directory.{Directory}
use Rattle.engine_rooms.specs.Rooms.{room_day, held_rooms}
use Rattle.engine_rules.specs.declared.SpareOrder.{SpareOrder}
use Rattle.engine_rules.specs.declared.SpareOrder.TheVariants.{Highest, Latest}
use Rattle.engine_look_back.specs.declared.Found.{Found}

-- what is held of a day, in the rooms of a directory
abbrev pub rooms_of : Request → Directory → List ℕ → ℕ → Day
rooms_of r rooms readings d = room_day r.event rooms readings (r.event - d)

-- what a day is, by what is held of it, with its word
unfoldable pub judged : Request → ℕ × Day → Option Judged
judged r p = cond (eligible p.1) (Some (Eligible (word r p))) (cond (spare p.1) (Some (Spare (word r p))) None)

-- how many days are held before the event
unfoldable pub rooms_before : Request → Directory → ℕ
rooms_before r rooms = held_rooms r rooms - 1

-- the relevant of the `k` days before the event, nearest first, with what is held of them; a test says which are relevant
unfoldable pub nearest : (ℕ → Bool) → Request → (ℕ → Day) → ℕ → List (ℕ × Day)
nearest relevant r day k = map {A = ℕ} {B = ℕ × Day} (λ d. (d, day d)) (keep relevant (days_before k r.event))

-- the days held before an event of a group that are relevant to it
abbrev pub held_days : (ℕ → Group) → Group → Request → Directory → List ℕ → List (ℕ × Day)
held_days group own r rooms readings = nearest (relevant_to group own r) r (rooms_of r rooms readings) (rooms_before r rooms)

-- a day, if it is relevant
unfoldable pub if_relevant : (ℕ → Bool) → ℕ × Day → List (ℕ × Day)
if_relevant relevant p = cond (relevant p.0) (p ∷ []) []

-- of days, nearest first, those up to the `n`th that is eligible; all where there are fewer
unfoldable pub up_to : ℕ → List (ℕ × Day) → List (ℕ × Day)
up_to n [] = []
up_to zero (p ∷ days) = []
up_to (suc n) (p ∷ days) = p ∷ cond (eligible p.1) (up_to n days) (up_to (suc n) days)

unfoldable pub eligible_of : List (ℕ × Day) → List (ℕ × Day)
eligible_of = keep (λ (p : ℕ × Day). eligible p.1)

unfoldable pub spare_of : List (ℕ × Day) → List (ℕ × Day)
spare_of = keep (λ (p : ℕ × Day). spare p.1)

-- a falling row of the words of days
abbrev pub row_of : Request → List (ℕ × Day) → List ℕ
row_of r days = padded 10 (sort_down (map (word r) days))

-- a row of the words of spare days, in the order that they fill a shortage in
abbrev pub spare_row : Request → SpareOrder → List (ℕ × Day) → List ℕ
spare_row r Highest days = row_of r days
spare_row r Latest days = padded 10 (map (word r) days)

-- such a row of `count` words with one more
abbrev pub with_spare : SpareOrder → List ℕ → ℕ → ℕ → List ℕ
with_spare Highest row count word = pushed word row
with_spare Latest row count word = set row count word

-- how many of so many spare days are known: all, but of those that fill latest first no more than the row holds, since a shortage asks for fewer
-- and a further one changes neither row nor choice
abbrev pub spares_of : SpareOrder → ℕ → ℕ
spares_of Highest n = n
spares_of Latest n = min 10 n

-- whether a day of this mark can change nothing where so many spare days are known
abbrev pub needless : SpareOrder → ℕ → ℕ → Bool
needless Highest count mark = false
needless Latest count mark = leb 10 count && event_bit mark

-- how far before the event the oldest of some days lies
abbrev pub oldest_of : Request → List (ℕ × Day) → ℕ
oldest_of r days = r.event - least_of r.event (days_of days)

-- what was found in the days looked at
pub record Looked (r : Request) (order : SpareOrder) (days : List (ℕ × Day)) (found : Found) : Type 0 where
  pub row : found.eligible.words ≡ row_of r (eligible_of days)
  pub count : found.eligible.count ≡ length (eligible_of days)
  pub oldest : found.oldest ≡ oldest_of r (eligible_of days)
  pub sparing : found.spare.words ≡ spare_row r order (spare_of days)
  pub spares : found.spare.count ≡ spares_of order (length (spare_of days))

-- the day `back` days before the event is the next to look at: it lies no nearer than what was found
pub record Further (r : Request) (back : ℕ) (found : Found) : Type 0 where
  pub some : 1 ≤ back
  pub most : back ≤ 45
  pub within : back ≤ r.event
  pub oldest : found.oldest ≤ back
  pub count : found.eligible.count < back
  pub spares : found.spare.count < back

-- `next` is what was found once some more is looked at, `back` days before the event
pub record Adds (r : Request) (order : SpareOrder) (back : ℕ) (more : List (ℕ × Day)) (found next : Found) : Type 0 where
  pub then : (days : List (ℕ × Day)) → Looked r order days found → Looked r order (days ++ more) next
  pub oldest : next.oldest ≤ back
  pub count : next.eligible.count ≤ found.eligible.count + 1
  pub spares : next.spare.count ≤ found.spare.count + 1
