-- Demand 3 of the order (document 00), cut tables, over tables of any length. `method_laws` proves it for every group of days, table and request
-- (`CutTables`), and carries it to `verdict` (`Extract`). All three demands, about what the calls give back, stand in crate demands.
use Rattle.std.specs.Prelude.{◌≡◌, Bool, true, false, ◌||◌, List, reverse, ℕ, ◌+◌, ◌-◌, ◌≤◌, ◌<◌, get_or, drop, eqb}
use Rattle.base_lists.specs.Lists.{any, member}
use Rattle.calendar_groups.specs.declared.Group.{Group}
use Rattle.method.specs.declared.Request.{Request}
use Rattle.method.specs.declared.Refusal.{Refusal}
use Rattle.method.specs.declared.Refusal.TheVariants.{MarginTooShort}
use Rattle.method.specs.Table.{Table, held_days, offset, day_of, held, history}
use Rattle.method.specs.Method.{window, whole_reach, reach, days_of}
use Rattle.method.specs.Requested.{method_of}
use Rattle.method.specs.Verdict.{Reply, refused, answered, number, carries, request_refusals, methodology, well_formed}

-- 01: "A longer history adds days before F, after the last, or both; it agrees with the extract when each of the extract's days has the
-- same marks and readings in both." Here none need be added, which says more
pub record Longer (l t : Table) : Type 0 where
  pub starts : l.first ≤ t.first
  pub ends : t.first + held_days t ≤ l.first + held_days l
  pub agrees : (d : ℕ) → held (history t) d ≡ true → day_of l d ≡ day_of t d

-- `l` is well formed and longer than `t`
pub record LongerFormed (l t : Table) : Type 0 where
  pub formed : well_formed l ≡ true
  pub longer : Longer l t

-- `p` is well formed, cut from `t`, and holds the event day
pub record CutFrom (p t : Table) (r : Request) : Type 0 where
  pub formed : well_formed p ≡ true
  pub longer : Longer t p
  pub holds : held (history p) r.event ≡ true

-- the days before the event that a table holds
abbrev pub held_before : Table → Request → ℕ
held_before t r = r.event - t.first

-- the table without its first `k` days, and the table cut so that `k` days stand before the event
unfoldable pub without : ℕ → Table → Table
without k t = record { first = t.first + k; marks = drop k t.marks; readings = drop (offset t.first k) t.readings }

abbrev pub cut_to : Table → Request → ℕ → Table
cut_to t r k = without (held_before t r - k) t

-- the days of the baseline window of a table for a request
abbrev pub window_days : (ℕ → Group) → Table → Request → List ℕ
window_days group t r = days_of (window (method_of group r) (history t))

-- two longer well-formed histories agree with `t` and have different baseline windows: other days, or the same in another order
pub record Undecided (group : ℕ → Group) (t : Table) (r : Request) : Type 0 where
  pub one : Table
  pub other : Table
  pub one_longer : LongerFormed one t
  pub other_longer : LongerFormed other t
  pub differ : window_days group one r ≡ window_days group other r → ⊥

-- the strongest evidence of it: both are strictly longer, and a day is in the one window and not in the other
pub record Parted (group : ℕ → Group) (t : Table) (r : Request) : Type 0 where
  pub two : Undecided group t r
  pub one_adds : held_days t < held_days two.one
  pub other_adds : held_days t < held_days two.other
  pub day : ℕ
  pub inside : member day (window_days group two.one r) ≡ true
  pub outside : member day (window_days group two.other r) ≡ false

-- the reply is "margin too short"
abbrev pub is_margin : Reply → Bool
is_margin (refused w) = eqb (number w) 8
is_margin (answered a) = false

-- the reply is "an answer, 'too few days' or 'no adjustment window'"
abbrev pub is_settled : Reply → Bool
is_settled (refused w) = eqb (number w) 9 || eqb (number w) 10
is_settled (answered a) = true

-- the reach that such a reply reports: the last of the numbers that 9 and 10 carry
abbrev pub reported : Reply → ℕ
reported (refused w) = get_or (reverse (carries w)) 0 0
reported (answered a) = a.reach

-- no refusal before 8 applies
abbrev pub NoneEarlier : Table → Request → ℕ → Type 0
NoneEarlier t r room = any (λ (p : Bool × Refusal). p.0) (request_refusals (history t) r room) ≡ false

-- Demand 3 at a well-formed table of any length that holds the event day
pub record CutTables (group : ℕ → Group) (t : Table) (r : Request) (room : ℕ) : Type 0 where
  -- "Where an event over a well-formed extract gets an answer, 'too few days' or 'no adjustment window', every longer well-formed history
  -- that agrees with the extract, for the same portfolio and request, gets the same by the methodology, all numbers included."
  pub stable : is_margin (methodology group (history t) r room) ≡ false
      → (l : Table) → LongerFormed l t → methodology group (history l) r room ≡ methodology group (history t) r room
  -- "'Margin too short' is given, once no earlier refusal applies, exactly when two longer well-formed histories agree with the extract and
  -- have different baseline windows for that request.": any two give it, and where it is given two strictly longer ones are shown
  pub given_when : NoneEarlier t r room → Undecided group t r → is_margin (methodology group (history t) r room) ≡ true
  pub only_when : NoneEarlier t r room → is_margin (methodology group (history t) r room) ≡ true → Parted group t r
  -- it carries D minus the oldest relevant day, at most 45, and with that many days before the event it is never given
  pub carried : is_margin (methodology group (history t) r room) ≡ true
      → methodology group (history t) r room ≡ refused (MarginTooShort (whole_reach (method_of group r)))
  pub at_most : whole_reach (method_of group r) ≤ 45
  pub enough : whole_reach (method_of group r) ≤ held_before t r → is_margin (methodology group (history t) r room) ≡ false
  -- nor is it where the table starts at P or earlier
  pub since : t.first ≤ r.participation → is_margin (methodology group (history t) r room) ≡ false
  -- "The reported reach is the fewest days before the event that give this result.": what is cut from the table with so many days before the
  -- event gets the same reply, with fewer it gets "margin too short", and any number of days up to the reach can be cut
  pub reports : is_settled (methodology group (history t) r room) ≡ true
      → reported (methodology group (history t) r room) ≡ reach (method_of group r) (history t)
  pub same : is_margin (methodology group (history t) r room) ≡ false
      → (p : Table) → CutFrom p t r → reach (method_of group r) (history t) ≤ held_before p r
      → methodology group (history p) r room ≡ methodology group (history t) r room
  pub fewer : NoneEarlier t r room
      → (p : Table) → CutFrom p t r → held_before p r < reach (method_of group r) (history t)
      → is_margin (methodology group (history p) r room) ≡ true
  pub attained : NoneEarlier t r room → is_margin (methodology group (history t) r room) ≡ false
      → (k : ℕ) → k ≤ reach (method_of group r) (history t) → (p : Table) × CutFrom p t r × (held_before p r ≡ k)
