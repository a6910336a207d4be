-- 01, "The lent table and the request".
use Rattle.std.specs.Prelude.{ℕ, zero, suc, ◌+◌, ◌-◌, ◌/◌, ◌%◌, Bool, not, ◌&&◌, ◌||◌, cond, List, [], length, get_or, take, drop, leb, ltb, eqb}
use Rattle.calendar_dates.specs.Days.{last_day}

-- "An extract is a first day F, one mark byte a day, and 96 readings a day, 32 bits wide, for h consecutive days"
pub record Table : Type 0 where
  pub first : ℕ
  pub marks : List ℕ
  pub readings : List ℕ

-- "h is the number of mark bytes"
abbrev pub held_days : Table → ℕ
held_days t = length t.marks

-- "A dispatch day .. has 96 quarters": how many readings a day has
unfoldable pub size : ℕ → ℕ
size d = 96

-- the most readings that a day has
abbrev pub most_quarters : ℕ
most_quarters = 96

-- how many readings stand before the k-th day of a table that starts at `first`
unfoldable pub offset : ℕ → ℕ → ℕ
offset first zero = 0
offset first (suc k) = size first + offset (suc first) k

-- "Mark bit 0: a demand response event was recorded. Bit 1: outage or force majeure. Other bits are zero."
abbrev pub event_bit : ℕ → Bool
event_bit m = eqb (m % 2) 1

abbrev pub outage_bit : ℕ → Bool
outage_bit m = eqb (m / 2 % 2) 1

abbrev pub good_mark : ℕ → Bool
good_mark m = ltb m 4

-- "A reading is kW, 0 to 10,000,000; 4,294,967,295 means missing."
abbrev pub missing : ℕ
missing = 4294967295

abbrev pub present : ℕ → Bool
present x = not (eqb x missing)

abbrev pub good_reading : ℕ → Bool
good_reading x = leb x 10000000 || eqb x missing

-- what is held of a day
pub record Day : Type 0 where
  pub mark : ℕ
  pub readings : List ℕ

-- what the table holds of day `d`
unfoldable pub day_of : Table → ℕ → Day
day_of t d =
    record { mark = get_or t.marks (d - t.first) 0; readings = take (size d) (drop (offset t.first (d - t.first)) t.readings) }

-- a history: consecutive days, and what is held of each (of a day outside them nothing is ever asked)
pub record History (A : Type 0) : Type 0 where
  pub first : ℕ
  pub count : ℕ
  pub day : ℕ → A

unfoldable pub held : {A : Type 0} → History A → ℕ → Bool
held h d = leb h.first d && ltb d (h.first + h.count)

abbrev pub history : Table → History Day
history t = record { first = t.first; count = held_days t; day = day_of t }

-- refusal 1, but for the limit of 128 days: some days, as many readings as they have, none past the calendar
unfoldable pub shaped : Table → Bool
shaped t =
    not (eqb (held_days t) 0) && eqb (length t.readings) (offset t.first (held_days t)) && leb (t.first + held_days t - 1) last_day

unfoldable pub is_extract : Table → Bool
is_extract t = leb (held_days t) 128 && shaped t

-- "Any day's ninety-six readings can be asked for ..; a day not held, or a table that refusal 1 turns away, gives an empty part"
unfoldable pub day_part : Table → ℕ → List ℕ
day_part t d = cond (is_extract t && held (history t) d) (day_of t d).readings []
