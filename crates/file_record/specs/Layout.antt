-- 01, "Record file, listing, host entry": the record file by what writing it yields. MV is of document 02, order 2, and the method of its order 3.
use Rattle.std.specs.Prelude.{ℕ, suc, ◌+◌, ◌/◌, ◌%◌, ◌≤◌, ◌<◌, ◌^◌, ◌≡◌, List, [], ◌∷◌, ◌++◌, Bool, true, ◌&&◌, length, get_or, take, drop, ltb}
use Rattle.base_lists.specs.Lists.{all}
use Rattle.base_lists.specs.Ascii.{ascii}
use Rattle.method.specs.Table.{Table, held_days, size, offset}
use Rattle.base_bytes.specs.Bytes.{bytes, reading_bytes}

-- "One PF (8 bytes: mark, P as 2 bytes, portfolio number as 4)"
unfoldable pub pf_record : ℕ → ℕ → List ℕ
pf_record participation portfolio = ascii "PF" ++ bytes 2 participation ++ bytes 4 portfolio

-- "MV records (6 bytes: mark, two days)"
unfoldable pub mv_record : ℕ → ℕ → List ℕ
mv_record old new = ascii "MV" ++ bytes 2 old ++ bytes 2 new

-- "DY (390 bytes: mark, day 2, mark byte 1, zero 1, 96 readings of 4)"
unfoldable pub dy_record : ℕ → ℕ → List ℕ → List ℕ
dy_record day mark readings = ascii "DY" ++ bytes 2 day ++ (mark ∷ 0 ∷ []) ++ reading_bytes readings

-- "EV (8 bytes: mark, D 2, s, e, n one each, zero 1)"; 02, order 3: "`EV`'s zero byte becomes the request's method: 0 High X of Y, 1 this one."
pub record Event : Type 0 where
  pub day : ℕ
  pub s : ℕ
  pub e : ℕ
  pub n : ℕ
  pub method : ℕ

unfoldable pub ev_record : Event → List ℕ
ev_record v = ascii "EV" ++ bytes 2 v.day ++ (v.s ∷ v.e ∷ v.n ∷ v.method ∷ [])

-- an MV for each pair of a list of moves
unfoldable pub mv_records : List ℕ → List ℕ
mv_records (old ∷ new ∷ more) = mv_record old new ++ mv_records more
mv_records (old ∷ []) = []
mv_records [] = []

-- "consecutive days": a DY for each mark, from day `d` on, each with as many readings as its day has
unfoldable pub dy_records : ℕ → List ℕ → List ℕ → List ℕ
dy_records d [] readings = []
dy_records d (m ∷ marks) readings = dy_record d m (take (size d) readings) ++ dy_records (suc d) marks (drop (size d) readings)

unfoldable pub ev_records : List Event → List ℕ
ev_records [] = []
ev_records (v ∷ events) = ev_record v ++ ev_records events

-- what a file says
pub record Contents : Type 0 where
  pub participation : ℕ
  pub portfolio : ℕ
  pub moves : List ℕ
  pub table : Table
  pub events : List Event

-- "One PF ..; then up to 128 DY ..; then up to 64 EV", and MV "between PF and DY"
unfoldable pub file_of : Contents → List ℕ
file_of c =
    pf_record c.participation c.portfolio
    ++ mv_records c.moves
    ++ dy_records c.table.first c.table.marks c.table.readings
    ++ ev_records c.events

-- every number of a list is below a bound
abbrev pub Below : ℕ → List ℕ → Type 0
Below bound l = (i : ℕ) → get_or l i 0 < bound

abbrev pub fits_day : ℕ → Bool
fits_day d = ltb d (256 ^ 2)

unfoldable pub fits_event : Event → Bool
fits_event v = fits_day v.day && ltb v.s 256 && ltb v.e 256 && ltb v.n 256 && ltb v.method 256

-- what the bytes of a file can hold: at most 16 moves, 128 days and 64 events, each day's readings; no days with F other than 0 has no file
pub record Fits (c : Contents) : Type 0 where
  pub participation : c.participation < 256 ^ 2
  pub portfolio : c.portfolio < 256 ^ 4
  pub pairs : length c.moves % 2 ≡ 0
  pub moves : length c.moves / 2 ≤ 16
  pub moved : Below (256 ^ 2) c.moves
  pub days : held_days c.table ≤ 128
  pub last : c.table.first + held_days c.table ≤ 256 ^ 2
  pub none : held_days c.table ≡ 0 → c.table.first ≡ 0
  pub marks : Below 256 c.table.marks
  pub size : length c.table.readings ≡ offset c.table.first (held_days c.table)
  pub readings : Below (256 ^ 4) c.table.readings
  pub events : length c.events ≤ 64
  pub fields : all fits_event c.events ≡ true
