-- The directory of a table: how many days have a room, what the filled rows are, and that a room says of a day what the table holds of it.
use Prim.Native.Nat.{ℕ, ◌+◌, ◌-◌, ◌≤◌, ◌<◌, min}
use mathlib.Core.Path.{◌≡◌, refl, sym, ap, ◌∙◌}
use mathlib.Core.Bool.{Bool, true, false, cond, ◌&&◌}
use mathlib.Core.List.{List, map}
use native.Mathlib.Omega.{arith}
use borrow.Author.Tests.{le-leb, lt-leb, lt-ltb, leb-true}
use lib.Dec.{leb, ltb}
use lib.ListN.{length, get_or, take, drop}
use Rattle.method.specs.declared.Request.{Request}
use Rattle.method.specs.Table.{Table, held_days, offset, size, day_of, held, history, is_extract}
use Rattle.method.proofs.Histories.{is_held, held_first, held_last}
use Rattle.engine_rooms.specs.declared.Directory.{Directory}
use Rattle.engine_rooms.specs.Rooms.{readings_at, room_day}
use Rattle.engine_rooms.specs.Agree.{Agree}
use Rattle.base_lists.proofs.Places.{filled, at_place}
use Rattle.table_days.specs.Lent.{table_of}
use Rattle.table_directory.specs.Steps.{entries_of, directory_of}
use Rattle.table_days.proofs.Extracts.{extract_is, has_day_lem, has_inside}
use Rattle.base_lists.specs.Lists.{places}

module _ (t : Table) (event : ℕ) where
  -- how many days have a room, by each way out of the code
  pub entries_many : 128 < held_days t → 0 ≡ entries_of t event
  unfolding entries_of
  entries_many h = rw (lt-leb (held_days t) 128 h)

  module _ (few : held_days t ≤ 128) where
    pub entries_none : held (history t) event ≡ false → 0 ≡ entries_of t event
    unfolding entries_of
    entries_none e = rw (le-leb (held_days t) 128 few, e)

    pub entries_are : held (history t) event ≡ true → {n : ℕ} → n ≡ min 45 (event - t.first) → n + 1 ≡ entries_of t event
    unfolding entries_of
    entries_are e m = rw (le-leb (held_days t) 128 few, e) (omega (arith, held_first (history t) event e))

  -- the day of an entry is one that the table holds
  pub record Entry (i : ℕ) : Type 0 where
    pub place : i < 46
    pub since : t.first ≤ event
    pub back : i ≤ event - t.first
    pub last : event < t.first + held_days t
    pub few : held_days t ≤ 128

  pub entry : {i : ℕ} → i < entries_of t event → Entry i
  unfolding entries_of
  entry {i} h = go (leb (held_days t) 128) (held (history t) event) refl refl h
    where
      go : (a b : Bool) → leb (held_days t) 128 ≡ a → held (history t) event ≡ b → i < cond (a && b) (min 46 (event + 1 - t.first)) 0 → Entry i
      go true true x y k =
          record {
            place = omega arith;
            since = held_first (history t) event y;
            back = omega arith;
            last = held_last (history t) event y;
            few = leb-true (held_days t) 128 x;
          }
      go true false x y k = absurd (omega arith)
      go false b x y k = absurd (omega arith)

-- the two rows filled as far as days have a room
pub directory_is : (first : ℕ) (marks readings : List ℕ) (event entries : ℕ) {at kept : List ℕ} → entries ≡ entries_of (table_of first marks readings) event
    → at ≡ filled (λ j. offset first (event - j - first)) 46 entries → kept ≡ filled (λ j. get_or marks (event - j - first) 0) 46 entries
    → ◌≡◌ {A = Directory} (record { at = at; marks = kept; held = entries }) (directory_of (table_of first marks readings) event)
unfolding directory_of filled
directory_is first marks readings event entries e a k = λ j. record {
  at = (a ∙ ap (filled (λ j. offset first (event - j - first)) 46) e) j;
  marks = (k ∙ ap (filled (λ j. get_or marks (event - j - first) 0) 46) e) j;
  held = e j;
}

-- the rooms of a table that refusal 1 lets pass: they say of the days up to the event what the table holds
module _ (t : Table) (event : ℕ) (extract : is_extract t ≡ true) where
  abbrev rooms : Directory
  rooms = directory_of t event

  rooms-held : rooms.held ≡ cond (held (history t) event) (min 46 (event + 1 - t.first)) 0
  unfolding directory_of entries_of
  rooms-held = rw (le-leb (held_days t) 128 (extract_is t extract).most)

  module _ (i : ℕ) (inside : i < entries_of t event) where
    place : (f : ℕ → ℕ) → get_or (map (λ i. cond (ltb i (entries_of t event)) (f i) 0) (places 46 0)) i 0 ≡ f i
    place f =
        let z : 0 + i ≡ i = omega arith in
        at_place (λ i. cond (ltb i (entries_of t event)) (f i) 0) 0 46 0 i (entry t event inside).place ∙ rw (z, lt-ltb i (entries_of t event) inside)

    abbrev start : ℕ
    start = offset t.first (event - i - t.first)

    -- all its readings stand inside the lent readings
    room_stands : start + size (event - i) ≤ length t.readings
    room_stands =
        let e = entry t event inside in
        (has_inside t (event - i)
        (sym (has_day_lem t (event - i) extract) ∙ is_held (history t) (event - i) (omega (arith, e.since, e.back)) (omega (arith, e.last)))).2

    room_day_lem : room_day event rooms t.readings i ≡ day_of t (event - i)
    unfolding room_day directory_of day_of
    room_day_lem = λ j. record { mark = mark j; readings = readings j }
      where
        mark : get_or (map (λ i. cond (ltb i (entries_of t event)) (get_or t.marks (event - i - t.first) 0) 0) (places 46 0)) i 0 ≡ get_or t.marks
            (event - i - t.first) 0
        mark = place (λ i. get_or t.marks (event - i - t.first) 0)

        part : readings_at (size (event - i)) t.readings start ≡ take (size (event - i)) (drop start t.readings)
        part = unfold readings_at in rw (le-leb (start + size (event - i)) (length t.readings) room_stands)

        readings : readings_at (size (event - i)) t.readings (get_or (map (λ i. cond (ltb i (entries_of t event)) (offset t.first (event - i - t.first)) 0)
            (places 46 0)) i 0) ≡ take (size (event - i)) (drop start t.readings)
        readings = ap (readings_at (size (event - i)) t.readings) (place (λ i. offset t.first (event - i - t.first))) ∙ part

-- so a table shows what a store has to
pub table_agrees : (t : Table) (r : Request) → is_extract t ≡ true → Agree r (directory_of t r.event) t.readings (history t)
unfolding directory_of
table_agrees t r extract = record { width = rooms-held t r.event extract; days = λ i h. room_day_lem t r.event extract i h }
