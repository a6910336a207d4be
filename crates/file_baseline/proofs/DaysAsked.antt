-- The days that an event can ask for: they stand in the file, and as an extract of their own they show an engine what the file holds.
use Prim.Native.Nat.{ℕ, ◌+◌, ◌-◌, ◌≤◌, ◌<◌}
use mathlib.Core.Path.{◌≡◌, refl, sym, ap}
use mathlib.Core.Bool.{Bool, true, false, ◌&&◌}
use mathlib.Core.List.{List}
use mathlib.Core.Logic.{⊎_elim}
use native.Mathlib.Omega.{arith}
use borrow.Author.Tests.{leb-true, ltb-true, le-leb, lt-ltb}
use lib.Dec.{leb, ltb}
use lib.ListN.{length}
use Rattle.base_lists.proofs.Bools.{both, bool_cases, clash}
use Rattle.method.specs.declared.Request.{Request}
use Rattle.method.specs.Table.{Table, held_days, offset, held, history, is_extract}
use Rattle.method.proofs.Histories.{is_held, held_first, held_last}
use Rattle.engine_rooms.specs.Agree.{Agree}
use Rattle.table_directory.specs.Steps.{directory_of}
use Rattle.table_directory.proofs.Parts.{part_agrees, part_agrees_none}
use Rattle.file_record.specs.declared.Shape.{Shape}
use Rattle.file_record.specs.declared.Span.{Span}
use Rattle.file_record.specs.Steps.{table_within, span_within}
use Rattle.file_record.proofs.Lengths.{marks_within}
use Rattle.file_record.proofs.Spans.{span_marks_length, span_readings_length, span_longer}
use Rattle.file_loading.proofs.Loading.{place, place_is}
use Rattle.file_baseline.specs.Steps.{asked}

module _ (shape : Shape) (event : ℕ) where
  module _ (since : shape.first ≤ event) where
    asked-held : event - shape.first < shape.days → {start : ℕ} → start ≡ event - shape.first - 45
        → record { start = start; end = event - shape.first + 1 } ≡ asked shape event
    unfolding asked
    asked-held h s = rw (s, le-leb shape.first event since, lt-ltb (event - shape.first) shape.days h)

  -- what they are: days of the file, at most 46
  pub record Asks (s : Span) : Type 0 where
    pub low : s.start ≤ s.end
    pub high : s.end ≤ shape.days
    pub few : s.end - s.start ≤ 46

  abbrev holds : Bool
  holds = leb shape.first event && ltb (event - shape.first) shape.days

  since_and_last : holds ≡ true → (shape.first ≤ event) × (event - shape.first < shape.days)
  since_and_last t =
      let k = both (leb shape.first event) (ltb (event - shape.first) shape.days) t in
      (leb-true shape.first event k.0, ltb-true (event - shape.first) shape.days k.1)

  held_in : shape.first ≤ event → event < shape.first + shape.days → holds ≡ true
  held_in f l =
      let last : event - shape.first < shape.days = omega arith in
      rw (le-leb shape.first event f, lt-ltb (event - shape.first) shape.days last)

  asked_none : holds ≡ false → (asked shape event).end ≡ 0
  unfolding asked
  asked_none t = rw t

  pub asks : Asks (asked shape event)
  unfolding asked
  asks = ⊎_elim some none (bool_cases holds)
    where
      some : holds ≡ true → Asks (asked shape event)
      some t = rw t (record { low = omega arith; high = omega (arith, since_and_last t); few = omega arith })

      none : holds ≡ false → Asks (asked shape event)
      none t = rw t (record { low = omega arith; high = omega arith; few = omega arith })

pub asks_of : (shape : Shape) {event : ℕ} {s : Span} → s ≡ asked shape event → Asks shape event s
asks_of shape {event} e = rw e (asks shape event)

-- how many readings they have
pub asked_count : (shape : Shape) (event : ℕ) {from to : ℕ} {s : Span} → s ≡ asked shape event → to ≡ offset shape.first s.end → from ≡ offset shape.first s.start
    → (from ≤ to) × (to - from ≡ place shape s s.end)
asked_count shape event {s = s} is t f = rw (t, f) (place_is shape s s.end (asks_of shape is).low)

-- a day that does not lie within a table is not held
never_held : (t : Table) {d : ℕ} → (t.first ≤ d → d < t.first + held_days t → ⊥) → held (history t) d ≡ false
never_held t {d} n =
    ⊎_elim (λ h. absurd (n (held_first (history t) d h) (held_last (history t) d h))) (λ h. h) (bool_cases (held (history t) d))

-- the rooms of the days that an event can ask for show what the file holds
module _ (shape : Shape) (file : List ℕ) (r : Request) (extract : is_extract (table_within shape file) ≡ true) where
  abbrev t : Table
  t = table_within shape file

  abbrev days : Span
  days = asked shape r.event

  abbrev p : Table
  p = span_within shape days file

  a : Asks shape r.event days
  a = asks shape r.event

  t_first : t.first ≡ shape.first
  t_first = unfold table_within in refl

  p_first : p.first ≡ shape.first + days.start
  p_first = unfold span_within in refl

  t-days : held_days t ≡ shape.days
  t-days = marks_within shape file

  p-days : held_days p ≡ days.end - days.start
  p-days = span_marks_length shape file days

  sized : length p.readings ≡ offset p.first (held_days p)
  sized = rw (p_first, p-days) (span_readings_length shape file days)

  pub rooms_agree : Agree r (directory_of p r.event) p.readings (history t)
  rooms_agree = ⊎_elim some none (bool_cases (holds shape r.event))
    where
      few : held_days p ≤ 128
      few = omega (arith, p-days, a.few)

      some : holds shape r.event ≡ true → Agree r (directory_of p r.event) p.readings (history t)
      some h =
          let k = since_and_last shape r.event h in
          let is = asked-held shape r.event k.0 k.1 refl in
          let start : days.start ≡ r.event - shape.first - 45 = sym (ap (λ (s : Span). s.start) is) in
          let end : days.end ≡ r.event - shape.first + 1 = sym (ap (λ (s : Span). s.end) is) in
          part_agrees t p r extract (span_longer shape file days a.low a.high) few sized
          (is_held (history t) r.event (omega (arith, t_first)) (omega (arith, t_first, t-days)))
          (is_held (history p) r.event (omega (arith, p_first)) (omega (arith, p_first, p-days)))
          (omega (arith, p_first, t_first))

      none : holds shape r.event ≡ false → Agree r (directory_of p r.event) p.readings (history t)
      none h =
          part_agrees_none t p r extract (span_longer shape file days a.low a.high) few sized
          (never_held t (λ f l. clash (held_in shape r.event (omega (arith, t_first)) (omega (arith, t_first, t-days))) h))
          (never_held p (λ f l. omega (arith, p-days, asked_none shape r.event h)))
