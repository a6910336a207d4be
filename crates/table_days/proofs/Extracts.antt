-- What the tests of a lent table say: one law for each way out of the code.
use Prim.Native.Nat.{ℕ, ◌+◌, ◌-◌, ◌*◌, ◌≤◌, ◌<◌}
use mathlib.Core.Path.{◌≡◌, sym, ap, ◌∙◌}
use mathlib.Core.Bool.{Bool, true, false, not, ◌&&◌}
use mathlib.Core.List.{List, []}
use mathlib.Core.Logic.{⊎_elim}
use native.Mathlib.Omega.{arith}
use borrow.Author.Tests.{le-leb, lt-leb, eq-eqb, ne_eqb, leb-true, eqb-true, eqb-false, not-true, lt-ltb, le-ltb}
use lib.Dec.{leb, ltb, eqb}
use lib.ListN.{length, take, drop, length-take, length-drop}
use Rattle.base_lists.proofs.Bools.{bool_cases, both, lt-or-le, and_left, and_right}
use Rattle.calendar_dates.specs.Days.{last_day}
use Rattle.method.specs.Table.{Table, held_days, offset, most_quarters, shaped, is_extract, held, history, size, day_of, day_part}
use Rattle.method.proofs.Histories.{held_first, held_last}
use Rattle.method.proofs.Tables.{offset_within, offset_most}
use Rattle.std.specs.Prelude.{Some, None}
use Rattle.table_days.specs.Part.{has_day, part_start, DayPart, part_place}

-- what refusal 1 lets pass
pub record Extract (t : Table) : Type 0 where
  pub days : 0 < held_days t
  pub most : held_days t ≤ 128
  pub sized : length t.readings ≡ offset t.first (held_days t)
  pub last : t.first + held_days t - 1 ≤ last_day

pub many : (t : Table) → 128 < held_days t → false ≡ is_extract t
unfolding is_extract
many t h = rw (lt-leb (held_days t) 128 h)

pub empty : (t : Table) → held_days t ≤ 128 → held_days t ≡ 0 → false ≡ is_extract t
unfolding is_extract shaped
empty t h e = rw (le-leb (held_days t) 128 h, e)

pub unmatched : (t : Table) → held_days t ≤ 128 → (held_days t ≡ 0 → ⊥) → (length t.readings ≡ offset t.first (held_days t) → ⊥) → false ≡ is_extract t
unfolding is_extract shaped
unmatched t h n e =
    rw (le-leb (held_days t) 128 h, ne_eqb (held_days t) 0 n, ne_eqb (length t.readings) (offset t.first (held_days t)) e)

pub matched : (t : Table) → held_days t ≤ 128 → (held_days t ≡ 0 → ⊥) → length t.readings ≡ offset t.first (held_days t)
    → leb (t.first + held_days t - 1) last_day ≡ is_extract t
unfolding is_extract shaped
matched t h n e =
    rw (le-leb (held_days t) 128 h, ne_eqb (held_days t) 0 n, eq-eqb (length t.readings) (offset t.first (held_days t)) e)

pub extract_is : (t : Table) → is_extract t ≡ true → Extract t
unfolding is_extract shaped
extract_is t e =
    record {
      days = omega (arith, eqb-false (held_days t) 0 (not-true (eqb (held_days t) 0) (and_left some sized both)));
      most = leb-true (held_days t) 128 (and_left (leb (held_days t) 128) (shaped t) e);
      sized = eqb-true (length t.readings) (offset t.first (held_days t)) (and_right some sized both);
      last = leb-true (t.first + held_days t - 1) last_day (and_right (some && sized) inside shape);
    }
  where
    some : Bool
    some = not (eqb (held_days t) 0)

    sized : Bool
    sized = eqb (length t.readings) (offset t.first (held_days t))

    inside : Bool
    inside = leb (t.first + held_days t - 1) last_day

    shape : ((some && sized) && inside) ≡ true
    shape = and_right (leb (held_days t) 128) (shaped t) e

    both : (some && sized) ≡ true
    both = and_left (some && sized) inside shape

-- two tests that say the same
pub ltb_same : (a b c d : ℕ) → (a < b → c < d) → (c < d → a < b) → ltb a b ≡ ltb c d
ltb_same a b c d f g =
    ⊎_elim (λ l. lt-ltb a b l ∙ sym (lt-ltb c d (f l)))
    (λ l. le-ltb a b l ∙ sym (⊎_elim (λ k. absurd (omega (arith, g k))) (λ k. le-ltb c d k) (lt-or-le c d)))
    (lt-or-le a b)

-- the days that a table holds
module _ (t : Table) (day : ℕ) where
  pub within : t.first ≤ day → ltb (day - t.first) (held_days t) ≡ held (history t) day
  unfolding held
  within h = rw (le-leb t.first day h) (ltb_same (day - t.first) (held_days t) day (t.first + held_days t) (λ l. omega arith)
      (λ l. omega arith))

  pub before : day < t.first → false ≡ held (history t) day
  unfolding held
  before h = rw (lt-leb t.first day h)

  pub has_day_lem : is_extract t ≡ true → held (history t) day ≡ has_day t day
  unfolding has_day
  has_day_lem e = rw e

  pub has_none : is_extract t ≡ false → false ≡ has_day t day
  unfolding has_day
  has_none e = rw e

  pub has_is : has_day t day ≡ true → (is_extract t ≡ true) × (held (history t) day ≡ true)
  unfolding has_day
  has_is e = both (is_extract t) (held (history t) day) e

  -- a day that is held has its readings
  pub has_inside : has_day t day ≡ true
      → (t.first ≤ day) × (day < t.first + held_days t) × (offset t.first (day - t.first) + size day ≤ length t.readings)
  has_inside e =
      let w = has_is e in
      let x = extract_is t w.0 in
      let a = held_first (history t) day w.1 in
      let b = held_last (history t) day w.1 in
      (a, b, rw x.sized (offset_within t.first (held_days t) day a b))

  -- it is one of at most 128
  pub has_few : has_day t day ≡ true → day - t.first ≤ 128
  has_few e = omega (arith, has_inside e, (extract_is t (has_is e).0).most)

  -- the part of a day that is held, and of one that is not
  module _ (whole : ℕ × ℕ) (part : List ℕ) (at : ℕ × ℕ) (same : at.0 ≡ whole.0) where
    pub part_held : (start : ℕ) → start ≡ offset t.first (day - t.first) → has_day t day ≡ true
        → part ≡ take (start + size day - start) (drop start t.readings) → at.1 ≡ whole.1 + 4 * start → DayPart t day whole part at
    unfolding day_part day_of part_start
    part_held start s e l b =
        let w = has_is e in
        let k : start + size day - start ≡ size day = omega arith in
        record { list = rw (w.0, w.1, ← s) (rw k at l); block = same; byte = rw (e, ← s) b }

    pub part_none : has_day t day ≡ false → part ≡ [] → at.1 ≡ whole.1 → DayPart t day whole part at
    unfolding day_part part_start
    part_none e l b = record { list = rw none l; block = same; byte = rw e (omega arith) }
      where
        none : (is_extract t && held (history t) day) ≡ false
        none = unfold has_day in e

  -- a part has a day's readings, or none: for a day that is not held, or a table that refusal 1 turns away, and for nothing else
  pub part_whole : has_day t day ≡ true → length (day_part t day) ≡ size day
  unfolding day_part day_of
  part_whole e =
      let w = has_is e in
      let k = (has_inside e).2 in
      rw (w.0, w.1, length-take, length-drop) (omega arith)

  pub part_empty : has_day t day ≡ false → day_part t day ≡ []
  unfolding day_part has_day
  part_empty e = rw e

  pub part_is : has_day t day ≡ true → day_part t day ≡ (day_of t day).readings
  unfolding day_part has_day
  part_is e = rw e

  -- where the part of a day stands, by each way out of the code
  module _ {part : List ℕ} (e : part ≡ day_part t day) where
    pub place_nowhere : length part ≡ 0 → None ≡ part_place t day
    unfolding part_place
    place_nowhere h = rw (← e, eq-eqb (length part) 0 h)

    module _ (some : length part ≡ 0 → ⊥) where
      pub part_some : has_day t day ≡ true
      part_some = ⊎_elim (λ h. h) (λ h. absurd (some (ap length (e ∙ part_empty h)))) (bool_cases (has_day t day))

      pub place_first : t.first ≤ day
      place_first = (has_inside part_some).0

      -- it is a place among at most 128 days of readings
      pub place_small : offset t.first (day - t.first) ≤ most_quarters * 128
      place_small = offset_most t.first (day - t.first) 128 (has_few part_some)

      pub place_from : {start : ℕ} → start ≡ offset t.first (day - t.first) → Some start ≡ part_place t day
      unfolding part_place part_start
      place_from s = rw (← e, ne_eqb (length part) 0 some, part_some, s)
