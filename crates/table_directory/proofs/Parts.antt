-- The directory of a part of a table: where it holds the event day and the days before it that the table holds, at most 45, its rooms show what
-- the table holds.
use Prim.Native.Nat.{◌+◌, ◌-◌, ◌≤◌, ◌<◌, min}
use mathlib.Core.Path.{◌≡◌, sym, ◌∙◌}
use mathlib.Core.Bool.{true, false}
use native.Mathlib.Omega.{arith}
use borrow.Author.Tests.{le-leb}
use lib.ListN.{length}
use Rattle.calendar_dates.specs.Days.{last_day}
use Rattle.method.specs.declared.Request.{Request}
use Rattle.method.specs.Table.{Table, held_days, offset, held, history, is_extract}
use Rattle.method.specs.CutTables.{Longer}
use Rattle.method.proofs.Histories.{is_held, held_first, held_last}
use Rattle.engine_rooms.specs.Agree.{Agree}
use Rattle.table_days.proofs.Extracts.{extract_is, matched}
use Rattle.table_directory.specs.Steps.{entries_of, directory_of}
use Rattle.table_directory.proofs.Rooms.{table_agrees}

module _ (t p : Table) (r : Request) (extract : is_extract t ≡ true) (longer : Longer t p) (few : held_days p ≤ 128)
    (sized : length p.readings ≡ offset p.first (held_days p)) where
  -- the event day is in both
  module _ (has : held (history t) r.event ≡ true) (holds : held (history p) r.event ≡ true)
      (back : min 46 (r.event + 1 - p.first) ≡ min 46 (r.event + 1 - t.first)) where
    part_extract : is_extract p ≡ true
    part_extract =
        let some = held_last (history p) r.event holds in
        let since = held_first (history p) r.event holds in
        let last : p.first + held_days p - 1 ≤ last_day = omega (arith, longer.ends, (extract_is t extract).last) in
        sym (matched p few (λ e. omega (arith, some, since)) sized) ∙ le-leb (p.first + held_days p - 1) last_day last

    own : Agree r (directory_of p r.event) p.readings (history p)
    own = table_agrees p r part_extract

    width : (directory_of p r.event).held ≡ min 46 (r.event + 1 - p.first)
    width = own.width ∙ rw holds

    pub part_agrees : Agree r (directory_of p r.event) p.readings (history t)
    part_agrees =
        record {
          width = width ∙ back ∙ rw has;
          days = λ i h. own.days i h ∙ sym (longer.agrees (r.event - i) (is_held (history p) (r.event - i)
              (omega (arith, width, held_first (history p) r.event holds)) (omega (arith, held_last (history p) r.event holds))));
        }

  -- the event day is in neither
  pub part_agrees_none : held (history t) r.event ≡ false → held (history p) r.event ≡ false → Agree r (directory_of p r.event) p.readings (history t)
  unfolding directory_of entries_of
  part_agrees_none has holds =
      record { width = rw (le-leb (held_days p) 128 few, holds, has); days = λ i h. absurd (let none : i < 0 = rw (le-leb (held_days p) 128 few, holds) at h in omega arith) }
