use Prim.Native.Nat.{ℕ, ◌-◌, ◌<◌}
use mathlib.Core.Path.{◌≡◌, refl}
use mathlib.Core.List.{List, []}
use native.Mathlib.Omega.{arith}
use lib.ListN.{get_or}
use Rattle.method.specs.Table.{offset}
use Rattle.method.proofs.Tables.{offset_most}
use Rattle.base_lists.proofs.Places.{filled, filled_more}
use Rattle.table_days.specs.Lent.{table_of}
use Rattle.table_directory.specs.Steps.{entries_of}
use Rattle.table_directory.proofs.Rooms.{Entry, entry, directory_is}
use Rattle.base_lists.specs.Lists.{places}
use Rattle.table_directory.proofs.directory.Goals as goal

-- the day of an entry is held
within : {first event n i : ℕ} {marks : List ℕ} → ((readings : List ℕ) → n ≡ entries_of (table_of first marks readings) event) → i < n
    → Entry (table_of first marks []) event i
within {first} {event} {n} {i} {marks} e h = entry (table_of first marks []) event (rw (e []) at h)

pub loop-i-init : goal.loop-i-init
unfolding filled places
loop-i-init c = (refl, refl)

pub overflow_sub-day : goal.overflow_sub-day
overflow_sub-day c = let e = within c.entries-entries.ensures c.loop-i-test.true in omega arith

pub overflow_sub-before : goal.overflow_sub-before
overflow_sub-before c = let e = within c.entries-entries.ensures c.loop-i-test.true in omega arith

pub overflow_cast-at : goal.overflow_cast-at
overflow_cast-at c =
    let a = c.args in
    let e = within c.entries-entries.ensures c.loop-i-test.true in
    let most = offset_most a.first (a.event - c.loop-i.i - a.first) 128 (omega arith) in
    omega (arith, c.offset.ensures, most)

pub bounds-at-i : goal.bounds-at-i
bounds-at-i c = let e = within c.entries-entries.ensures c.loop-i-test.true in omega arith

pub bounds-marks-before : goal.bounds-marks-before
bounds-marks-before c = let e = within c.entries-entries.ensures c.loop-i-test.true in omega arith

pub bounds-kept-i : goal.bounds-kept-i
bounds-kept-i c = let e = within c.entries-entries.ensures c.loop-i-test.true in omega arith

pub loop-i-preserved : goal.loop-i-preserved
loop-i-preserved c =
    let a = c.args in
    let l = c.loop-i in
    let e = within c.entries-entries.ensures c.loop-i-test.true in (
      rw l.invariant.0 (filled_more (λ j. offset a.first (a.event - j - a.first)) 46 l.i c.offset.result e.place
          c.offset.ensures),
      rw l.invariant.1 (filled_more (λ j. get_or a.marks.now (a.event - j - a.first) 0) 46 l.i
          (get_or a.marks.now (a.event - l.i - a.first) 0) e.place refl),
    )

pub returns : goal.returns
returns c = λ readings.
    let a = c.args in
    let l = c.loop-i in
    let n = c.entries-entries.result in
    let all : l.i ≡ n = omega arith in
    directory_is a.first a.marks.now readings a.event n (c.entries-entries.ensures readings) (rw all at l.invariant.0)
    (rw all at l.invariant.1)
