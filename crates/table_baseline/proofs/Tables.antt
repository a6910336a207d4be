-- A lent table as a store: the engine over its directory gives the verdict.
use Prim.Native.Nat.{ℕ, ◌-◌}
use mathlib.Core.Path.{◌≡◌, sym, ◌∙◌}
use Rattle.method.specs.declared.Request.{Request}
use Rattle.method.specs.declared.Refusal.{Refusal}
use Rattle.method.specs.Table.{Table, offset, size, day_of, good_reading, history}
use Rattle.method.specs.Verdict.{refused, table_refusals, by_list, verdict}
use Rattle.base_lists.proofs.All.{all-take, all-drop}
use mathlib.Core.List.{List}
use lib.ListN.{drop}
use Rattle.engine_rooms.specs.declared.Directory.{Directory}
use Rattle.engine_rooms.specs.Agree.{Agree}
use Rattle.table_directory.proofs.Rooms.{table_agrees}
use Rattle.std.specs.Prelude.{Ok, Err}
use Rattle.engine_refusals.specs.Steps.{tested}
use Rattle.engine_refusals.proofs.FirstRefusal.{first_failed, first_passed}
use Rattle.table_refusals.proofs.FirstRefusal.{Good, table_passed}
use Rattle.engine_baseline.specs.Engine.{over_rooms}
use Rattle.engine_baseline.specs.Store.{GoodDays}
use Rattle.engine_baseline.proofs.Store.{serves}
use Rattle.table_engine.specs.Steps.{over_table}

-- the days of a table with good readings
pub good_days : (t : Table) → Good t → GoodDays (history t)
unfolding day_of
good_days t good d e =
    all-take good_reading (size d) (drop (offset t.first (d - t.first)) t.readings)
    (all-drop good_reading (offset t.first (d - t.first)) t.readings good.readings)

module _ (moves : List ℕ) (t : Table) (r : Request) (room : ℕ) where
  pub table_refused : {w : Refusal} → tested (table_refusals t) ≡ Err w → verdict moves t r room ≡ refused w
  unfolding verdict
  table_refused {w} e = first_failed (table_refusals t) w (by_list moves (history t) r room) e

  -- the engine over rooms that agree with a table that passes
  pub over_rooms_lem : tested (table_refusals t) ≡ Ok tt → {rooms : Directory} {readings : List ℕ} → Agree r rooms readings (history t)
      → over_rooms moves r rooms readings room ≡ verdict moves t r room
  unfolding verdict
  over_rooms_lem p agree =
      serves agree (good_days t (table_passed t p)) moves room ∙ sym (first_passed (table_refusals t) (by_list moves (history t) r room) p)

  pub over_table_lem : tested (table_refusals t) ≡ Ok tt → over_table moves t r room ≡ verdict moves t r room
  unfolding over_table
  over_table_lem p = over_rooms_lem p (table_agrees t r (table_passed t p).extract)
