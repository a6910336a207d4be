-- Which refusal is told, or the working, by what the tests of the code say.
use Prim.Native.Nat.{ℕ}
use mathlib.Core.Path.{◌≡◌, sym, ap, ◌∙◌}
use mathlib.Core.Bool.{Bool, true, false}
use mathlib.Core.List.{List, ◌++◌}
use lib.IntN.{ℤ}
use Rattle.std.specs.Prelude.{Option, Ok, Err}
use Rattle.calendar_groups.specs.Holidays.{good_moves, group}
use Rattle.method.specs.declared.Request.{Request}
use Rattle.method.specs.declared.Refusal.{Refusal}
use Rattle.method.specs.declared.Refusal.TheVariants.{BadMoves}
use Rattle.method.specs.Table.{Table, most_quarters, history}
use Rattle.method.specs.Verdict.{table_refusals, list_refusals, request_refusals}
use Rattle.engine_rooms.specs.declared.Directory.{Directory}
use Rattle.engine_rooms.specs.Rooms.{room_history}
use Rattle.engine_rooms.specs.Agree.{Agree}
use Rattle.engine_choice.proofs.Rooms.{rooms-held}
use Rattle.engine_refusals.specs.Steps.{tested}
use Rattle.engine_refusals.proofs.FirstRefusal.{request_passed}
use Rattle.table_directory.specs.Steps.{directory_of}
use Rattle.table_directory.proofs.Rooms.{table_agrees}
use Rattle.table_refusals.proofs.FirstRefusal.{table_passed}
use Rattle.host_answer.specs.Names.{by_name, refusal_row, row_after}
use Rattle.host_answer.proofs.Refused.{row_append, row_failed, row_passed}
use Rattle.host_working.specs.Told.{working_row}
use Rattle.host_table.specs.OverTable.{table_sheet}
use Rattle.host_table.proofs.Agreeing.{same_working}

module _ (moves : List ℕ) (t : Table) (r : Request) (at name : ℕ) where
  abbrev asked : List (Bool × Refusal)
  asked = request_refusals (history t) r most_quarters

  abbrev row : List (Option ℤ)
  row = working_row (group moves) r (history t) at

  in_order : table_sheet moves t r at ≡ row_after (table_refusals t) (row_after (list_refusals moves) (row_after asked row))
  unfolding table_sheet
  in_order =
      row_append (table_refusals t ++ list_refusals moves) asked row ∙ row_append (table_refusals t) (list_refusals moves) (row_after asked row)

  pub table_told : {w : Refusal} {x : Option ℤ} → tested (table_refusals t) ≡ Err w → x ≡ by_name (refusal_row w) name → x ≡ by_name (table_sheet moves t r at) name
  table_told {w} e told =
      told ∙ ap (λ l. by_name l name) (sym (in_order ∙ row_failed (table_refusals t) w (row_after (list_refusals moves) (row_after asked row)) e))

  module _ (passed : tested (table_refusals t) ≡ Ok tt) where
    pub list_told : {x : Option ℤ} → good_moves moves ≡ false → x ≡ by_name (refusal_row BadMoves) name → x ≡ by_name (table_sheet moves t r at) name
    list_told bad told = told ∙ ap (λ l. by_name l name) (sym (in_order ∙ row_passed (table_refusals t) _ passed ∙ (unfold list_refusals row_after in rw bad)))

    module _ (good : good_moves moves ≡ true) where
      after_list : table_sheet moves t r at ≡ row_after asked row
      after_list = in_order ∙ row_passed (table_refusals t) _ passed ∙ (unfold list_refusals row_after in rw good)

      -- no refusal applies: the row is that of the working
      pub all_passed : tested asked ≡ Ok tt → table_sheet moves t r at ≡ row
      all_passed e = after_list ∙ row_passed asked row e

      abbrev rooms : Directory
      rooms = directory_of t r.event

      agree : Agree r rooms t.readings (history t)
      agree = table_agrees t r (table_passed t passed).extract

      -- the same tests over the table's rooms
      asked-rooms : request_refusals (room_history r rooms t.readings) r most_quarters ≡ asked
      unfolding request_refusals
      asked-rooms = rw (rooms-held (group moves) agree)

      pub request_told : {w : Refusal} {x : Option ℤ} → tested (request_refusals (room_history r rooms t.readings) r most_quarters) ≡ Err w
          → x ≡ by_name (refusal_row w) name → x ≡ by_name (table_sheet moves t r at) name
      request_told {w} e told = told ∙ ap (λ l. by_name l name) (sym (after_list ∙ row_failed asked w row (rw asked-rooms at e)))

      pub working_told : {x : Option ℤ} → tested (request_refusals (room_history r rooms t.readings) r most_quarters) ≡ Ok tt
          → x ≡ by_name (working_row (group moves) r (room_history r rooms t.readings) at) name → x ≡ by_name (table_sheet moves t r at) name
      working_told e told =
          let p : tested asked ≡ Ok tt = rw asked-rooms at e in
          told ∙ ap (λ l. by_name l name)
          (same_working (group moves) agree (request_passed (history t) r most_quarters p).holds at ∙ sym (after_list ∙ row_passed asked row p))
