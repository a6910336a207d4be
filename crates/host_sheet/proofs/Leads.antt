-- What is told of an answered event leads to its answer.
use Prim.Native.Nat.{ℕ, ◌/◌, ◌≤◌, ◌<◌}
use mathlib.Core.Path.{◌≡◌, refl, sym, ap, ◌∙◌}
use mathlib.Core.Bool.{true, false, not, ◌||◌}
use mathlib.Core.List.{List}
use mathlib.Core.Logic.{⊎_elim}
use native.Mathlib.Omega.{arith}
use borrow.Author.Tests.{not-true, le-leb, lt-ltb}
use lib.Dec.{eqb}
use lib.IntN.{ℤ}
use Rattle.std.specs.Prelude.{Option, Result, Ok, Err}
use Rattle.base_lists.proofs.Bools.{bool_cases, and_left, and_right}
use Rattle.calendar_groups.specs.declared.Group.{Group}
use Rattle.calendar_groups.specs.Holidays.{good_moves, group}
use Rattle.method.specs.declared.Request.{Request}
use Rattle.method.specs.Table.{Table, Day, History, most_quarters, history}
use Rattle.method.specs.Ruler.{ruler_end}
use Rattle.method.specs.Method.{is_short}
use Rattle.method.specs.Adjustment.{is_average}
use Rattle.method.specs.Requested.{method_of}
use Rattle.method.specs.Verdict.{Answer, answered, table_refusals, request_refusals, closing, methodology, by_list, verdict}
use Rattle.method.specs.Method.{outcome}
use Rattle.method.proofs.Ruler.{day_most}
use Rattle.method.proofs.Replies.{never_both}
use Rattle.method_laws.proofs.ByList.{by_bad, by_answered}
use Rattle.method_working.specs.Working.{chooses, ends, adjusts, answers}
use Rattle.method_working.specs.Sheet.{sheet_of}
use Rattle.method_working.proofs.Leads.{leads, has_baseline}
use Rattle.engine_refusals.specs.Steps.{tested}
use Rattle.engine_refusals.proofs.FirstRefusal.{request_passed, good_request_lem, fits}
use Rattle.engine_refusals.proofs.Replies.{answered_past}
use Rattle.method.specs.declared.Refusal.{Refusal}
use Rattle.file_record.specs.Reader.{read_file, list_in, table_in, event_at_place}
use Rattle.file_baseline.specs.Reply.{reply_to, file_reply}
use Rattle.host_answer.specs.Names.{told, by_name}
use Rattle.host_working.specs.Told.{window_numbers, adjustment_numbers, day_numbers, quarter_numbers, working_row}
use Rattle.host_rooms.proofs.Rows.{window_told, adjustment_told, day_told, quarter_told}
use Rattle.host_table.specs.OverTable.{table_sheet}
use Rattle.host_table.proofs.Tests.{all_passed}
use Rattle.host_sheet.specs.Sheets.{sheet_at, file_sheet}
use Rattle.host_sheet.specs.Leads.{told_at, ToldSheet, FileLeads}

-- ---- the numbers of a working that has a baseline
module _ (group : ℕ → Group) (r : Request) (h : History Day) (yes : answers group r h ≡ true) where
  some : chooses group r h ≡ true
  unfolding answers
  some = and_left (chooses group r h) (is_average r || not (eqb (ends r h) 0)) yes

  enough : is_short (method_of group r) h ≡ false
  unfolding chooses
  enough = not-true (is_short (method_of group r) h) (and_left (not (is_short (method_of group r) h)) _ some)

  pub passed_told : (at : ℕ) → by_name (working_row group r h at) 28 ≡ told (sheet_of group r h).passed
  unfolding window_numbers by_name sheet_of
  passed_told at = sym (window_told group r h at 28 (omega arith) (omega arith)) ∙ rw enough

  pub taken_told : (at : ℕ) → by_name (working_row group r h at) 29 ≡ told (sheet_of group r h).taken
  unfolding window_numbers by_name sheet_of
  taken_told at = sym (window_told group r h at 29 (omega arith) (omega arith)) ∙ rw enough

  module _ (high : is_average r ≡ false) where
    adjusted : adjusts group r h ≡ true
    unfolding adjusts answers
    adjusted = rw (some, high) (and_right (chooses group r h) (not (eqb (ends r h) 0)) (rw high at yes))

    pub own_told : (at : ℕ) → by_name (working_row group r h at) 31 ≡ told (sheet_of group r h).own
    unfolding adjustment_numbers by_name sheet_of
    own_told at = sym (adjustment_told group r h at 31 (omega arith) (omega arith)) ∙ rw adjusted

    pub usual_told : (at : ℕ) → by_name (working_row group r h at) 32 ≡ told (sheet_of group r h).usual
    unfolding adjustment_numbers by_name sheet_of
    usual_told at = sym (adjustment_told group r h at 32 (omega arith) (omega arith)) ∙ rw adjusted

  pub rank_told_lem : (back : ℕ) → 1 ≤ back → back ≤ 45 → by_name (working_row group r h back) 37 ≡ told ((sheet_of group r h).rank back)
  unfolding day_numbers by_name sheet_of
  rank_told_lem back a b = sym (day_told group r h back 37 (omega arith) (omega arith)) ∙ rw (le-leb 1 back a, le-leb back 45 b, enough)

  pub sum_told : (t : ℕ) → t < ruler_end r.event → by_name (working_row group r h t) 39 ≡ told ((sheet_of group r h).sum t)
  unfolding quarter_numbers by_name sheet_of
  sum_told t o = sym (quarter_told group r h t 39 (omega arith) (omega arith)) ∙ rw (some, lt-ltb t (ruler_end r.event) o)

-- ---- an answer over a table means that its working is told
module _ (moves : List ℕ) (t : Table) (r : Request) (room : ℕ) {a : Answer} (e : verdict moves t r room ≡ answered a) where
  past_table : (tested (table_refusals t) ≡ Ok tt) × (by_list moves (history t) r room ≡ answered a)
  unfolding verdict
  past_table = answered_past (table_refusals t) (by_list moves (history t) r room) e

  good_list : good_moves moves ≡ true
  good_list =
      ⊎_elim (λ (g : good_moves moves ≡ true). g)
      (λ (b : good_moves moves ≡ false). absurd (never_both (by_bad moves (history t) r room b) past_table.1)) (bool_cases (good_moves moves))

  pub by_method : methodology (group moves) (history t) r room ≡ answered a
  by_method = by_answered moves (history t) r room past_table.1

  past_request : tested (request_refusals (history t) r room) ≡ Ok tt
  unfolding methodology
  past_request = (answered_past (request_refusals (history t) r room) (closing (outcome (method_of (group moves) r) (history t))) by_method).0

  -- with room for any event the request passes too
  past_any : tested (request_refusals (history t) r most_quarters) ≡ Ok tt
  past_any =
      let f = request_passed (history t) r room past_request in
      let g = good_request_lem r f.request in
      sym (fits (history t) r most_quarters f.request f.holds f.takes_part (omega (arith, g.from, g.up_to, day_most r.event)))

  pub row_told : (at : ℕ) → table_sheet moves t r at ≡ working_row (group moves) r (history t) at
  row_told at = all_passed moves t r at 0 past_table.0 good_list past_any

-- ---- of a file
module _ (file : List ℕ) (place room : ℕ) (a : Answer) where
  there : (v : Result Request Refusal) → event_at_place (read_file file) file place ≡ v → reply_to v (list_in file) (table_in file) room ≡ answered a
      → (r : Request) × (event_at_place (read_file file) file place ≡ Ok r) × ToldSheet file place r a
  there (Err w) e k = absurd (never_both refl k)
  there (Ok r) e k =
      let moves = list_in file in
      let t = table_in file in
      let m = by_method moves t r (room / 4) k in
      let yes = has_baseline (group moves) (history t) r (room / 4) a m in
      let shown : (at name : ℕ) → told_at file place at name ≡ by_name (working_row (group moves) r (history t) at) name =
      λ at name. ap (λ (l : List (Option ℤ)). by_name l name) (sheet_there at e ∙ row_told moves t r (room / 4) k at) in (
        r,
        e,
        record {
          sheet = sheet_of (group moves) r (history t);
          rank = λ back x y. shown back 37 ∙ rank_told_lem (group moves) r (history t) yes back x y;
          passed = λ at. shown at 28 ∙ passed_told (group moves) r (history t) yes at;
          taken = λ at. shown at 29 ∙ taken_told (group moves) r (history t) yes at;
          own = λ high at. shown at 31 ∙ own_told (group moves) r (history t) yes high at;
          usual = λ high at. shown at 32 ∙ usual_told (group moves) r (history t) yes high at;
          sum = λ t' o. shown t' 39 ∙ sum_told (group moves) r (history t) yes t' o;
          leads = leads (group moves) (history t) r (room / 4) a m;
        },
      )
    where
      sheet_there : (at : ℕ) → event_at_place (read_file file) file place ≡ Ok r → file_sheet file place at ≡ table_sheet (list_in file) (table_in file) r at
      sheet_there at e = unfold file_sheet in ap (λ (v : Result Request Refusal). sheet_at v (list_in file) (table_in file) at) e

pub file_leads : FileLeads
unfolding file_reply
file_leads file place room a e = there file place room a (event_at_place (read_file file) file place) refl e
