-- What hp_working tells of an answered event leads to its answer: `file_leads` of `proofs/Leads.antt` proves it.
use Rattle.std.specs.Prelude.{ℕ, ◌≤◌, ◌<◌, ◌≡◌, false, List, ℤ, Option, Ok}
use Rattle.method.specs.declared.Request.{Request}
use Rattle.method.specs.Ruler.{ruler_end}
use Rattle.method.specs.Adjustment.{is_average}
use Rattle.method.specs.Verdict.{Answer, answered}
use Rattle.method_working.specs.Sheet.{Sheet, Leads}
use Rattle.file_record.specs.Reader.{read_file, event_at_place}
use Rattle.file_baseline.specs.Reply.{file_reply}
use Rattle.host_answer.specs.Names.{told, by_name}
use Rattle.host_sheet.specs.Sheets.{file_sheet}

-- what is told of the event at a place of a file, by name; `at` is a day before the event, or a ruler quarter
abbrev pub told_at : List ℕ → ℕ → ℕ → ℕ → Option ℤ
told_at file place at name = by_name (file_sheet file place at) name

-- a sheet of which every number is told, and of which a pencil makes the answer
pub record ToldSheet (file : List ℕ) (place : ℕ) (r : Request) (a : Answer) : Type 0 where
  pub sheet : Sheet
  -- HP_BACK_RANK, HP_WORKING_PASSED, HP_WORKING_TAKEN, HP_WORKING_A, HP_WORKING_B and HP_QUARTER_S
  pub rank : (back : ℕ) → 1 ≤ back → back ≤ 45 → told_at file place back 37 ≡ told (sheet.rank back)
  pub passed : (at : ℕ) → told_at file place at 28 ≡ told sheet.passed
  pub taken : (at : ℕ) → told_at file place at 29 ≡ told sheet.taken
  pub own : is_average r ≡ false → (at : ℕ) → told_at file place at 31 ≡ told sheet.own
  pub usual : is_average r ≡ false → (at : ℕ) → told_at file place at 32 ≡ told sheet.usual
  pub sum : (t : ℕ) → t < ruler_end r.event → told_at file place t 39 ≡ told (sheet.sum t)
  pub leads : Leads r sheet a

-- of every event of every file that is answered
abbrev pub FileLeads : Type 0
FileLeads =
    (file : List ℕ) (place room : ℕ) (a : Answer) → file_reply file place room ≡ answered a
    → (r : Request) × (event_at_place (read_file file) file place ≡ Ok r) × ToldSheet file place r a
