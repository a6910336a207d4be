-- That what is told of the overlap suffices: `laws` of `proofs/Laws.antt` proves it.
use Rattle.std.specs.Prelude.{ℕ, ◌≤◌, ◌<◌, ◌≡◌, false, List, None, Ok}
use Rattle.calendar_groups.specs.Holidays.{group}
use Rattle.method.specs.declared.Request.{Request}
use Rattle.method.specs.Table.{Table, Day, History}
use Rattle.method.specs.Method.{is_short}
use Rattle.method.specs.Requested.{method_of}
use Rattle.method.specs.Verdict.{verdict}
use Rattle.method.specs.CutTables.{is_margin}
use Rattle.file_record.specs.declared.Shape.{Shape}
use Rattle.file_record.specs.Reader.{read_file, list_in, request_at}
use Rattle.host_answer.specs.Names.{told}
use Rattle.host_overlap.specs.Overlap.{needed_from, cut_from}

pub record Laws : Type 0 where
  -- days held from there on, or from earlier on, are enough, whatever they hold
  pub enough : (moves : List ℕ) (r : Request) (h : History Day) → h.first ≤ needed_from moves r → is_short (method_of (group moves) r) h ≡ false
  -- so the event is not refused 8
  pub no_margin : (moves : List ℕ) (r : Request) (t : Table) (room : ℕ) → t.first ≤ needed_from moves r → is_margin (verdict moves t r room) ≡ false
  -- cut from the day that is told of the file, its days leave none of its events refused 8, whatever they hold and wherever they end
  pub cut : (file : List ℕ) (shape : Shape) → read_file file ≡ Ok shape → (d : ℕ) → cut_from (read_file file) file ≡ told d → (place : ℕ) → place < shape.events
      → (t : Table) (room : ℕ) → t.first ≤ d → is_margin (verdict (list_in file) t (request_at file place) room) ≡ false
  -- where no day is told, none is refused 8 over any days
  pub uncut : (file : List ℕ) (shape : Shape) → read_file file ≡ Ok shape → cut_from (read_file file) file ≡ None → (place : ℕ) → place < shape.events
      → (t : Table) (room : ℕ) → is_margin (verdict (list_in file) t (request_at file place) room) ≡ false
