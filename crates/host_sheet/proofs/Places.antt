-- What is told of the event at a place, by what is found there.
use Prim.Native.Nat.{ℕ}
use mathlib.Core.Path.{◌≡◌, sym, ap, ◌∙◌}
use mathlib.Core.List.{List}
use lib.IntN.{ℤ}
use Rattle.std.specs.Prelude.{Option, Result, Ok, Err}
use Rattle.method.specs.declared.Refusal.{Refusal}
use Rattle.method.specs.declared.Request.{Request}
use Rattle.file_record.specs.declared.Shape.{Shape}
use Rattle.file_record.specs.Reader.{read_file, list_in, table_in, event_at_place}
use Rattle.file_record.specs.Steps.{event_within}
use Rattle.file_record.proofs.Events.{within_is}
use Rattle.host_answer.specs.Names.{by_name}
use Rattle.host_sheet.specs.Sheets.{sheet_at, file_sheet}

module _ (file : List ℕ) (place at name : ℕ) {x : Option ℤ} where
  found : {found : Result Request Refusal} → event_at_place (read_file file) file place ≡ found → x ≡ by_name (sheet_at found (list_in file) (table_in file) at) name
      → x ≡ by_name (file_sheet file place at) name
  unfolding file_sheet
  found e told = told ∙ ap (λ (v : Result Request Refusal). by_name (sheet_at v (list_in file) (table_in file) at) name) (sym e)

  pub refused_there : {read : Result Shape Refusal} {w : Refusal} → read ≡ read_file file → read ≡ Err w
      → x ≡ by_name (sheet_at (Err w) (list_in file) (table_in file) at) name → x ≡ by_name (file_sheet file place at) name
  refused_there e k = found (ap (λ (r : Result Shape Refusal). event_at_place r file place) (sym e ∙ k))

  pub event_there : {shape : Shape} {v w : Result Request Refusal} → read_file file ≡ Ok shape → v ≡ event_within shape file place → v ≡ w
      → x ≡ by_name (sheet_at w (list_in file) (table_in file) at) name → x ≡ by_name (file_sheet file place at) name
  event_there r e k = found (sym (within_is file place r) ∙ sym e ∙ k)
