-- What the buffers hold while the events of a file are listed.
use Rattle.std.specs.Prelude.{ℕ, ◌≡◌, List, Ok}
use Rattle.file_record.specs.declared.Shape.{Shape}
use Rattle.listing_whole.specs.declared.Loaded.{Loaded}
use Rattle.file_record.specs.Reader.{read_file, list_in, table_in}

-- the file is as laid down, the first day, marks and readings are those of its table, and the moves are its list
pub record Holds (file : List ℕ) (shape : Shape) (marks readings moves : List ℕ) : Type 0 where
  pub accepted : read_file file ≡ Ok shape
  pub its_marks : marks ≡ (table_in file).marks
  pub its_readings : readings ≡ (table_in file).readings
  pub its_moves : moves ≡ list_in file

abbrev pub IsLoaded : Loaded → Type 0
IsLoaded l = Holds l.file.now l.shape l.marks.now l.readings.now l.moves.now
