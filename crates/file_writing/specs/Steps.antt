-- What writing a whole file asks of the function that puts its records.
use Rattle.std.specs.Prelude.{ℕ, ◌+◌, ◌*◌, ◌/◌, ◌^◌, ◌≤◌, ◌≡◌, true, List, length}
use Rattle.base_lists.specs.Lists.{all}
use Rattle.method.specs.Table.{offset}
use Rattle.file_record.specs.declared.Shape.{Shape}
use Rattle.file_record.specs.Layout.{fits_event}
use Rattle.file_record.specs.Reader.{ev_length, shape_base, day_start}
use Rattle.file_record.specs.Writer.{Lent, lent, events_of}

-- what is lent, by the shape of its file
abbrev pub lent_by : Shape → List ℕ → List ℕ → List ℕ → List ℕ → Lent
lent_by shape marks readings moves numbers = lent shape.participation shape.portfolio shape.first marks readings moves numbers

-- the lists are of this shape, and the buffer has as many bytes as the file
pub record Shaped (shape : Shape) (start : ℕ) (marks readings moves numbers out : List ℕ) : Type 0 where
  pub pairs : shape.moves ≡ length moves / 2
  pub few : length marks ≤ 128
  pub last : shape.first + length marks ≤ 256 ^ 2
  pub size : length readings ≡ offset shape.first (length marks)
  pub fields : all fits_event (events_of numbers) ≡ true
  pub events : start ≡ day_start (shape_base shape) shape.first (length marks)
  pub whole : length out ≡ start + ev_length * (length numbers / 5)
