-- What the private functions of a file's baseline ask.
use Rattle.std.specs.Prelude.{ℕ, ◌+◌, ◌-◌, ◌≤◌, ◌≡◌, cond, ◌&&◌, List, leb, ltb, Ok}
use Rattle.file_record.specs.declared.Shape.{Shape}
use Rattle.file_record.specs.declared.Span.{Span}
use Rattle.file_record.specs.Reader.{read_file}
use Rattle.file_record.specs.Steps.{span_within}

-- the file is as laid down, and of this shape
pub record LaidDown (file : List ℕ) (shape : Shape) : Type 0 where
  pub accepted : read_file file ≡ Ok shape

-- the days that an event can ask for: D and the 45 days before it, as far as the file holds them; none where it does not hold D
unfoldable pub asked : Shape → ℕ → Span
asked shape event =
    let before = event - shape.first in
    cond (leb shape.first event && ltb before shape.days) (record { start = before - 45; end = before + 1 }) (record { start = 0; end = 0 })

-- the readings of a span of days of such a file are loaded
pub record Loaded (file : List ℕ) (shape : Shape) (span : Span) (rooms : List ℕ) : Type 0 where
  pub laid_down : LaidDown file shape
  pub low : span.start ≤ span.end
  pub high : span.end ≤ shape.days
  pub its_rooms : rooms ≡ (span_within shape span file).readings
