-- What loading a file's days into lent buffers says, and what it leaves in them, for a shape that is known; and what passing them says.
use Rattle.std.specs.Prelude.{ℕ, ◌≤◌, Bool, cond, ◌&&◌, List, length, leb}
use Rattle.base_lists.specs.Lists.{leading}
use Rattle.method.specs.Table.{held_days, good_reading}
use Rattle.file_record.specs.declared.Shape.{Shape}
use Rattle.file_record.specs.declared.Span.{Span}
use Rattle.file_record.specs.Reader.{shape_base, day_start}
use Rattle.file_record.specs.Steps.{table_within, span_within}

-- the span is one of days of this shape, and so many bytes reach to the end of its days
unfoldable pub stands_within : Shape → Span → ℕ → Bool
stands_within shape span size =
    leb span.start span.end && (leb span.end shape.days && leb (day_start (shape_base shape) shape.first shape.days) size)

-- and the buffers have room for the marks of all days and for the readings of the span
unfoldable pub fits_within : Shape → Span → List ℕ → ℕ → ℕ → Bool
fits_within shape span file marks readings =
    stands_within shape span (length file)
    && (leb (held_days (table_within shape file)) marks && leb (length (span_within shape span file).readings) readings)

-- the place of the first bad reading of a span, among its own; their number where there is none, and 0 where the span does not stand in the file
unfoldable pub bad_within : Shape → Span → List ℕ → ℕ
bad_within shape span file = cond (stands_within shape span (length file)) (leading good_reading (span_within shape span file).readings) 0

-- what the private functions ask: the span stands in the file
pub record Stands (file : List ℕ) (shape : Shape) (span : Span) : Type 0 where
  pub low : span.start ≤ span.end
  pub high : span.end ≤ shape.days
  pub long : day_start (shape_base shape) shape.first shape.days ≤ length file
