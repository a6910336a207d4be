-- What holds of buffers that a file was loaded into.
use Prim.Native.Nat.{ℕ}
use mathlib.Core.Path.{◌≡◌, sym, ◌∙◌}
use mathlib.Core.Bool.{Bool, true}
use mathlib.Core.List.{List}
use lib.ListN.{length, take, drop}
use lib.Seq.{take_at}
use Rattle.file_record.specs.declared.Shape.{Shape}
use Rattle.file_record.specs.declared.Span.{Span}
use Rattle.file_record.specs.Steps.{filled_if, table_within, span_within}
use Rattle.file_record.proofs.Lengths.{marks_within}
use Rattle.file_record.proofs.Spans.{span_readings_length}
use Rattle.file_loading.proofs.Loading.{place}

-- the first places of the buffers are the marks of a shape, and the readings of a span of its days
pub record WithinBuffers (shape : Shape) (s : Span) (file : List ℕ) (count : ℕ) (marks readings : List ℕ) : Type 0 where
  pub marks_size : length (take shape.days marks) ≡ shape.days
  pub readings_size : length (take count readings) ≡ count
  pub its_marks : take shape.days marks ≡ (table_within shape file).marks
  pub its_readings : take count readings ≡ (span_within shape s file).readings

pub within_buffers : (shape : Shape) (s : Span) (file : List ℕ) {fits : Bool} {count : ℕ} {marks readings : List ℕ} (marks₀ readings₀ : List ℕ)
    → marks ≡ filled_if fits (table_within shape file).marks marks₀ → readings ≡ filled_if fits (span_within shape s file).readings readings₀ → fits ≡ true
    → count ≡ place shape s s.end → WithinBuffers shape s file count marks readings
within_buffers shape s file {fits} {count} {marks} {readings} marks₀ readings₀ x y t n =
    record {
      marks_size = rw first_marks (marks_within shape file);
      readings_size = rw first_readings (span_readings_length shape file s ∙ sym n);
      its_marks = first_marks;
      its_readings = first_readings;
    }
  where
    first_marks : take shape.days marks ≡ (table_within shape file).marks
    first_marks = rw (x, t) (take_at (table_within shape file).marks (drop (length (table_within shape file).marks) marks₀) shape.days (marks_within shape file))

    first_readings : take count readings ≡ (span_within shape s file).readings
    first_readings =
        rw (y, t)
        (take_at (span_within shape s file).readings (drop (length (span_within shape s file).readings) readings₀) count (span_readings_length shape file s ∙ sym n))
