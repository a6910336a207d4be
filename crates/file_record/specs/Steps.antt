-- What a file of a known shape holds, whatever its bytes.
use Rattle.std.specs.Prelude.{ℕ, ◌+◌, ◌-◌, ◌*◌, Bool, cond, ◌&&◌, List, ◌++◌, length, drop, leb, ltb, Option, Some, None, Result, Ok, Err}
use Rattle.method.specs.Table.{Table}
use Rattle.file_record.specs.declared.Shape.{Shape}
use Rattle.file_record.specs.declared.Span.{Span}
use Rattle.file_record.specs.Reader.{pf_length, mv_length, move_start, move_numbers, move_at}
use Rattle.file_record.specs.Reader.{day_start, ev_length, event_of, marks_from, readings_from, request_of, shape_base}
use Rattle.file_record.specs.declared.Move.{Move}
use Rattle.method.specs.declared.Request.{Request}
use Rattle.method.specs.declared.Refusal.{Refusal}
use Rattle.method.specs.declared.Refusal.TheVariants.{NoEvent}

-- what a lent buffer holds after values were put first into it, where they fit: the rest is kept, and where they do not fit all of it is
abbrev pub filled_if : Bool → List ℕ → List ℕ → List ℕ
filled_if fits values buffer = cond fits (values ++ drop (length values) buffer) buffer

-- the list of moves that a file of this shape carries
unfoldable pub list_within : Shape → List ℕ → List ℕ
list_within shape file = move_numbers shape.moves (drop pf_length file)

-- the move at a place of it: none, too, where the bytes end before it does
unfoldable pub move_within : Shape → List ℕ → ℕ → Option Move
move_within shape file place = cond (ltb place shape.moves && leb (move_start place + mv_length) (length file)) (Some (move_at file place)) None

-- the extract that a file of this shape holds
unfoldable pub table_within : Shape → List ℕ → Table
table_within shape file =
    record {
      first = shape.first;
      marks = marks_from shape.days shape.first (drop (shape_base shape) file);
      readings = readings_from shape.days shape.first (drop (shape_base shape) file);
    }

-- the days of a span of it, as an extract of their own
unfoldable pub span_within : Shape → Span → List ℕ → Table
span_within shape span file =
    let first = shape.first + span.start in
    let days = span.end - span.start in
    let left = drop (day_start (shape_base shape) shape.first span.start) file in
    record { first = first; marks = marks_from days first left; readings = readings_from days first left }

-- the event at a place of it: none, too, where the bytes end before it does
unfoldable pub event_within : Shape → List ℕ → ℕ → Result Request Refusal
event_within shape file place =
    let at = day_start (shape_base shape) shape.first shape.days + ev_length * place in
    cond (ltb place shape.events && leb (at + ev_length) (length file)) (Ok (request_of shape.participation (event_of (drop at file)))) (Err NoEvent)
