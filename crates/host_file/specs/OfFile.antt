-- What a caller written in C is told of a file, and of a move and an event in it, by include/honeyplank.h.
use Rattle.std.specs.Prelude.{ℕ, List, [], ◌∷◌, ℤ, Option, Some, None, Result, Ok, Err}
use Rattle.method.specs.declared.Request.{Request}
use Rattle.method.specs.declared.Refusal.{Refusal}
use Rattle.file_record.specs.declared.Shape.{Shape}
use Rattle.file_record.specs.declared.Move.{Move}
use Rattle.host_answer.specs.Names.{told, by_name, refusal_row, row_from}

-- from HP_FILE_PARTICIPATION on, which is 12: P, the portfolio number, F, h and the number of events; then four names of an event, which are not of a
-- file, and HP_FILE_MOVES, which is 21: the number of moves
unfoldable pub shape_row : Shape → List (Option ℤ)
shape_row shape =
    row_from 12
    (told shape.participation ∷ told shape.portfolio ∷ told shape.first ∷ told shape.days ∷ told shape.events ∷
    None ∷ None ∷ None ∷ None ∷ told shape.moves ∷ [])

abbrev pub file_row : Result Shape Refusal → List (Option ℤ)
file_row (Ok shape) = shape_row shape
file_row (Err w) = refusal_row w

-- what a file tells by name; refused, it is 11: "file not as laid down"
unfoldable pub file_told : Result Shape Refusal → ℕ → Option ℤ
file_told read name = by_name (file_row read) name

-- from HP_MOVE_FROM on, which is 22: the holiday that is moved, and the day that replaces it
unfoldable pub days_row : ℕ → ℕ → List (Option ℤ)
days_row old new = row_from 22 (told old ∷ told new ∷ [])

abbrev pub move_row : Result (Option Move) Refusal → List (Option ℤ)
move_row (Ok (Some m)) = days_row m.old m.new
move_row (Ok None) = told 0 ∷ []
move_row (Err w) = refusal_row w

-- what a move tells by name; past the last there is nothing to tell but that the file is not refused
unfoldable pub move_told : Result (Option Move) Refusal → ℕ → Option ℤ
move_told at name = by_name (move_row at) name

-- from HP_EVENT_DAY on, which is 17: D, s, e and n; then the name of a file's moves and the two of a move, which are not of an event, and
-- HP_EVENT_METHOD, which is 24: the method
unfoldable pub request_row : Request → List (Option ℤ)
request_row r = row_from 17 (told r.event ∷ told r.s ∷ told r.e ∷ told r.n ∷ None ∷ None ∷ None ∷ told r.method ∷ [])

abbrev pub event_row : Result Request Refusal → List (Option ℤ)
event_row (Ok request) = request_row request
event_row (Err w) = refusal_row w

-- what an event tells by name; refused, it is 11, or 12: "no event at that place"
unfoldable pub event_told : Result Request Refusal → ℕ → Option ℤ
event_told at name = by_name (event_row at) name
