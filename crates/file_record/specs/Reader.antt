-- 01, "Record file, listing, host entry": which files are as laid down, and what they say. MV is of document 02, order 2, and the method of its
-- order 3. A test or a number of a record looks at the bytes that are left from the record's start on; a byte past the end counts as 0.
use Rattle.std.specs.Prelude.{ℕ, zero, suc, ◌+◌, ◌*◌, ◌/◌, Bool, cond, ◌&&◌, List, [], ◌∷◌, ◌++◌, length, get_or, drop, leb, ltb, eqb, Option, Some, None, Result, Ok, Err}
use Rattle.method.specs.declared.Request.{Request}
use Rattle.method.specs.Table.{Table, held_days, size}
use Rattle.file_record.specs.Layout.{Event, Contents}
use Rattle.base_lists.specs.Ascii.{ascii}
use Rattle.file_record.specs.declared.Shape.{Shape}
use Rattle.file_record.specs.declared.Move.{Move}
use Rattle.method.specs.declared.Refusal.{Refusal}
use Rattle.method.specs.declared.Refusal.TheVariants.{BadFile, NoEvent}

-- "numbers are little-endian": the number that stands at a place, `width` bytes wide
unfoldable pub number_at : ℕ → ℕ → List ℕ → ℕ
number_at zero at left = 0
number_at (suc width) at left = get_or left at 0 + 256 * number_at width (suc at) left

-- "Every record opens with a two-byte mark"
unfoldable pub opens_with : List ℕ → List ℕ → Bool
opens_with mark left = eqb (get_or left 0 0) (get_or mark 0 0) && eqb (get_or left 1 0) (get_or mark 1 0)

-- a record of `size` bytes, whole and with its mark
unfoldable pub is_record : ℕ → List ℕ → List ℕ → Bool
is_record size mark left = leb size (length left) && opens_with mark left

-- "One PF (8 bytes: mark, P as 2 bytes, portfolio number as 4)"
abbrev pub pf_length : ℕ
pf_length = 8

unfoldable pub is_pf : List ℕ → Bool
is_pf left = is_record pf_length (ascii "PF") left

-- "MV records (6 bytes: mark, two days)"
abbrev pub mv_length : ℕ
mv_length = 6

unfoldable pub is_mv : List ℕ → Bool
is_mv left = is_record mv_length (ascii "MV") left

-- "DY (390 bytes: mark, day 2, mark byte 1, zero 1, 96 readings of 4)", with so many readings
abbrev pub dy_bytes : ℕ → ℕ
dy_bytes readings = 6 + 4 * readings

abbrev pub dy_length : ℕ → ℕ
dy_length day = dy_bytes (size day)

abbrev pub dy_day : List ℕ → ℕ
dy_day left = number_at 2 2 left

unfoldable pub is_dy : List ℕ → Bool
is_dy left = is_record (dy_length (dy_day left)) (ascii "DY") left && eqb (get_or left 5 0) 0

-- "EV (8 bytes: mark, D 2, s, e, n one each, zero 1)"; order 3: "`EV`'s zero byte becomes the request's method", and any byte is read there
abbrev pub ev_length : ℕ
ev_length = 8

unfoldable pub is_ev : List ℕ → Bool
is_ev left = is_record ev_length (ascii "EV") left

-- how many records stand one after the other, at most so many: `good i` tests the one numbered `i`, of `record_length i` bytes
module _ (good : ℕ → List ℕ → Bool) (record_length : ℕ → ℕ) where
  unfoldable pub run : ℕ → ℕ → List ℕ → ℕ
  run zero i left = 0
  run (suc most) i left = let more = run most (suc i) (drop (record_length i) left) in cond (good i left) (suc more) 0

-- "MV records .. between PF and DY"; "a seventeenth MV is 11 at its start"
unfoldable pub moves_from : List ℕ → ℕ
moves_from left = run (λ i. is_mv) (λ i. mv_length) 16 0 left

unfoldable pub moves_in : List ℕ → ℕ
moves_in file = moves_from (drop pf_length file)

-- where the k-th MV starts, counted from 0; after the last of them, where the DY start
abbrev pub move_start : ℕ → ℕ
move_start k = pf_length + mv_length * k

-- "up to 128 DY .., consecutive days": from day `first` on
unfoldable pub is_dy_of : ℕ → List ℕ → Bool
is_dy_of day left = is_dy left && eqb (dy_day left) day

unfoldable pub days_from : ℕ → List ℕ → ℕ
days_from first left = run is_dy_of dy_length 128 first left

-- "then up to 64 EV"
unfoldable pub events_from : List ℕ → ℕ
events_from left = run (λ i. is_ev) (λ i. ev_length) 64 0 left

-- where the DY start
unfoldable pub file_base : List ℕ → ℕ
file_base file = move_start (moves_in file)

-- the same for a shape that is known
abbrev pub shape_base : Shape → ℕ
shape_base shape = move_start shape.moves

-- the most that it is
abbrev pub most_base : ℕ
most_base = move_start 16

-- the first day; "No DY ..: F counts as 0"
unfoldable pub first_in : List ℕ → ℕ
first_in file = cond (is_dy (drop (file_base file) file)) (dy_day (drop (file_base file) file)) 0

unfoldable pub days_in : List ℕ → ℕ
days_in file = days_from (first_in file) (drop (file_base file) file)

-- where the k-th DY starts, counted from 0, the first day being `first` and its DY starting at `base`: each where the one before it ends
unfoldable pub day_start : ℕ → ℕ → ℕ → ℕ
day_start base first zero = base
day_start base first (suc k) = day_start base first k + dy_length (first + k)

-- where the i-th EV starts
unfoldable pub event_start : List ℕ → ℕ → ℕ
event_start file i = day_start (file_base file) (first_in file) (days_in file) + ev_length * i

unfoldable pub events_in : List ℕ → ℕ
events_in file = events_from (drop (event_start file 0) file)

-- where the records that are as laid down end
unfoldable pub good_end : List ℕ → ℕ
good_end file = event_start file (events_in file)

unfoldable pub shape_in : List ℕ → Shape
shape_in file =
    record {
      participation = number_at 2 2 file;
      portfolio = number_at 4 4 file;
      moves = moves_in file;
      first = first_in file;
      days = days_in file;
      events = events_in file;
    }

-- "Anything else, a cut record or one too many is refused at that record's start; an empty file at 0."
unfoldable pub read_file : List ℕ → Result Shape Refusal
read_file file =
    cond (is_pf file) (cond (eqb (good_end file) (length file)) (Ok (shape_in file)) (Err (BadFile (good_end file)))) (Err (BadFile 0))

-- the numbers of so many MV, two for each
unfoldable pub move_numbers : ℕ → List ℕ → List ℕ
move_numbers zero left = []
move_numbers (suc count) left = number_at 2 2 left ∷ number_at 2 4 left ∷ move_numbers count (drop mv_length left)

-- the list of moves that a file carries
unfoldable pub list_in : List ℕ → List ℕ
list_in file = move_numbers (moves_in file) (drop pf_length file)

-- the mark byte of each of `h` DY, from day `d` on
unfoldable pub marks_from : ℕ → ℕ → List ℕ → List ℕ
marks_from zero d left = []
marks_from (suc h) d left = get_or left 4 0 ∷ marks_from h (suc d) (drop (dy_length d) left)

-- "[count] readings of 4"
unfoldable pub numbers : ℕ → List ℕ → List ℕ
numbers zero left = []
numbers (suc count) left = number_at 4 0 left ∷ numbers count (drop 4 left)

-- the readings of `h` DY, from day `d` on
unfoldable pub readings_from : ℕ → ℕ → List ℕ → List ℕ
readings_from zero d left = []
readings_from (suc h) d left = numbers (size d) (drop 6 left) ++ readings_from h (suc d) (drop (dy_length d) left)

-- the extract that a file holds
unfoldable pub table_in : List ℕ → Table
table_in file =
    record {
      first = first_in file;
      marks = marks_from (days_in file) (first_in file) (drop (file_base file) file);
      readings = readings_from (days_in file) (first_in file) (drop (file_base file) file);
    }

-- "mark, D 2, s, e, n one each", and the method
unfoldable pub event_of : List ℕ → Event
event_of left = record { day = number_at 2 2 left; s = get_or left 4 0; e = get_or left 5 0; n = get_or left 6 0; method = get_or left 7 0 }

unfoldable pub event_list : ℕ → List ℕ → List Event
event_list zero left = []
event_list (suc count) left = event_of left ∷ event_list count (drop ev_length left)

unfoldable pub contents_in : List ℕ → Contents
contents_in file =
    record {
      participation = number_at 2 2 file;
      portfolio = number_at 4 4 file;
      moves = list_in file;
      table = table_in file;
      events = event_list (events_in file) (drop (event_start file 0) file);
    }

-- what reading the file of some contents gives
unfoldable pub shape_of : Contents → Shape
shape_of c =
    record {
      participation = c.participation;
      portfolio = c.portfolio;
      moves = length c.moves / 2;
      first = c.table.first;
      days = held_days c.table;
      events = length c.events;
    }

-- "A request: participation start P; event day D; and three places s, e, n", and the method: the file's P, and an EV
abbrev pub request_of : ℕ → Event → Request
request_of participation v = record { participation = participation; event = v.day; s = v.s; e = v.e; n = v.n; method = v.method }

-- the request at a place, counted from 0
unfoldable pub request_at : List ℕ → ℕ → Request
request_at file place = request_of (number_at 2 2 file) (event_of (drop (event_start file place) file))

-- refusal 12: "no event at that place"
abbrev pub event_at_place : Result Shape Refusal → List ℕ → ℕ → Result Request Refusal
event_at_place (Ok shape) file place = cond (ltb place shape.events) (Ok (request_at file place)) (Err NoEvent)
event_at_place (Err refusal) file place = Err refusal

-- the move at a place, counted from 0
unfoldable pub move_at : List ℕ → ℕ → Move
move_at file place = let left = drop (move_start place) file in record { old = number_at 2 2 left; new = number_at 2 4 left }

abbrev pub move_at_place : Result Shape Refusal → List ℕ → ℕ → Result (Option Move) Refusal
move_at_place (Ok shape) file place = Ok (cond (ltb place shape.moves) (Some (move_at file place)) None)
move_at_place (Err refusal) file place = Err refusal
