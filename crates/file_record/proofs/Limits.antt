-- What a file says its bytes can hold, and what is written is bytes.
use Prim.Native.Nat.{ℕ, zero, suc, ◌+◌, ◌^◌, ◌<◌, ◌≤◌}
use mathlib.Core.Path.{◌≡◌, refl, sym, ◌∙◌, ap}
use mathlib.Core.Bool.{true, false, cond}
use mathlib.Core.List.{List, [], ◌∷◌, ◌++◌}
use mathlib.Core.Logic.{⊎_elim}
use native.Mathlib.Omega.{arith}
use borrow.Author.Tests.{lt-ltb}
use lib.ListN.{length, take, drop, get_or}
use Rattle.base_lists.specs.Lists.{all}
use Rattle.base_lists.proofs.Bools.{both, bool_cases}
use Rattle.method.specs.Table.{size}
use Rattle.file_record.specs.Layout.{Below, pf_record, mv_record, dy_record, Event, ev_record, mv_records, dy_records, ev_records, Contents, file_of, Fits, fits_event}
use Rattle.file_record.specs.declared.Shape.{Shape}
use Rattle.file_record.specs.Reader.{pf_length, mv_length, moves_in, move_numbers, list_in}
use Rattle.file_record.specs.Reader.{number_at, is_dy, ev_length, is_dy_of, dy_length, dy_day, days_from, file_base, first_in, days_in, day_start, event_start, events_in, shape_in, read_file}
use Rattle.file_record.specs.Reader.{marks_from, numbers, readings_from, table_in, event_of, event_list, contents_in}
use Rattle.file_record.specs.Laws.{Accepted}
use Rattle.file_record.proofs.Bytes.{below_drop, below_append, below_cons, below_none, bytes_below, number_below, reading_bytes_below, numbers_below}
use Rattle.file_record.proofs.Records.{day_named, named_day, event_fields}
use Rattle.file_record.proofs.Runs.{run_more}
use Rattle.file_record.proofs.Files.{shape_fits}
use Rattle.file_record.proofs.Lengths.{move_numbers-length, marks_length, readings_length}
use Rattle.file_record.proofs.RefusedWhere.{each_day_in}
use Rattle.base_bytes.specs.Bytes.{bytes, reading_bytes}
use Rattle.std.specs.Prelude.{Ok}

marks_below : (h d : ℕ) (left : List ℕ) → Below 256 left → Below 256 (marks_from h d left)
unfolding marks_from
marks_below zero d left b = below_none (omega arith)
marks_below (suc h) d left b =
    below_cons (get_or left 4 0) (marks_from h (suc d) (drop (dy_length d) left)) (b 4) (marks_below h (suc d) (drop (dy_length d) left) (below_drop (dy_length d) left b))

moves_below : (count : ℕ) (left : List ℕ) → Below 256 left → Below (256 ^ 2) (move_numbers count left)
unfolding move_numbers
moves_below zero left b = below_none (omega arith)
moves_below (suc count) left b =
    below_cons (number_at 2 2 left) (number_at 2 4 left ∷ move_numbers count (drop mv_length left)) (number_below 2 2 left b)
    (below_cons (number_at 2 4 left) (move_numbers count (drop mv_length left)) (number_below 2 4 left b)
    (moves_below count (drop mv_length left) (below_drop mv_length left b)))

readings_below : (h d : ℕ) (left : List ℕ) → Below 256 left → Below (256 ^ 4) (readings_from h d left)
unfolding readings_from
readings_below zero d left b = below_none (omega arith)
readings_below (suc h) d left b =
    below_append (numbers (size d) (drop 6 left)) (readings_from h (suc d) (drop (dy_length d) left)) (numbers_below (size d) (drop 6 left) (below_drop 6 left b))
    (readings_below h (suc d) (drop (dy_length d) left) (below_drop (dy_length d) left b))

events_fit : (count : ℕ) (left : List ℕ) → Below 256 left → all fits_event (event_list count left) ≡ true
unfolding all event_list fits_event event_of
events_fit zero left b = refl
events_fit (suc count) left b =
    rw (lt-ltb (number_at 2 2 left) 65536 (number_below 2 2 left b), lt-ltb (get_or left 4 0) 256 (b 4), lt-ltb (get_or left 5 0) 256 (b 5), lt-ltb (get_or left 6 0) 256 (b 6), lt-ltb (get_or left 7 0) 256 (b 7))
    (events_fit count (drop ev_length left) (below_drop ev_length left b))

events_count : (count : ℕ) (left : List ℕ) → length (event_list count left) ≡ count
unfolding event_list
events_count zero left = refl
events_count (suc count) left = ap suc (events_count count (drop ev_length left))

-- a first day is named by a DY
first_held : (file : List ℕ) → days_in file ≡ 0 → first_in file ≡ 0
unfolding days_in days_from first_in
first_held file z = ⊎_elim named unnamed (bool_cases (is_dy (drop (file_base file) file)))
  where
    unnamed : is_dy (drop (file_base file) file) ≡ false → cond (is_dy (drop (file_base file) file)) (dy_day (drop (file_base file) file)) 0 ≡ 0
    unnamed t = rw t

    named : is_dy (drop (file_base file) file) ≡ true → cond (is_dy (drop (file_base file) file)) (dy_day (drop (file_base file) file)) 0 ≡ 0
    named t =
        let left = drop (file_base file) file in
        absurd (omega (arith, (rw t at z), run_more is_dy_of dy_length 127 (dy_day left) left (named_day left ∙ t)))

last_below : (file : List ℕ) → Below 256 file → first_in file + days_in file ≤ 256 ^ 2
last_below file b = go (days_in file) refl
  where
    go : (h : ℕ) → days_in file ≡ h → first_in file + h ≤ 256 ^ 2
    go zero e = omega (arith, first_held file e)
    go (suc k) e =
        let o : k < days_in file = omega arith in
        let at = drop (day_start (file_base file) (first_in file) k) file in
        omega (
          arith,
          day_named (first_in file + k) at (each_day_in file k o),
          number_below 2 2 at (below_drop (day_start (file_base file) (first_in file) k) file b),
        )

pub says_what_fits : (file : List ℕ) (shape : Shape) → Below 256 file → read_file file ≡ Ok shape → Fits (contents_in file)
unfolding contents_in list_in table_in shape_in
says_what_fits file shape b r =
    let q : Accepted file shape = shape_fits file shape r in
    let moves : shape.moves ≡ moves_in file = rw q.is_shape in
    let listed = move_numbers-length (moves_in file) (drop pf_length file) in
    let days : shape.days ≡ days_in file = rw q.is_shape in
    let events : shape.events ≡ events_in file = rw q.is_shape in
    let held = marks_length (days_in file) (first_in file) (drop (file_base file) file) in
    record {
      participation = number_below 2 2 file b;
      portfolio = number_below 4 4 file b;
      pairs = rw listed (omega arith);
      moves = rw listed (omega (arith, q.moves));
      moved = moves_below (moves_in file) (drop pf_length file) (below_drop pf_length file b);
      days = rw held (omega arith);
      last = rw held (last_below file b);
      none = λ z. first_held file (sym held ∙ z);
      marks = marks_below (days_in file) (first_in file) (drop (file_base file) file) (below_drop (file_base file) file b);
      size = rw held (readings_length (days_in file) (first_in file) (drop (file_base file) file));
      readings = readings_below (days_in file) (first_in file) (drop (file_base file) file) (below_drop (file_base file) file b);
      events = rw (events_count (events_in file) (drop (event_start file 0) file)) (omega arith);
      fields = events_fit (events_in file) (drop (event_start file 0) file) (below_drop (event_start file 0) file b);
    }

marked : (x y : ℕ) (l : List ℕ) → x < 256 → y < 256 → Below 256 l → Below 256 (x ∷ y ∷ l)
marked x y l h g b = below_cons x (y ∷ l) h (below_cons y l g b)

moves_bytes : (ms : List ℕ) → Below 256 (mv_records ms)
unfolding mv_records mv_record
moves_bytes [] = below_none (omega arith)
moves_bytes (old ∷ []) = below_none (omega arith)
moves_bytes (old ∷ new ∷ more) =
    marked 77 86 (bytes 2 old ++ bytes 2 new ++ mv_records more) (omega arith) (omega arith)
    (below_append (bytes 2 old ++ bytes 2 new) (mv_records more) (below_append (bytes 2 old) (bytes 2 new) (bytes_below 2 old) (bytes_below 2 new))
    (moves_bytes more))

days_bytes : (ms rs : List ℕ) (d : ℕ) → Below 256 ms → Below 256 (dy_records d ms rs)
unfolding dy_records dy_record
days_bytes [] rs d h = below_none (omega arith)
days_bytes (m ∷ ms) rs d h =
    let xs = reading_bytes (take (size d) rs) in
    let more = dy_records (suc d) ms (drop (size d) rs) in
    let own : Below 256 (m ∷ 0 ∷ []) = marked m 0 [] (h 0) (omega arith) (below_none (omega arith)) in
    marked 68 89 (bytes 2 d ++ (m ∷ 0 ∷ []) ++ xs ++ more) (omega arith) (omega arith)
    (below_append (bytes 2 d ++ (m ∷ 0 ∷ []) ++ xs) more
    (below_append (bytes 2 d ++ (m ∷ 0 ∷ [])) xs (below_append (bytes 2 d) (m ∷ 0 ∷ []) (bytes_below 2 d) own) (reading_bytes_below (take (size d) rs)))
    (days_bytes ms (drop (size d) rs) (suc d) (λ i. h (suc i))))

events_bytes : (es : List Event) → all fits_event es ≡ true → Below 256 (ev_records es)
unfolding ev_records ev_record all
events_bytes [] h = below_none (omega arith)
events_bytes (v ∷ es) h =
    let k = both (fits_event v) (all fits_event es) h in
    let q = event_fields v k.0 in
    let last = v.s ∷ v.e ∷ v.n ∷ v.method ∷ [] in
    let own : Below 256 last = marked v.s v.e (v.n ∷ v.method ∷ []) q.s q.e (marked v.n v.method [] q.n q.method (below_none (omega arith))) in
    marked 69 86 (bytes 2 v.day ++ last ++ ev_records es) (omega arith) (omega arith)
    (below_append (bytes 2 v.day ++ last) (ev_records es) (below_append (bytes 2 v.day) last (bytes_below 2 v.day) own) (events_bytes es k.1))

pub writes_bytes : (c : Contents) → Fits c → Below 256 (file_of c)
unfolding file_of pf_record
writes_bytes c q =
    let dy = dy_records c.table.first c.table.marks c.table.readings in
    let mv = mv_records c.moves in
    let p = bytes 2 c.participation in
    let n = bytes 4 c.portfolio in
    marked 80 70 (p ++ n ++ mv ++ dy ++ ev_records c.events) (omega arith) (omega arith)
    (below_append (p ++ n ++ mv ++ dy) (ev_records c.events)
    (below_append (p ++ n ++ mv) dy
    (below_append (p ++ n) mv (below_append p n (bytes_below 2 c.participation) (bytes_below 4 c.portfolio)) (moves_bytes c.moves))
    (days_bytes c.table.marks c.table.readings c.table.first q.marks))
    (events_bytes c.events q.fields))
