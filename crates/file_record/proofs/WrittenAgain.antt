-- What is read is written again: an accepted file is, byte for byte, the file of the contents that it says.
use Prim.Native.Nat.{ℕ, zero, suc, ◌+◌, ◌*◌, ◌/◌, ◌%◌, ◌<◌, ◌≤◌}
use mathlib.Core.Path.{◌≡◌, refl, sym, ◌∙◌, ap}
use mathlib.Core.Bool.{Bool, true, false, ◌&&◌}
use mathlib.Core.List.{List, [], ◌∷◌, ◌++◌, append_assoc, append-nil}
use native.Mathlib.Omega.{arith}
use borrow.Author.Tests.{eqb-true}
use lib.ListN.{length, drop, get_or, length-drop, drop_of_length-le}
use lib.Seq.{drop-cons, drop-drop, take_at, drop_at}
use lib.Dec.{eqb, leb}
use Rattle.base_lists.proofs.Bools.{both}
use Rattle.method.specs.Table.{size}
use Rattle.file_record.specs.Layout.{Below, pf_record, mv_record, dy_record, ev_record, mv_records, dy_records, ev_records, file_of}
use Rattle.base_lists.specs.Ascii.{ascii}
use Rattle.file_record.specs.declared.Shape.{Shape}
use Rattle.file_record.specs.Reader.{number_at, opens_with, is_record, is_pf, pf_length, is_mv, mv_length, is_ev, ev_length, is_dy_of, dy_length, dy_day, run, moves_from, days_from, events_from}
use Rattle.file_record.specs.Reader.{moves_in, move_numbers, list_in}
use Rattle.file_record.specs.Reader.{file_base, first_in, days_in, day_start, event_start, events_in, shape_in, read_file, marks_from, numbers, readings_from, table_in, event_of, event_list, contents_in}
use Rattle.file_record.specs.Laws.{Accepted}
use Rattle.file_record.proofs.Numbers.{number_drop}
use Rattle.file_record.proofs.Bytes.{below_drop, bytes_number, bytes-numbers}
use Rattle.file_record.proofs.Starts.{day_start_none, day_start_from, day_start-cons}
use Rattle.file_record.proofs.Records.{whole_record, move_record, move_whole, day_record, event_record, day_whole, event_whole}
use Rattle.file_record.proofs.Runs.{run_more, run_stops, run_full}
use Rattle.file_record.proofs.Files.{shape_fits, event_start_first, event_start_more, end_is_length}
use Rattle.file_record.proofs.Lengths.{numbers-length}
use Rattle.base_bytes.specs.Bytes.{bytes, reading_bytes}
use Rattle.std.specs.Prelude.{Ok}

-- some elements from a place on, one by one
abbrev firsts : ℕ → ℕ → List ℕ → List ℕ
firsts zero k left = []
firsts (suc n) k left = get_or left k 0 ∷ firsts n (suc k) left

firsts_are : (n k : ℕ) (left : List ℕ) → n + k ≤ length left → firsts n k left ++ drop (n + k) left ≡ drop k left
firsts_are zero k left h = let e : 0 + k ≡ k = omega arith in rw e
firsts_are (suc n) k left h =
    let o : k < length left = omega arith in
    let later : n + suc k ≤ length left = omega arith in
    let e : suc n + k ≡ n + suc k = omega arith in
    rw e (ap (λ (l : List ℕ). get_or left k 0 ∷ l) (firsts_are n (suc k) left later) ∙ sym (drop-cons left k 0 o))

-- a number of two bytes, taken apart again
two_low : (at : ℕ) (left : List ℕ) → Below 256 left → (d : ℕ) → number_at 2 at left ≡ d → (d % 256 ≡ get_or left at 0) × (d / 256 % 256 ≡ get_or left (suc at) 0)
unfolding number_at
two_low at left b d e = let x : get_or left at 0 < 256 = b at in let y : get_or left (suc at) 0 < 256 = b (suc at) in (omega arith, omega arith)

-- what the test of a record's mark says
record Marked (mark left : List ℕ) : Type 0 where
  one : get_or left 0 0 ≡ get_or mark 0 0
  two : get_or left 1 0 ≡ get_or mark 1 0

marked : (size : ℕ) (mark left : List ℕ) → is_record size mark left ≡ true → Marked mark left
unfolding is_record opens_with
marked size mark left t =
    let k = both (leb size (length left)) (opens_with mark left) t in
    let m = both (eqb (get_or left 0 0) (get_or mark 0 0)) (eqb (get_or left 1 0) (get_or mark 1 0)) k.1 in
    record { one = eqb-true (get_or left 0 0) (get_or mark 0 0) m.0; two = eqb-true (get_or left 1 0) (get_or mark 1 0) m.1 }

move_again : (left : List ℕ) → Below 256 left → is_mv left ≡ true → mv_record (number_at 2 2 left) (number_at 2 4 left) ++ drop mv_length left ≡ left
unfolding mv_record bytes
move_again left b t =
    let q : Marked (ascii "MV") left = marked mv_length (ascii "MV") left (rw move_record at t) in
    let six : firsts 6 0 left ++ drop mv_length left ≡ left = firsts_are 6 0 left (move_whole left t) in
    let old = two_low 2 left b (number_at 2 2 left) refl in
    let new = two_low 4 left b (number_at 2 4 left) refl in
    let one : get_or left 0 0 ≡ 77 = q.one in
    let two : get_or left 1 0 ≡ 86 = q.two in
    let old_low = old.0 in
    let old_high = old.1 in
    let new_low = new.0 in
    let new_high = new.1 in
    cc

day_again : (d : ℕ) (left : List ℕ) → Below 256 left → is_dy_of d left ≡ true
    → dy_record d (get_or left 4 0) (numbers (size d) (drop 6 left)) ++ drop (dy_length d) left ≡ left
unfolding dy_record bytes
day_again d left b t =
    let k = both (is_record (dy_length d) (ascii "DY") left) (eqb (get_or left 5 0) 0 && eqb (dy_day left) d) (sym (day_record d left) ∙ t) in
    let m = both (eqb (get_or left 5 0) 0) (eqb (dy_day left) d) k.1 in
    let q : Marked (ascii "DY") left = marked (dy_length d) (ascii "DY") left k.0 in
    let long : dy_length d ≤ length left = day_whole d left t in
    let o : 6 ≤ length left = omega arith in
    let day = two_low 2 left b d (eqb-true (dy_day left) d m.1) in
    let six : firsts 6 0 left ++ drop 6 left ≡ left = firsts_are 6 0 left o in
    let room : 4 * size d ≤ length (drop 6 left) = omega (arith, length-drop 6 left) in
    let rest : reading_bytes (numbers (size d) (drop 6 left)) ++ drop (4 * size d) (drop 6 left) ≡ drop 6 left =
    bytes-numbers (size d) (drop 6 left) room (below_drop 6 left b) in
    let far : drop (4 * size d) (drop 6 left) ≡ drop (dy_length d) left = drop-drop (4 * size d) 6 left in
    let one : get_or left 0 0 ≡ 68 = q.one in
    let two : get_or left 1 0 ≡ 89 = q.two in
    let none : get_or left 5 0 ≡ 0 = eqb-true (get_or left 5 0) 0 m.0 in
    let low = day.0 in
    let high = day.1 in
    cc

event_again : (left : List ℕ) → Below 256 left → is_ev left ≡ true → ev_record (event_of left) ++ drop ev_length left ≡ left
unfolding ev_record event_of bytes
event_again left b t =
    let q : Marked (ascii "EV") left = marked ev_length (ascii "EV") left (rw event_record at t) in
    let long : ev_length ≤ length left = event_whole left t in
    let day = two_low 2 left b (number_at 2 2 left) refl in
    let eight : firsts 8 0 left ++ drop ev_length left ≡ left = firsts_are 8 0 left long in
    let one : get_or left 0 0 ≡ 69 = q.one in
    let two : get_or left 1 0 ≡ 86 = q.two in
    let low = day.0 in
    let high = day.1 in
    cc

moves_again : (most i : ℕ) (left : List ℕ) → Below 256 left
    → mv_records (move_numbers (run (λ j. is_mv) (λ j. mv_length) most i left) left) ++ drop (mv_length * run (λ j. is_mv) (λ j. mv_length) most i left) left ≡ left
unfolding mv_records move_numbers
moves_again zero i left b = rw (run_full (λ j. is_mv) (λ j. mv_length) i left)
moves_again (suc most) i left b = go (is_mv left) refl (moves_again most (suc i) (drop mv_length left) (below_drop mv_length left b))
  where
    go : (good : Bool) → is_mv left ≡ good
        → mv_records (move_numbers (run (λ j. is_mv) (λ j. mv_length) most (suc i) (drop mv_length left)) (drop mv_length left))
        ++ drop (mv_length * run (λ j. is_mv) (λ j. mv_length) most (suc i) (drop mv_length left)) (drop mv_length left) ≡ drop mv_length left
        → mv_records (move_numbers (run (λ j. is_mv) (λ j. mv_length) (suc most) i left) left) ++ drop (mv_length * run (λ j. is_mv) (λ j. mv_length) (suc most) i left) left ≡ left
    go false e later = rw (run_stops (λ j. is_mv) (λ j. mv_length) (suc most) i left e)
    go true e later =
        let k = run (λ j. is_mv) (λ j. mv_length) most (suc i) (drop mv_length left) in
        let far : mv_length * suc k ≡ mv_length + mv_length * k = omega arith in
        rw (
          run_more (λ j. is_mv) (λ j. mv_length) most i left e,
          append_assoc (mv_record (number_at 2 2 left) (number_at 2 4 left)) (mv_records (move_numbers k (drop mv_length left))) (drop (mv_length * suc k) left),
          far,
          ← drop-drop (mv_length * k) mv_length left,
          later,
        )
        (move_again left b e)

-- a day, and the days after it
day_before : (d : ℕ) (left : List ℕ) (h : ℕ) (ms rs : List ℕ) → Below 256 left → is_dy_of d left ≡ true
    → dy_records (suc d) ms rs ++ drop (day_start 0 (suc d) h) (drop (dy_length d) left) ≡ drop (dy_length d) left
    → dy_records d (get_or left 4 0 ∷ ms) (numbers (size d) (drop 6 left) ++ rs) ++ drop (day_start 0 d (suc h)) left ≡ left
unfolding dy_records
day_before d left h ms rs b t later =
    let xs = numbers (size d) (drop 6 left) in
    let long : length (numbers (size d) (drop 6 left)) ≡ size d = numbers-length (size d) (drop 6 left) in
    rw (
      take_at xs rs (size d) long,
      drop_at xs rs (size d) long,
      append_assoc (dy_record d (get_or left 4 0) xs) (dy_records (suc d) ms rs) (drop (day_start 0 d (suc h)) left),
      day_start-cons d h,
      ← drop-drop (day_start 0 (suc d) h) (dy_length d) left,
      later,
    ) (day_again d left b t)

days_again : (most d : ℕ) (left : List ℕ) → Below 256 left
    → dy_records d (marks_from (run is_dy_of dy_length most d left) d left) (readings_from (run is_dy_of dy_length most d left) d left)
    ++ drop (day_start 0 d (run is_dy_of dy_length most d left)) left ≡ left
unfolding dy_records marks_from readings_from
days_again zero d left b = rw (run_full is_dy_of dy_length d left, day_start_none 0 d)
days_again (suc most) d left b = go (is_dy_of d left) refl (days_again most (suc d) (drop (dy_length d) left) (below_drop (dy_length d) left b))
  where
    go : (good : Bool) → is_dy_of d left ≡ good
        → dy_records (suc d) (marks_from (run is_dy_of dy_length most (suc d) (drop (dy_length d) left)) (suc d) (drop (dy_length d) left))
        (readings_from (run is_dy_of dy_length most (suc d) (drop (dy_length d) left)) (suc d) (drop (dy_length d) left))
        ++ drop (day_start 0 (suc d) (run is_dy_of dy_length most (suc d) (drop (dy_length d) left))) (drop (dy_length d) left)
        ≡ drop (dy_length d) left
        → dy_records d (marks_from (run is_dy_of dy_length (suc most) d left) d left) (readings_from (run is_dy_of dy_length (suc most) d left) d left)
        ++ drop (day_start 0 d (run is_dy_of dy_length (suc most) d left)) left ≡ left
    go false e later = rw (run_stops is_dy_of dy_length (suc most) d left e, day_start_none 0 d)
    go true e later =
        let h = run is_dy_of dy_length most (suc d) (drop (dy_length d) left) in
        rw (run_more is_dy_of dy_length most d left e)
        (day_before d left h (marks_from h (suc d) (drop (dy_length d) left)) (readings_from h (suc d) (drop (dy_length d) left)) b e later)

events_again : (most i : ℕ) (left : List ℕ) → Below 256 left
    → ev_records (event_list (run (λ j. is_ev) (λ j. ev_length) most i left) left) ++ drop (ev_length * run (λ j. is_ev) (λ j. ev_length) most i left) left ≡ left
unfolding ev_records event_list
events_again zero i left b = rw (run_full (λ j. is_ev) (λ j. ev_length) i left)
events_again (suc most) i left b = go (is_ev left) refl (events_again most (suc i) (drop ev_length left) (below_drop ev_length left b))
  where
    go : (good : Bool) → is_ev left ≡ good
        → ev_records (event_list (run (λ j. is_ev) (λ j. ev_length) most (suc i) (drop ev_length left)) (drop ev_length left))
        ++ drop (ev_length * run (λ j. is_ev) (λ j. ev_length) most (suc i) (drop ev_length left)) (drop ev_length left) ≡ drop ev_length left
        → ev_records (event_list (run (λ j. is_ev) (λ j. ev_length) (suc most) i left) left) ++ drop (ev_length * run (λ j. is_ev) (λ j. ev_length) (suc most) i left) left ≡ left
    go false e later = rw (run_stops (λ j. is_ev) (λ j. ev_length) (suc most) i left e)
    go true e later =
        let v = run (λ j. is_ev) (λ j. ev_length) most (suc i) (drop ev_length left) in
        let far : ev_length * suc v ≡ ev_length + ev_length * v = omega arith in
        rw (
          run_more (λ j. is_ev) (λ j. ev_length) most i left e,
          append_assoc (ev_record (event_of left)) (ev_records (event_list v (drop ev_length left))) (drop (ev_length * suc v) left),
          far,
          ← drop-drop (ev_length * v) ev_length left,
          later,
        )
        (event_again left b e)

file_again : (file : List ℕ) → Below 256 file → is_pf file ≡ true → pf_record (number_at 2 2 file) (number_at 4 4 file) ++ drop pf_length file ≡ file
unfolding pf_record is_pf bytes
file_again file b t =
    let q : Marked (ascii "PF") file = marked pf_length (ascii "PF") file t in
    let long : pf_length ≤ length file = whole_record pf_length (ascii "PF") file t in
    let o : 4 ≤ length file = omega arith in
    let four : firsts 4 0 file ++ drop 4 file ≡ file = firsts_are 4 0 file o in
    let room : 4 ≤ length (drop 4 file) = omega (arith, length-drop 4 file) in
    let number : bytes 4 (number_at 4 0 (drop 4 file)) ++ drop 4 (drop 4 file) ≡ drop 4 file = bytes_number 4 (drop 4 file) room (below_drop 4 file b) in
    let at : number_at 4 0 (drop 4 file) ≡ number_at 4 4 file = number_drop 4 4 0 file in
    let far : drop 4 (drop 4 file) ≡ drop pf_length file = drop-drop 4 4 file in
    let day = two_low 2 file b (number_at 2 2 file) refl in
    let low = day.0 in
    let high = day.1 in
    let one : get_or file 0 0 ≡ 80 = q.one in
    let two : get_or file 1 0 ≡ 70 = q.two in
    cc

opening_again : (file : List ℕ) → Below 256 file → is_pf file ≡ true
    → pf_record (number_at 2 2 file) (number_at 4 4 file) ++ mv_records (list_in file) ++ drop (file_base file) file ≡ file
unfolding list_in moves_in moves_from file_base
opening_again file b t =
    let left = drop pf_length file in
    append_assoc (pf_record (number_at 2 2 file) (number_at 4 4 file)) (mv_records (list_in file)) (drop (file_base file) file)
    ∙ ap (λ (l : List ℕ). pf_record (number_at 2 2 file) (number_at 4 4 file) ++ l)
    (rw (← drop-drop (mv_length * moves_in file) pf_length file) (moves_again 16 0 left (below_drop pf_length file b)))
    ∙ file_again file b t

-- an accepted file is the file of its contents
pub written_again : (file : List ℕ) (shape : Shape) → Below 256 file → read_file file ≡ Ok shape → file_of (contents_in file) ≡ file
unfolding file_of contents_in table_in days_in days_from events_in events_from shape_in
written_again file shape b r =
    let q : Accepted file shape = shape_fits file shape r in
    let days : shape.days ≡ days_in file = rw q.is_shape in
    let events : shape.events ≡ events_in file = rw q.is_shape in
    let end : length file ≤ event_start file 0 + ev_length * events_in file = omega (arith, event_start_more file (events_in file), end_is_length file shape r) in
    let left = drop (event_start file 0) file in
    let ev = ev_records (event_list (events_in file) left) in
    let dy = dy_records (first_in file) (marks_from (days_in file) (first_in file) (drop (file_base file) file)) (readings_from (days_in file) (first_in file) (drop (file_base file) file)) in
    let nothing : drop (ev_length * events_in file) left ≡ [] = drop-drop (ev_length * events_in file) (event_start file 0) file ∙ drop_of_length-le file end in
    let evs : ev ++ drop (ev_length * events_in file) left ≡ left = events_again 64 0 left (below_drop (event_start file 0) file b) in
    let ev_is : ev ≡ left = sym (append-nil ev) ∙ (rw nothing at evs) in
    let dys : dy ++ drop (day_start 0 (first_in file) (days_in file)) (drop (file_base file) file) ≡ drop (file_base file) file = days_again 128 (first_in file) (drop (file_base file) file) (below_drop (file_base file) file b) in
    let after : drop (day_start 0 (first_in file) (days_in file)) (drop (file_base file) file) ≡ left =
    drop-drop (day_start 0 (first_in file) (days_in file)) (file_base file) file
    ∙ ap (λ (n : ℕ). drop n file) (sym (day_start_from (file_base file) (first_in file) (days_in file)) ∙ sym (event_start_first file)) in
    let opening = pf_record (number_at 2 2 file) (number_at 4 4 file) ++ mv_records (list_in file) in
    append_assoc opening dy ev
    ∙ ap (λ (l : List ℕ). opening ++ l) (ap (λ (l : List ℕ). dy ++ l) (ev_is ∙ sym after) ∙ dys)
    ∙ opening_again file b q.opens
