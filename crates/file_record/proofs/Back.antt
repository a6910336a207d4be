-- What is written of moves, days and events reads back: one record, and records one after the other.
use Prim.Native.Nat.{ℕ, zero, suc, ◌+◌, ◌*◌, ◌/◌, ◌%◌, ◌^◌, ◌<◌, ◌≤◌}
use mathlib.Core.Path.{◌≡◌, refl, sym, ◌∙◌, ap}
use mathlib.Core.Bool.{true, false, and-false}
use mathlib.Core.List.{List, [], ◌∷◌, ◌++◌, append_assoc}
use native.Mathlib.Omega.{arith}
use borrow.Author.Tests.{le-leb, eq-eqb}
use lib.ListN.{length, take, drop, get_or, length-append, length-drop, take-append-drop}
use lib.Seq.{drop_at, length-take-le}
use Rattle.base_lists.proofs.Bools.{both}
use Rattle.base_lists.specs.Lists.{all}
use Rattle.base_lists.specs.Ascii.{ascii}
use Rattle.method.specs.Table.{size, offset}
use Rattle.file_record.specs.Layout.{Below, mv_record, dy_record, Event, ev_record, mv_records, dy_records, ev_records, fits_event}
use Rattle.file_record.specs.Reader.{number_at, opens_with, is_record, is_mv, mv_length, is_dy, is_ev, ev_length, is_dy_of, dy_length, dy_day, run, day_start}
use Rattle.file_record.specs.Reader.{move_numbers, marks_from, numbers, readings_from, event_of, event_list}
use Rattle.file_record.proofs.Bytes.{below_drop, below_take, numbers-bytes}
use Rattle.file_record.proofs.Starts.{day_start_none, day_start-cons}
use Rattle.file_record.proofs.Records.{day_record, day_of_is, day_not, day_cut, event_fields}
use Rattle.file_record.proofs.Runs.{run_more, run_stops}
use Rattle.base_bytes.specs.Bytes.{bytes, reading_bytes}
use Rattle.base_bytes.proofs.Bytes.{reading_length}

-- one MV, with anything after it
module _ (old new : ℕ) (rest : List ℕ) where
  move_good : is_mv (mv_record old new ++ rest) ≡ true
  unfolding is_mv is_record opens_with mv_record bytes
  move_good = let o : mv_length ≤ length (mv_record old new ++ rest) = omega arith in rw (le-leb mv_length (length (mv_record old new ++ rest)) o)

  move_after : drop mv_length (mv_record old new ++ rest) ≡ rest
  unfolding mv_record bytes
  move_after = refl

  move_old : old < 256 ^ 2 → number_at 2 2 (mv_record old new ++ rest) ≡ old
  unfolding mv_record bytes number_at
  move_old h = omega arith

  move_new : new < 256 ^ 2 → number_at 2 4 (mv_record old new ++ rest) ≡ new
  unfolding mv_record bytes number_at
  move_new h = omega arith

-- one DY, with anything after it
module _ (d m : ℕ) (xs rest : List ℕ) (long : length xs ≡ size d) where
  pub day_length : length (dy_record d m xs) ≡ dy_length d
  unfolding dy_record bytes
  day_length = omega (arith, reading_length xs)

  day_record_is : is_record (dy_length d) (ascii "DY") (dy_record d m xs ++ rest) ≡ true
  unfolding is_record opens_with dy_record bytes
  day_record_is =
      let o : dy_length d ≤ length (dy_record d m xs ++ rest) = omega (arith, length-append (reading_bytes xs) rest, reading_length xs) in
      rw (le-leb (dy_length d) (length (dy_record d m xs ++ rest)) o)

  day_blank : get_or (dy_record d m xs ++ rest) 5 0 ≡ 0
  unfolding dy_record bytes
  day_blank = refl

  pub day_day : d < 256 ^ 2 → dy_day (dy_record d m xs ++ rest) ≡ d
  unfolding dy_record bytes number_at
  day_day h = omega arith

  pub day_good : d < 256 ^ 2 → is_dy_of d (dy_record d m xs ++ rest) ≡ true
  day_good h = rw (day_record d (dy_record d m xs ++ rest), day_record_is, day_blank, day_day h, eq-eqb d d refl)

  pub day_is : d < 256 ^ 2 → is_dy (dy_record d m xs ++ rest) ≡ true
  day_is h = day_of_is d (dy_record d m xs ++ rest) (day_good h)

  day_no_move : is_mv (dy_record d m xs ++ rest) ≡ false
  unfolding is_mv is_record opens_with dy_record bytes
  day_no_move = simp and-false

  pub day_after : drop (dy_length d) (dy_record d m xs ++ rest) ≡ rest
  day_after = drop_at (dy_record d m xs) rest (dy_length d) day_length

  pub day_mark : get_or (dy_record d m xs ++ rest) 4 0 ≡ m
  unfolding dy_record bytes
  day_mark = refl

  pub day_readings : Below (256 ^ 4) xs → numbers (size d) (drop 6 (dy_record d m xs ++ rest)) ≡ xs
  unfolding dy_record bytes
  day_readings h = numbers-bytes (size d) xs rest long h

-- one EV, with anything after it
module _ (v : Event) (rest : List ℕ) where
  pub event_good : is_ev (ev_record v ++ rest) ≡ true
  unfolding is_ev is_record opens_with ev_record bytes
  event_good = let o : ev_length ≤ length (ev_record v ++ rest) = omega arith in rw (le-leb ev_length (length (ev_record v ++ rest)) o)

  event_no_move : is_mv (ev_record v ++ rest) ≡ false
  unfolding is_mv is_record opens_with ev_record bytes
  event_no_move = simp and-false

  pub event_no_day : is_dy (ev_record v ++ rest) ≡ false
  unfolding is_dy is_record opens_with ev_record bytes
  event_no_day = simp and-false

  pub event_after : drop ev_length (ev_record v ++ rest) ≡ rest
  unfolding ev_record bytes
  event_after = refl

  pub event_back : v.day < 256 ^ 2 → event_of (ev_record v ++ rest) ≡ v
  unfolding event_of ev_record bytes number_at
  event_back h =
      let p : v.day % 256 + 256 * (v.day / 256 % 256 + 256 * 0) ≡ v.day = omega arith in
      λ i. record { day = p i; s = v.s; e = v.e; n = v.n; method = v.method }

-- moves one after the other, and what comes after them
pub moves_length : (ms : List ℕ) → length (mv_records ms) ≡ mv_length * (length ms / 2)
unfolding mv_records mv_record bytes
moves_length [] = refl
moves_length (old ∷ []) = refl
moves_length (old ∷ new ∷ more) = omega (arith, moves_length more)

module _ (tail : List ℕ) where
  pub moves_back : (ms : List ℕ) (most i : ℕ) → length ms % 2 ≡ 0 → length ms / 2 ≤ most → is_mv tail ≡ false
      → run (λ j. is_mv) (λ j. mv_length) most i (mv_records ms ++ tail) ≡ length ms / 2
  unfolding mv_records
  moves_back [] most i e h n = run_stops (λ j. is_mv) (λ j. mv_length) most i tail n
  moves_back (old ∷ []) most i e h n = absurd (omega arith)
  moves_back (old ∷ new ∷ more) zero i e h n = absurd (omega arith)
  moves_back (old ∷ new ∷ more) (suc most) i e h n =
      let half : length (old ∷ new ∷ more) / 2 ≡ suc (length more / 2) = omega arith in
      rw (append_assoc (mv_record old new) (mv_records more) tail, half)
      (run_more (λ j. is_mv) (λ j. mv_length) most i (mv_record old new ++ (mv_records more ++ tail)) (move_good old new (mv_records more ++ tail))
      ∙ rw (move_after old new (mv_records more ++ tail)) (ap suc (moves_back more most (suc i) (omega arith) (omega arith) n)))

  pub move_numbers_back : (ms : List ℕ) → length ms % 2 ≡ 0 → Below (256 ^ 2) ms → move_numbers (length ms / 2) (mv_records ms ++ tail) ≡ ms
  unfolding mv_records move_numbers
  move_numbers_back [] e h = refl
  move_numbers_back (old ∷ []) e h = absurd (omega arith)
  move_numbers_back (old ∷ new ∷ more) e h =
      let half : length (old ∷ new ∷ more) / 2 ≡ suc (length more / 2) = omega arith in
      let left = mv_records more ++ tail in
      rw (
        append_assoc (mv_record old new) (mv_records more) tail,
        half,
        move_old old new left (h 0),
        move_new old new left (h 1),
        move_after old new left,
        move_numbers_back more (omega arith) (λ i. h (suc (suc i))),
      )

-- the readings of the first of several days, and those of the others
module _ (h : ℕ) (rs : List ℕ) (d : ℕ) (e : length rs ≡ offset d (suc h)) where
  pub first_long : length (take (size d) rs) ≡ size d
  unfolding offset
  first_long = let o : size d ≤ length rs = omega arith in length-take-le (size d) rs o

  others_long : length (drop (size d) rs) ≡ offset (suc d) h
  unfolding offset
  others_long = length-drop (size d) rs ∙ omega arith

pub days_length : (ms rs : List ℕ) (d : ℕ) → length rs ≡ offset d (length ms) → length (dy_records d ms rs) ≡ day_start 0 d (length ms)
unfolding dy_records
days_length [] rs d e = sym (day_start_none 0 d)
days_length (m ∷ ms) rs d e =
    length-append (dy_record d m (take (size d) rs)) (dy_records (suc d) ms (drop (size d) rs))
    ∙ (rw (
      day_length d m (take (size d) rs) [] (first_long (length ms) rs d e),
      days_length ms (drop (size d) rs) (suc d) (others_long (length ms) rs d e),
      day_start-cons d (length ms),
    ))

-- days one after the other, and what comes after them
module _ (tail : List ℕ) where
  pub days_back : (ms rs : List ℕ) (most d : ℕ) → length ms ≤ most → length rs ≡ offset d (length ms) → d + length ms ≤ 256 ^ 2 → is_dy tail ≡ false
      → run is_dy_of dy_length most d (dy_records d ms rs ++ tail) ≡ length ms
  unfolding dy_records
  days_back [] rs most d h e l n = run_stops is_dy_of dy_length most d tail (sym (day_not tail d n))
  days_back (m ∷ ms) rs zero d h e l n = let z : ◌≡◌ {A = ℕ} 0 1 = omega arith in absurd (omega arith)
  days_back (m ∷ ms) rs (suc most) d h e l n =
      let long : length (take (size d) rs) ≡ size d = first_long (length ms) rs d e in
      let below : d < 256 ^ 2 = omega arith in
      let fewer : length ms ≤ most = omega arith in
      let later : suc d + length ms ≤ 256 ^ 2 = omega arith in
      let more = dy_records (suc d) ms (drop (size d) rs) ++ tail in
      rw (append_assoc (dy_record d m (take (size d) rs)) (dy_records (suc d) ms (drop (size d) rs)) tail)
      (run_more is_dy_of dy_length most d (dy_record d m (take (size d) rs) ++ more) (day_good d m (take (size d) rs) more long below)
      ∙ (rw (day_after d m (take (size d) rs) more long)
      (ap suc (days_back ms (drop (size d) rs) most (suc d) fewer (others_long (length ms) rs d e) later n))))

  pub marks_back : (ms rs : List ℕ) (d : ℕ) → length rs ≡ offset d (length ms) → marks_from (length ms) d (dy_records d ms rs ++ tail) ≡ ms
  unfolding dy_records marks_from
  marks_back [] rs d e = refl
  marks_back (m ∷ ms) rs d e =
      let more = dy_records (suc d) ms (drop (size d) rs) ++ tail in
      rw (
        append_assoc (dy_record d m (take (size d) rs)) (dy_records (suc d) ms (drop (size d) rs)) tail,
        day_mark d m (take (size d) rs) more (first_long (length ms) rs d e),
        day_after d m (take (size d) rs) more (first_long (length ms) rs d e),
      )
      (ap (λ (l : List ℕ). m ∷ l) (marks_back ms (drop (size d) rs) (suc d) (others_long (length ms) rs d e)))

  pub readings_back : (ms rs : List ℕ) (d : ℕ) → length rs ≡ offset d (length ms) → Below (256 ^ 4) rs
      → readings_from (length ms) d (dy_records d ms rs ++ tail) ≡ rs
  unfolding dy_records readings_from offset
  readings_back [] [] d e h = refl
  readings_back [] (r ∷ rs) d e h = let z : ◌≡◌ {A = ℕ} 0 1 = omega arith in absurd (omega arith)
  readings_back (m ∷ ms) rs d e h =
      let long = first_long (length ms) rs d e in
      let more = dy_records (suc d) ms (drop (size d) rs) ++ tail in
      rw (
        append_assoc (dy_record d m (take (size d) rs)) (dy_records (suc d) ms (drop (size d) rs)) tail,
        day_readings d m (take (size d) rs) more long (below_take (size d) rs h),
        day_after d m (take (size d) rs) more long,
        readings_back ms (drop (size d) rs) (suc d) (others_long (length ms) rs d e) (below_drop (size d) rs h),
      ) (take-append-drop (size d) rs)

-- events one after the other, at the file's end
pub events_back : (es : List Event) (most i : ℕ) → length es ≤ most → run (λ j. is_ev) (λ j. ev_length) most i (ev_records es) ≡ length es
unfolding ev_records
events_back [] most i h = run_stops (λ j. is_ev) (λ j. ev_length) most i [] none
  where
    none : is_ev [] ≡ false
    none = unfold is_ev is_record in refl
events_back (v ∷ es) zero i h = let z : ◌≡◌ {A = ℕ} 0 1 = omega arith in absurd (omega arith)
events_back (v ∷ es) (suc most) i h =
    let fewer : length es ≤ most = omega arith in
    run_more (λ j. is_ev) (λ j. ev_length) most i (ev_record v ++ ev_records es) (event_good v (ev_records es))
    ∙ (rw (event_after v (ev_records es)) (ap suc (events_back es most (suc i) fewer)))

pub event_list_back : (es : List Event) → all fits_event es ≡ true → event_list (length es) (ev_records es) ≡ es
unfolding ev_records event_list all
event_list_back [] h = refl
event_list_back (v ∷ es) h =
    let k = both (fits_event v) (all fits_event es) h in
    rw (event_back v (ev_records es) (event_fields v k.0).day, event_after v (ev_records es), event_list_back es k.1)

pub events_length : (es : List Event) → length (ev_records es) ≡ ev_length * length es
unfolding ev_records ev_record bytes
events_length [] = refl
events_length (v ∷ es) = omega (arith, events_length es)

pub no_day_left : (es : List Event) → is_dy (ev_records es) ≡ false
unfolding ev_records
no_day_left [] = day_cut [] (omega arith)
no_day_left (v ∷ es) = event_no_day v (ev_records es)

pub no_move_left : (d : ℕ) (ms rs : List ℕ) (es : List Event) → length rs ≡ offset d (length ms) → is_mv (dy_records d ms rs ++ ev_records es) ≡ false
unfolding dy_records
no_move_left d (m ∷ ms) rs es e =
    rw (append_assoc (dy_record d m (take (size d) rs)) (dy_records (suc d) ms (drop (size d) rs)) (ev_records es))
    (day_no_move d m (take (size d) rs) (dy_records (suc d) ms (drop (size d) rs) ++ ev_records es) (first_long (length ms) rs d e))
no_move_left d [] rs (v ∷ es) e = unfold ev_records in event_no_move v (ev_records es)
no_move_left d [] rs [] e = unfold ev_records is_mv is_record in refl
