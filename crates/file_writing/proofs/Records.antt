-- Records put one after the other: what is written and what is left to write are the whole (`Filling`).
use Prim.Native.Nat.{ℕ, suc, ◌+◌, ◌-◌, ◌*◌, ◌/◌, ◌≤◌, ◌<◌}
use mathlib.Core.Path.{◌≡◌, refl, sym, ap, ◌∙◌}
use mathlib.Core.Bool.{true}
use mathlib.Core.List.{List, [], ◌∷◌, ◌++◌, append-nil, append_assoc}
use native.Mathlib.Omega.{arith}
use native.Mathlib.Nat.{add-zero}
use native.Mathlib.Numerals.{add-one}
use lib.ListN.{length, get_or, take, drop, length-drop, drop_of_length-le}
use lib.Seq.{drop-cons, drop-drop, length-take-le}
use borrow.Rule.Slice.PartMut.{put_mid, mid_of, mid_len}
use Rattle.base_lists.specs.Lists.{all}
use Rattle.base_lists.proofs.Bools.{both}
use Rattle.base_bytes.specs.Bytes.{bytes}
use Rattle.base_bytes.specs.PutFirst.{put_first}
use Rattle.base_bytes.proofs.Filling.{Filling, filling_none, filling_part, filled}
use Rattle.method.specs.Table.{size, offset}
use Rattle.method.proofs.Tables.{offset-add, offset-suc}
use Rattle.file_record.specs.declared.Shape.{Shape}
use Rattle.file_record.specs.Layout.{pf_record, mv_record, mv_records, file_of, dy_record, dy_records, ev_record, ev_records, fits_event}
use Rattle.file_record.specs.Reader.{pf_length, mv_length, dy_length, ev_length, shape_base, day_start}
use Rattle.file_record.specs.Writer.{events_of, said}
use Rattle.file_record.proofs.Records.{Fields, event_fields}
use Rattle.file_record.proofs.Starts.{day_start_none, day_start_more, day_start_within, day_start_from}
use Rattle.file_record.proofs.Back.{moves_length, day_length, days_length, events_length}
use Rattle.file_record.proofs.Writing.{event_at, events_more, events_none, events_count}
use Rattle.file_putting.proofs.Putting.{put_exactly}
use Rattle.file_writing.specs.Steps.{lent_by, Shaped}

-- one record more
module _ {before whole now left : List ℕ} {start : ℕ} (q : Filling before whole now left start) where
  record_put : {part : List ℕ} (record' later : List ℕ) (end : ℕ) → start ≤ end → end ≤ length now → length record' ≡ end - start → left ≡ record' ++ later
      → part ≡ put_first record' (mid_of start (end - start) now) → Filling before whole (put_mid start (end - start) now part) later end
  record_put {part} record' later end h g long e p =
      let is : part ≡ record' = p ∙ put_exactly record' (mid_of start (end - start) now) (mid_len start end now g ∙ sym long) in
      filling_part q part later end h g (ap length is ∙ long) (rw is e)

-- a day of `h` after `k` of them, and its readings
pub record Bounds (first h k start end since to : ℕ) : Type 0 where
  pub day : end ≡ start + dy_length (first + k)
  pub days : end ≤ day_start 0 first h
  pub part : to ≡ since + size (first + k)
  pub parts : to ≤ offset first h

-- the moves: `i` are put
module _ (moves : List ℕ) (i : ℕ) where
  abbrev pub moves_left : List ℕ
  moves_left = mv_records (drop (2 * i) moves)

  left_moves : 2 * i + 2 ≤ length moves → moves_left ≡ mv_record (get_or moves (2 * i) 0) (get_or moves (2 * i + 1) 0) ++ mv_records (drop (2 * (i + 1)) moves)
  unfolding mv_records
  left_moves h =
      let next : 2 * (i + 1) ≡ suc (suc (2 * i)) = omega arith in
      rw (drop-cons moves (2 * i) 0 (omega arith), drop-cons moves (suc (2 * i)) 0 (omega arith), next, add-one (2 * i)) refl

  pub move_put : {before whole now part : List ℕ} → Filling before whole now moves_left (mv_length * i) → i < length moves / 2
      → mv_length * (length moves / 2) ≤ length now
      → part ≡ put_first (mv_record (get_or moves (2 * i) 0) (get_or moves (2 * i + 1) 0)) (mid_of (mv_length * i) (mv_length * i + mv_length - mv_length * i) now)
      → Filling before whole (put_mid (mv_length * i) (mv_length * i + mv_length - mv_length * i) now part) (mv_records (drop (2 * (i + 1)) moves)) (mv_length * (i + 1))
  unfolding mv_record bytes
  move_put q more room p =
      let next : mv_length * (i + 1) ≡ mv_length * i + mv_length = omega arith in
      rw next
      (record_put q (mv_record (get_or moves (2 * i) 0) (get_or moves (2 * i + 1) 0)) (mv_records (drop (2 * (i + 1)) moves)) (mv_length * i + mv_length) (omega arith)
      (omega arith) (omega arith) (left_moves (omega arith)) p)

-- none is left
pub moves_put : {before now : List ℕ} (moves : List ℕ) (i : ℕ) → Filling before (mv_records moves) now (moves_left moves i) (mv_length * i)
    → i ≡ length moves / 2 → length before ≡ mv_length * (length moves / 2) → now ≡ mv_records moves
moves_put {before} moves i q e long =
    let all : length before ≤ mv_length * i = omega arith in
    filled q (none (drop (2 * i) moves) (omega (arith, length-drop (2 * i) moves))) ∙ rw (drop_of_length-le before all) (append-nil (mv_records moves))
  where
    none : (l : List ℕ) → length l ≤ 1 → mv_records l ≡ []
    none [] h = unfold mv_records in refl
    none (old ∷ []) h = unfold mv_records in refl
    none (old ∷ new ∷ more) h = absurd (omega arith)

-- the days: `k` are put
module _ (first : ℕ) (marks readings : List ℕ) (k : ℕ) where
  abbrev pub days_left : List ℕ
  days_left = dy_records (first + k) (drop k marks) (drop (offset first k) readings)

  -- where the next day and its readings start and end
  module _ {start end since to : ℕ} (s : start ≡ day_start 0 first k) (e : end ≡ day_start 0 first (k + 1)) (f : since ≡ offset first k) (t : to ≡ offset first (k + 1))
      (more : k < length marks) where
    pub bounds : Bounds first (length marks) k start end since to
    bounds =
        let h = length marks in
        let split : k + 1 + (h - (k + 1)) ≡ h = omega arith in
        record {
          day = omega (arith, day_start_more 0 first k);
          days = omega (arith, day_start_more 0 first k, day_start_within 0 first k h more);
          part = omega (arith, offset-suc first k);
          parts = omega (arith, ap (offset first) split, offset-add first (k + 1) (h - (k + 1)));
        }

    module _ (sized : length readings ≡ offset first (length marks)) where
      its_readings : length (take (to - since) (drop since readings)) ≡ size (first + k)
      its_readings =
          let b = bounds in
          let room : to - since ≤ length (drop since readings) = omega (arith, b, length-drop since readings) in
          length-take-le (to - since) (drop since readings) room ∙ omega (arith, b)

      left_is : days_left ≡ dy_record (first + k) (get_or marks k 0) (take (to - since) (drop since readings))
          ++ dy_records (first + (k + 1)) (drop (k + 1) marks) (drop (offset first (k + 1)) readings)
      unfolding dy_records
      left_is =
          let b = bounds in
          let long : to - since ≡ size (first + k) = omega (arith, b) in
          let later : first + suc k ≡ suc (first + k) = omega arith in
          let on : offset first (k + 1) ≡ offset first k + size (first + k) = offset-suc first k in
          rw (drop-cons marks k 0 more, add-one k, long, f, later, (rw (add-one k) at on), ← drop-drop (size (first + k)) (offset first k) readings) refl

      pub day_put : {before whole now part : List ℕ} → Filling before whole now days_left (day_start 0 first k) → day_start 0 first (length marks) ≤ length now
          → part ≡ put_first (dy_record (first + k) (get_or marks k 0) (take (to - since) (drop since readings))) (mid_of start (end - start) now)
          → Filling before whole (put_mid start (end - start) now part)
          (dy_records (first + (k + 1)) (drop (k + 1) marks) (drop (offset first (k + 1)) readings)) (day_start 0 first (k + 1))
      day_put q room p =
          let b = bounds in
          rw (← e)
          (record_put (rw (← s) at q) (dy_record (first + k) (get_or marks k 0) (take (to - since) (drop since readings)))
          (dy_records (first + (k + 1)) (drop (k + 1) marks) (drop (offset first (k + 1)) readings)) end (omega (arith, b)) (omega (arith, b))
          (day_length (first + k) (get_or marks k 0) (take (to - since) (drop since readings)) [] its_readings ∙ omega (arith, b)) left_is p)

-- none is put
pub days_begin : (before : List ℕ) (first : ℕ) (marks readings : List ℕ)
    → Filling before (dy_records first marks readings) before (days_left first marks readings 0) (day_start 0 first 0)
unfolding offset
days_begin before first marks readings = rw (add-zero first, day_start_none 0 first) (filling_none before (dy_records first marks readings))

-- none is left
pub days_put : {before now : List ℕ} (first : ℕ) (marks readings : List ℕ) (k : ℕ) → Filling before (dy_records first marks readings) now (days_left first marks readings k) (day_start 0 first k)
    → k ≡ length marks → length before ≡ day_start 0 first (length marks) → now ≡ dy_records first marks readings
unfolding dy_records
days_put {before} first marks readings k q e long =
    let none : length marks ≤ k = omega arith in
    let all : length before ≤ day_start 0 first k = rw e (omega arith) in
    filled q (rw (drop_of_length-le marks none) refl) ∙ rw (drop_of_length-le before all) (append-nil (dy_records first marks readings))

-- the events: `i` are put
module _ (numbers : List ℕ) (i : ℕ) where
  abbrev pub events_left : List ℕ
  events_left = ev_records (events_of (drop (5 * i) numbers))

  -- the next one's numbers fit their bytes, and so do those of the others
  module _ (fit : all fits_event (events_of (drop (5 * i) numbers)) ≡ true) (more : i < length numbers / 5) where
    both_fit : (fits_event (event_at numbers i) ≡ true) × (all fits_event (events_of (drop (5 * (i + 1)) numbers)) ≡ true)
    unfolding all
    both_fit = both (fits_event (event_at numbers i)) (all fits_event (events_of (drop (5 * (i + 1)) numbers))) (rw (events_more numbers i (omega arith)) at fit)

    pub others_fit : all fits_event (events_of (drop (5 * (i + 1)) numbers)) ≡ true
    others_fit = both_fit.1

    pub one_fits : Fields (event_at numbers i)
    one_fits = event_fields (event_at numbers i) both_fit.0

  pub event_put : {before whole now part : List ℕ} → Filling before whole now events_left (ev_length * i) → i < length numbers / 5
      → ev_length * (length numbers / 5) ≤ length now → part ≡ put_first (ev_record (event_at numbers i)) (mid_of (ev_length * i) (ev_length * i + ev_length - ev_length * i) now)
      → Filling before whole (put_mid (ev_length * i) (ev_length * i + ev_length - ev_length * i) now part)
      (ev_records (events_of (drop (5 * (i + 1)) numbers))) (ev_length * (i + 1))
  unfolding ev_records ev_record bytes
  event_put q more room p =
      let next : ev_length * (i + 1) ≡ ev_length * i + ev_length = omega arith in
      rw next
      (record_put q (ev_record (event_at numbers i)) (ev_records (events_of (drop (5 * (i + 1)) numbers))) (ev_length * i + ev_length) (omega arith) (omega arith) (omega arith)
      (ap ev_records (events_more numbers i (omega arith))) p)

-- none is left
pub events_put : {before now : List ℕ} (numbers : List ℕ) (i : ℕ) → Filling before (ev_records (events_of numbers)) now (events_left numbers i) (ev_length * i)
    → i ≡ length numbers / 5 → length before ≡ ev_length * (length numbers / 5) → now ≡ ev_records (events_of numbers)
unfolding ev_records
events_put {before} numbers i q e long =
    let none : length numbers / 5 ≤ i = omega arith in
    let all : length before ≤ ev_length * i = omega arith in
    filled q (rw (events_none numbers i none) refl) ∙ rw (drop_of_length-le before all) (append-nil (ev_records (events_of numbers)))

-- the PF, and then the MV
module _ (participation portfolio : ℕ) (moves out : List ℕ) (long : length out ≡ pf_length + mv_length * (length moves / 2)) where
  abbrev pf : List ℕ
  pf = pf_record participation portfolio

  with_pf : {part : List ℕ} → part ≡ put_first pf (mid_of 0 (pf_length - 0) out) → Filling out (pf ++ mv_records moves) (put_mid 0 (pf_length - 0) out part) (mv_records moves) pf_length
  unfolding pf_record bytes
  with_pf p = record_put (filling_none out (pf ++ mv_records moves)) pf (mv_records moves) pf_length (omega arith) (omega arith) refl refl p

  module _ {first_part : List ℕ} (p : first_part ≡ put_first pf (mid_of 0 (pf_length - 0) out)) where
    abbrev opened_pf : List ℕ
    opened_pf = put_mid 0 (pf_length - 0) out first_part

    pub moves_room : length (mid_of pf_length (length out - pf_length) opened_pf) ≡ mv_length * (length moves / 2)
    moves_room = mid_len pf_length (length out) opened_pf (omega (arith, (with_pf p).long)) ∙ omega arith

    pub opening_put : {part : List ℕ} → part ≡ mv_records moves → put_mid pf_length (length out - pf_length) opened_pf part ≡ pf ++ mv_records moves
    opening_put {part} m =
        let size : length part ≡ length out - pf_length = ap length m ∙ moves_length moves ∙ omega arith in
        let all : length out ≤ length out = omega arith in
        filled (filling_part (with_pf p) part [] (length out) (omega arith) (omega (arith, (with_pf p).long)) size (rw m (sym (append-nil (mv_records moves))))) refl
        ∙ rw (drop_of_length-le out all) (append-nil (pf ++ mv_records moves))

-- the whole file: opening, days and events
module _ {shape : Shape} {start : ℕ} {marks readings moves numbers out : List ℕ} (q : Shaped shape start marks readings moves numbers out) {base : ℕ}
    (b : base ≡ shape_base shape) where
  abbrev opening : List ℕ
  opening = pf_record shape.participation shape.portfolio ++ mv_records moves

  abbrev days : List ℕ
  days = dy_records shape.first marks readings

  abbrev events : List ℕ
  events = ev_records (events_of numbers)

  abbrev file : List ℕ
  file = file_of (said (lent_by shape marks readings moves numbers))

  opening_long : length opening ≡ base
  unfolding pf_record bytes
  opening_long = omega (arith, q.pairs, moves_length moves)

  pub record Places : Type 0 where
    pub opens : base ≤ start
    pub ends : start ≤ length out
    pub wide : start - base ≡ day_start 0 shape.first (length marks)

  pub places : Places
  places =
      let s = q.events in
      let d = day_start_from (shape_base shape) shape.first (length marks) in
      record { opens = omega arith; ends = omega (arith, q.whole); wide = omega arith }

  opened : {part : List ℕ} → part ≡ opening → Filling out file (put_mid 0 (base - 0) out part) (days ++ events) base
  unfolding file_of
  opened {part} p =
      filling_part (filling_none out file) part (days ++ events) base (omega arith) (omega (arith, places)) (ap length p ∙ opening_long ∙ omega arith)
      (rw p (append_assoc opening days events))

  pub opening_room : length (mid_of 0 (base - 0) out) ≡ shape_base shape
  opening_room = mid_len 0 base out (omega (arith, places)) ∙ omega arith

  module _ {first_part : List ℕ} (p : first_part ≡ opening) where
    abbrev now : List ℕ
    now = put_mid 0 (base - 0) out first_part

    now_long : length now ≡ length out
    now_long = (opened p).long

    pub days_room : length (mid_of base (start - base) now) ≡ day_start 0 shape.first (length marks)
    days_room = mid_len base start now (omega (arith, now_long, places)) ∙ places.wide

    module _ {day_part : List ℕ} (d : day_part ≡ days) where
      with_days : Filling out file (put_mid base (start - base) now day_part) events start
      with_days =
          let long : length day_part ≡ start - base = ap length d ∙ days_length marks readings shape.first q.size ∙ sym places.wide in
          filling_part (opened p) day_part events start places.opens (omega (arith, now_long, places)) long (rw d refl)

      pub events_room : length (mid_of start (length out - start) (put_mid base (start - base) now day_part)) ≡ ev_length * (length numbers / 5)
      events_room = mid_len start (length out) (put_mid base (start - base) now day_part) (omega (arith, with_days.long)) ∙ omega (arith, q.whole)

      module _ {event_part : List ℕ} (v : event_part ≡ events) where
        abbrev whole : List ℕ
        whole = put_mid start (length out - start) (put_mid base (start - base) now day_part) event_part

        with_events : Filling out file whole [] (length out)
        with_events =
            let count = events_count numbers in
            let long : length event_part ≡ length out - start = ap length v ∙ events_length (events_of numbers) ∙ omega (arith, q.whole) in
            filling_part with_days event_part [] (length out) places.ends (omega (arith, with_days.long)) long (rw v (sym (append-nil events)))

        pub file_long : length whole ≡ length out
        file_long = with_events.long

        pub file_put : whole ≡ file
        file_put =
            let all : length out ≤ length out = omega arith in
            filled with_events refl ∙ rw (drop_of_length-le out all) (append-nil file)
