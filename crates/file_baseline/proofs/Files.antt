-- One law for each way out of the entry.
use Prim.Native.Nat.{ℕ, ◌+◌, ◌-◌, ◌*◌, ◌/◌, ◌≤◌, ◌<◌}
use mathlib.Core.Path.{◌≡◌, refl, sym, ap, ◌∙◌}
use mathlib.Core.Bool.{true, false}
use mathlib.Core.List.{List, ◌++◌}
use native.Mathlib.Omega.{arith}
use lib.ListN.{length, take, drop, length-append}
use Rattle.base_lists.specs.Lists.{leading}
use Rattle.base_lists.proofs.Bools.{clash}
use Rattle.base_lists.proofs.Leading.{leading_most, leading_stops, leading_goes_on}
use Rattle.calendar_dates.specs.Days.{last_day}
use Rattle.method.specs.declared.Request.{Request}
use Rattle.method.specs.declared.Refusal.{Refusal}
use Rattle.method.specs.Table.{Table, offset, most_quarters, good_reading, history, is_extract}
use Rattle.method.specs.Verdict.{refused, table_refusals, verdict}
use Rattle.method.proofs.Tables.{offset_most}
use Rattle.engine_rooms.specs.Agree.{Agree}
use Rattle.std.specs.Prelude.{Result, Ok, Err}
use Rattle.engine_refusals.specs.Steps.{tested}
use Rattle.engine_baseline.specs.Engine.{over_rooms}
use Rattle.table_days.specs.Lent.{table_of}
use Rattle.table_days.proofs.Extracts.{extract_is}
use Rattle.table_directory.specs.Steps.{directory_of}
use Rattle.table_refusals.proofs.FirstRefusal.{table_passed}
use Rattle.table_engine.specs.Steps.{over_table}
use Rattle.table_baseline.proofs.Tables.{over_rooms_lem}
use Rattle.file_record.specs.declared.Shape.{Shape}
use Rattle.file_record.specs.declared.Span.{Span}
use Rattle.file_record.specs.Reader.{read_file, list_in, table_in, event_at_place}
use Rattle.file_record.specs.Steps.{table_within, span_within}
use Rattle.file_record.proofs.Files.{shape_fits}
use Rattle.file_record.proofs.Lengths.{table_within_lem, marks_within, readings_within}
use Rattle.file_record.proofs.Spans.{span, readings_parts, readings_before, marks_part}
use Rattle.file_loading.specs.Steps.{stands_within, fits_within, bad_within}
use Rattle.file_loading.proofs.Loading.{place, stands_in, stands_own, bad_in, fits_own}
use Rattle.file_loading.proofs.Buffers.{WithinBuffers}
use Rattle.file_baseline.specs.Reply.{file_reply}
use Rattle.file_baseline.specs.Steps.{LaidDown, Loaded, asked}
use Rattle.file_baseline.proofs.DaysAsked.{asks, asks_of, rooms_agree}

-- ---- the file, and the event at a place
pub refused_file : (file : List ℕ) (place room : ℕ) {w : Refusal} → read_file file ≡ Err w → file_reply file place room ≡ refused w
unfolding file_reply
refused_file file place room e = rw e

module _ (file : List ℕ) (place room : ℕ) {at : Result Request Refusal} (s : at ≡ event_at_place (read_file file) file place) where
  pub refused_there : {w : Refusal} → at ≡ Err w → file_reply file place room ≡ refused w
  unfolding file_reply
  refused_there e = rw (← s, e)

  pub event_there : {request : Request} → at ≡ Ok request → file_reply file place room ≡ verdict (list_in file) (table_in file) request (room / 4)
  unfolding file_reply
  event_there e = rw (← s, e)

-- ---- loading
module _ {file : List ℕ} {shape : Shape} (q : LaidDown file shape) where
  pub own_table : table_within shape file ≡ table_in file
  own_table = table_within_lem file q.accepted

  pub its_count : length (table_in file).readings ≡ offset shape.first shape.days
  its_count = rw (← own_table) (readings_within shape file)

  readings_few : length (table_in file).readings ≤ most_quarters * 128
  readings_few = omega (arith, its_count, offset_most shape.first shape.days 128 (shape_fits file shape q.accepted).days)

  -- a place among its readings, or their number, is small
  pub bad_few : leading good_reading (table_in file).readings ≤ most_quarters * 128
  bad_few = omega (arith, readings_few, leading_most good_reading (table_in file).readings)

  -- what an event can ask for fits into rooms for 46 days
  module _ (event : ℕ) where
    pub rooms_enough : {s : Span} → s ≡ asked shape event → place shape s s.end ≤ most_quarters * 46
    rooms_enough {s} is = offset_most (shape.first + s.start) (s.end - s.start) 46 (asks_of shape is).few

    asked_fits : fits_within shape (asked shape event) file 128 (most_quarters * 46 + 2) ≡ true
    asked_fits =
        let a = asks shape event in
        fits_own shape (asked shape event) file 128 (most_quarters * 46 + 2) q.accepted a.low a.high (shape_fits file shape q.accepted).days (omega (arith, rooms_enough refl))

    pub never_full : {s : Span} → s ≡ asked shape event → {X : Type 0} → false ≡ fits_within shape s file 128 (most_quarters * 46 + 2) → X
    never_full is e = absurd (clash asked_fits (rw is at (sym e)))

-- ---- loaded: the rooms are those days, and the marks the file's
module _ {file : List ℕ} {shape : Shape} (event : ℕ) {count : ℕ} {s : Span} {marks readings : List ℕ} (q : LaidDown file shape) (is : s ≡ asked shape event)
    (b : WithinBuffers shape s file count marks readings) where
  pub in_rooms : Loaded file shape s (take count readings)
  in_rooms = let a = asks_of shape is in record { laid_down = q; low = a.low; high = a.high; its_rooms = b.its_readings }

  pub in_marks : take shape.days marks ≡ (table_in file).marks
  in_marks = b.its_marks ∙ rw (own_table q) refl

-- ---- the first bad reading, of which the days before a span, the span in its rooms and the days after it are searched one after the other
module _ {file : List ℕ} {shape : Shape} {s : Span} {rooms : List ℕ} (q : Loaded file shape s rooms) where
  abbrev before : List ℕ
  before = (span_within shape (span 0 s.start) file).readings

  abbrev behind : List ℕ
  behind = (span_within shape (span s.end shape.days) file).readings

  parts : (table_in file).readings ≡ before ++ (rooms ++ behind)
  parts = rw (← own_table q.laid_down, q.its_rooms) (readings_parts shape file s q.low q.high)

  stands : (k m : ℕ) → k ≤ m → m ≤ shape.days → stands_within shape (span k m) (length file) ≡ true
  stands k m low high = stands_in (stands_own q.laid_down.accepted (span k m) low high)

  long : length before ≡ offset shape.first s.start
  long = readings_before shape file s q.low q.high

  pub rooms_few : offset shape.first s.start + length rooms ≤ most_quarters * 128
  rooms_few =
      omega (arith, long, readings_few q.laid_down, ap length parts ∙ length-append before (rooms ++ behind), length-append rooms behind)

  module _ {bad : ℕ} (b : bad ≡ bad_within shape (span 0 s.start) file) where
    bad_before : bad ≡ leading good_reading before
    bad_before = b ∙ sym (bad_in shape (span 0 s.start) file (stands 0 s.start (omega arith) (omega (arith, q.low, q.high))))

    pub found_before : bad < offset shape.first s.start → bad ≡ leading good_reading (table_in file).readings
    found_before h =
        bad_before ∙ sym (ap (leading good_reading) parts ∙ leading_stops good_reading before (rooms ++ behind) (omega (arith, bad_before, long)))

    module _ (good : offset shape.first s.start ≤ bad) {inside : ℕ} (i : inside ≡ leading good_reading rooms) where
      from_rooms : leading good_reading (table_in file).readings ≡ offset shape.first s.start + leading good_reading (rooms ++ behind)
      from_rooms =
          ap (leading good_reading) parts ∙ leading_goes_on good_reading before (rooms ++ behind) (omega (arith, bad_before, long)) ∙ rw long

      pub found_inside : inside < length rooms → offset shape.first s.start + inside ≡ leading good_reading (table_in file).readings
      found_inside h = omega (arith, from_rooms, leading_stops good_reading rooms behind (omega (arith, i)))

      pub found_after : length rooms ≤ inside → {last : ℕ} → last ≡ bad_within shape (span s.end shape.days) file
          → offset shape.first s.start + length rooms + last ≡ leading good_reading (table_in file).readings
      found_after h l =
          omega (
            arith,
            from_rooms,
            leading_goes_on good_reading rooms behind (omega (arith, i)),
            l ∙ sym (bad_in shape (span s.end shape.days) file (stands s.end shape.days q.high (omega arith))),
          )

-- ---- the table of the file, from its loaded marks
module _ {file : List ℕ} {shape : Shape} {marks : List ℕ} (q : LaidDown file shape) (m : marks ≡ (table_in file).marks) where
  pub marks_count : length marks ≡ shape.days
  marks_count = rw (m, ← own_table q) (marks_within shape file)

  pub its_table : table_of shape.first marks (table_in file).readings ≡ table_in file
  its_table = rw (m, ← own_table q) (unfold table_within in refl)

  -- 1 and 2 of it, as the code finds them
  pub of_early : {count : ℕ} {found : Result (Unit {0}) Refusal} → count ≡ offset shape.first shape.days
      → ((readings : List ℕ) → length readings ≡ count → found ≡ tested (take 2 (table_refusals (table_of shape.first marks readings))))
      → tested (take 2 (table_refusals (table_in file))) ≡ found
  of_early n f =
      sym (f (table_in file).readings (its_count q ∙ sym n) ∙ ap (λ (t : Table). tested (take 2 (table_refusals t))) its_table)

-- ---- the file as a store: the engine over the rooms of what an event can ask for gives the verdict
module _ {file : List ℕ} {shape : Shape} {s : Span} {rooms marks : List ℕ} (q : Loaded file shape s rooms) (m : marks ≡ (table_in file).marks) (r : Request)
    (is : s ≡ asked shape r.event) (passed : tested (table_refusals (table_in file)) ≡ Ok tt) where
  extract : is_extract (table_within shape file) ≡ true
  extract = rw (own_table q.laid_down) (table_passed (table_in file) passed).extract

  pub day_few : shape.first + s.start ≤ last_day + 1
  day_few =
      let x = extract_is (table_within shape file) extract in
      let own : (table_within shape file).first ≡ shape.first = unfold table_within in refl in
      omega (arith, x.last, x.days, own, marks_within shape file, q.low, q.high)

  abbrev part : Table
  part = span_within shape s file

  agree : Agree r (directory_of part r.event) rooms (history (table_in file))
  agree = rw (← own_table q.laid_down, q.its_rooms, is) (rooms_agree shape file r extract)

  part_is : table_of (shape.first + s.start) (take (s.end - s.start) (drop s.start marks)) rooms ≡ part
  part_is = rw (m, q.its_rooms, ← own_table q.laid_down, marks_part shape file s q.low q.high) (unfold span_within in refl)

  pub over_loaded : (moves : List ℕ) (room : ℕ)
      → over_table moves (table_of (shape.first + s.start) (take (s.end - s.start) (drop s.start marks)) rooms) r room ≡ verdict moves (table_in file) r room
  unfolding over_table
  over_loaded moves room =
      ap (λ (t : Table). over_rooms moves r (directory_of t r.event) rooms room) part_is ∙ over_rooms_lem moves (table_in file) r room passed agree
