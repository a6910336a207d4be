-- Days and readings that are loaded or passed one after the other: one more, and none left.
use Prim.Native.Nat.{ℕ, suc, ◌+◌, ◌-◌, ◌*◌, ◌<◌, ◌≤◌}
use mathlib.Core.Path.{◌≡◌, refl, ◌∙◌, ap}
use mathlib.Core.List.{List, [], ◌∷◌, ◌++◌, append-nil}
use mathlib.Core.Logic.{⊎_elim}
use native.Mathlib.Omega.{arith}
use native.Mathlib.Nat.{add-zero, sub-zero}
use lib.ListN.{length, drop, get_or, set, drop_of_length-le}
use lib.Seq.{get_or-drop, drop-drop}
use borrow.Rule.Slice.PartMut.{put_mid}
use borrow.Author.Tests.{leb-true, le-leb}
use lib.Dec.{leb}
use Rattle.base_lists.specs.Lists.{leading}
use Rattle.base_lists.proofs.Bools.{both, bool_cases}
use Rattle.base_lists.proofs.Leading.{leading_most, leading_stops, leading_goes_on}
use mathlib.Core.Bool.{Bool, true, false, ◌&&◌}
use Rattle.file_record.specs.declared.Shape.{Shape}
use Rattle.file_record.specs.declared.Span.{Span}
use Rattle.std.specs.Prelude.{Ok}
use Rattle.method.specs.Table.{size, offset, good_reading}
use Rattle.file_record.specs.Reader.{number_at, dy_length, shape_base, day_start, marks_from, numbers, readings_from, read_file}
use Rattle.file_record.specs.Steps.{table_within, span_within}
use Rattle.file_loading.specs.Steps.{stands_within, fits_within, bad_within, Stands}
use Rattle.file_record.proofs.Numbers.{number_drop, number_four}
use Rattle.method.proofs.Tables.{offset-add, offset-suc}
use Rattle.file_record.proofs.Starts.{day_start_more, day_start_within}
use Rattle.file_record.proofs.Lengths.{numbers-length, marks_within}
use Rattle.file_record.proofs.Spans.{span_readings_length}
use Rattle.file_record.proofs.Files.{shape_fits}
use Rattle.base_bytes.proofs.Filling.{Filling, filling_one, filling_part, filled}

module _ (file : List ℕ) (at next : ℕ) where
  pub numbers_more : (k count : ℕ) → k < count → next ≡ at + 4
      → numbers (count - k) (drop at file) ≡ number_at 4 at file ∷ numbers (count - (k + 1)) (drop next file)
  unfolding numbers
  numbers_more k count h e =
      let fewer : count - k ≡ suc (count - (k + 1)) = omega arith in
      rw (fewer, number_drop 4 at 0 file, add-zero at, drop-drop 4 at file, e)

  module _ (k h first : ℕ) (more : k < h) (e : next ≡ at + dy_length (first + k)) where
    pub marks_more : marks_from (h - k) (first + k) (drop at file)
        ≡ get_or file (at + 4) 0 ∷ marks_from (h - (k + 1)) (first + (k + 1)) (drop next file)
    unfolding marks_from
    marks_more =
        let fewer : h - k ≡ suc (h - (k + 1)) = omega arith in
        let later : suc (first + k) ≡ first + (k + 1) = omega arith in
        rw (fewer, get_or-drop at file 4 0, drop-drop (dy_length (first + k)) at file, later, e)

    pub readings_more : readings_from (h - k) (first + k) (drop at file)
        ≡ numbers (size (first + k)) (drop (at + 6) file) ++ readings_from (h - (k + 1)) (first + (k + 1)) (drop next file)
    unfolding readings_from
    readings_more =
        let fewer : h - k ≡ suc (h - (k + 1)) = omega arith in
        let later : suc (first + k) ≡ first + (k + 1) = omega arith in
        rw (fewer, drop-drop 6 at file, drop-drop (dy_length (first + k)) at file, later, e)

module _ (k h : ℕ) (all : h ≤ k) where
  none : h - k ≡ 0
  none = omega arith

  pub numbers_none : (left : List ℕ) → numbers (h - k) left ≡ []
  unfolding numbers
  numbers_none left = rw none

  pub marks_none : (d : ℕ) (left : List ℕ) → marks_from (h - k) d left ≡ []
  unfolding marks_from
  marks_none d left = rw none

  pub readings_none : (d : ℕ) (left : List ℕ) → readings_from (h - k) d left ≡ []
  unfolding readings_from
  readings_none d left = rw none

-- one more reading is put behind those that are loaded
pub reading_put : (file : List ℕ) {before whole now : List ℕ} (count at q : ℕ) {v : ℕ} → Filling before whole now (numbers (count - q) (drop (at + 4 * q) file)) q
    → q < count → q < length now
    → v ≡ get_or file (at + 4 * q) 0 + 256 * get_or file (at + 4 * q + 1) 0 + 65536 * get_or file (at + 4 * q + 2) 0 + 16777216 * get_or file (at + 4 * q + 3) 0
    → Filling before whole (set now q v) (numbers (count - (q + 1)) (drop (at + 4 * (q + 1)) file)) (q + 1)
reading_put file count at q f more room e =
    let far : at + 4 * (q + 1) ≡ at + 4 * q + 4 = omega arith in
    rw (e, ← number_four (at + 4 * q) file)
    (filling_one f _ _ room (numbers_more file (at + 4 * q) (at + 4 * (q + 1)) q count more far))

-- a whole day is loaded
pub day_loaded : (file before now : List ℕ) (start at q : ℕ) → length before ≤ q
    → Filling before (numbers (length before) (drop start file)) now (numbers (length before - q) (drop at file)) q
    → now ≡ numbers (length before) (drop start file)
day_loaded file before now start at q all f =
    filled f (numbers_none q (length before) all (drop at file))
    ∙ (rw (drop_of_length-le before all) (append-nil (numbers (length before) (drop start file))))

-- where the days of a shape start
module _ (shape : Shape) where
  abbrev pub start : ℕ → ℕ
  start = day_start (shape_base shape) shape.first

  -- one of them stands within a file that reaches to their end
  pub day_within : (file : List ℕ) {k base at : ℕ} → k < shape.days → base ≡ shape_base shape → at ≡ day_start base shape.first k → start shape.days ≤ length file
      → at + dy_length (shape.first + k) ≤ length file
  day_within file {k} more b a long = omega (arith, day_start_within (shape_base shape) shape.first k shape.days more, rw b at a)

-- how many readings stand before a day of a span, among those of the span
module _ (shape : Shape) (s : Span) where
  abbrev pub place : ℕ → ℕ
  place k = offset (shape.first + s.start) (k - s.start)

  pub place_is : (k : ℕ) → s.start ≤ k → (offset shape.first s.start ≤ offset shape.first k) × (offset shape.first k - offset shape.first s.start ≡ place k)
  place_is k low =
      let split : s.start + (k - s.start) ≡ k = omega arith in
      let whole = rw split at (offset-add shape.first s.start (k - s.start)) in
      (omega (arith, whole), omega (arith, whole))

  pub place_none : place s.start ≡ 0
  unfolding offset
  place_none = let none : s.start - s.start ≡ 0 = omega arith in rw none refl

  pub place-suc : (k : ℕ) → s.start ≤ k → place (k + 1) ≡ place k + size (shape.first + k)
  place-suc k low =
      let later : k + 1 - s.start ≡ k - s.start + 1 = omega arith in
      let day : shape.first + s.start + (k - s.start) ≡ shape.first + k = omega arith in
      rw (later, offset-suc (shape.first + s.start) (k - s.start), day) refl

  pub place_within : (k : ℕ) → s.start ≤ k → k ≤ s.end → place k ≤ place s.end
  place_within k low high =
      let split : k - s.start + (s.end - k) ≡ s.end - s.start = omega arith in
      omega (arith, rw split at (offset-add (shape.first + s.start) (k - s.start) (s.end - k)))

-- all the days
pub place_whole : (shape : Shape) → place shape (record { start = 0; end = shape.days }) shape.days ≡ offset shape.first shape.days
place_whole shape = rw (add-zero shape.first, sub-zero shape.days) refl

-- one more day is put behind those that are loaded
module _ (shape : Shape) (s : Span) (file : List ℕ) {k : ℕ} (low : s.start ≤ k) (more : k < s.end) where
  -- the part that its readings get
  pub part_size : {from to : ℕ} → from ≡ place shape s k → to ≡ place shape s (k + 1) → (from ≤ to) × (to - from ≡ size (shape.first + k))
  part_size l r = let step = place-suc shape s k low in (omega arith, omega arith)

  pub part_within : {to room : ℕ} → to ≡ place shape s (k + 1) → place shape s s.end ≤ room → to ≤ room
  part_within r enough = omega (arith, place_within shape s (k + 1) (omega arith) (omega arith))

  -- the days from it on: its readings, and those of the days after it
  pub its_readings : readings_from (s.end - k) (shape.first + k) (drop (start shape k) file)
      ≡ numbers (size (shape.first + k)) (drop (start shape k + 6) file) ++ readings_from (s.end - (k + 1)) (shape.first + (k + 1)) (drop (start shape (k + 1)) file)
  its_readings = readings_more file (start shape k) (start shape (k + 1)) k s.end shape.first more (day_start_more (shape_base shape) shape.first k)

  pub day_put : {before whole now part : List ℕ} {from to at : ℕ}
      → Filling before whole now (readings_from (s.end - k) (shape.first + k) (drop (start shape k) file)) (place shape s k)
      → place shape s s.end ≤ length now → from ≡ place shape s k → to ≡ place shape s (k + 1)
      → at ≡ start shape k + 6 → part ≡ numbers (size (shape.first + k)) (drop at file)
      → Filling before whole (put_mid from (to - from) now part)
      (readings_from (s.end - (k + 1)) (shape.first + (k + 1)) (drop (start shape (k + 1)) file)) (place shape s (k + 1))
  day_put {part = part} {at = at} f enough l r a p =
      let step = place-suc shape s k low in
      let long : length part ≡ place shape s (k + 1) - place shape s k =
      ap length p ∙ numbers-length (size (shape.first + k)) (drop at file) ∙ omega arith in
      rw (l, r)
      (filling_part f part (readings_from (s.end - (k + 1)) (shape.first + (k + 1)) (drop (start shape (k + 1)) file)) (place shape s (k + 1))
      (omega arith) (omega (arith, place_within shape s (k + 1) (omega arith) (omega arith))) long (rw (p, a) its_readings))

-- where such a day stands, and the part that its readings get
pub record Inside (shape : Shape) (s : Span) (file : List ℕ) (k at from to : ℕ) : Type 0 where
  pub starts : at ≡ start shape k
  pub day : at + dy_length (shape.first + k) ≤ length file
  pub order : from ≤ to
  pub part : to - from ≡ size (shape.first + k)
  pub last : to ≤ place shape s s.end

pub inside : (shape : Shape) (s : Span) (file : List ℕ) {k base at from to : ℕ} → Stands file shape s → s.start ≤ k → k < s.end → base ≡ shape_base shape
    → at ≡ day_start base shape.first k → from ≡ place shape s k → to ≡ place shape s (k + 1) → Inside shape s file k at from to
inside shape s file q low more b a l r =
    let part = part_size shape s file low more l r in
    record {
      starts = rw b at a;
      day = day_within shape file (omega (arith, q.high)) b a q.long;
      order = part.0;
      part = part.1;
      last = part_within shape s file low more r (omega arith);
    }

-- all days are loaded
pub marks_loaded : (shape : Shape) (file before now : List ℕ) (k at : ℕ) → k ≤ shape.days → shape.days ≤ k
    → Filling before (marks_from shape.days shape.first (drop (shape_base shape) file)) now (marks_from (shape.days - k) (shape.first + k) (drop at file)) k
    → now ≡ (table_within shape file).marks ++ drop shape.days before
unfolding table_within
marks_loaded shape file before now k at below all q =
    let counted : k ≡ shape.days = omega arith in
    filled q (marks_none k shape.days all (shape.first + k) (drop at file))
    ∙ ap (λ (n : ℕ). marks_from shape.days shape.first (drop (shape_base shape) file) ++ drop n before) counted

pub readings_loaded : (shape : Shape) (s : Span) (file before now : List ℕ) (k at : ℕ) → k ≤ s.end → s.end ≤ k
    → Filling before (span_within shape s file).readings now (readings_from (s.end - k) (shape.first + k) (drop at file)) (place shape s k)
    → now ≡ (span_within shape s file).readings ++ drop (place shape s s.end) before
readings_loaded shape s file before now k at below all q =
    let counted : k ≡ s.end = omega arith in
    filled q (readings_none k s.end all (shape.first + k) (drop at file))
    ∙ ap (λ (n : ℕ). (span_within shape s file).readings ++ drop (place shape s n) before) counted

-- the days of a span that are passed, and those that are left to pass
pub record Passing (shape : Shape) (s : Span) (file : List ℕ) (k : ℕ) : Type 0 where
  pub low : s.start ≤ k
  pub high : k ≤ s.end
  pub passed : leading good_reading (span_within shape s file).readings
      ≡ place shape s k + leading good_reading (readings_from (s.end - k) (shape.first + k) (drop (start shape k) file))

pub passing_none : (shape : Shape) (s : Span) (file : List ℕ) → s.start ≤ s.end → Passing shape s file s.start
unfolding span_within
passing_none shape s file some =
    record { low = omega arith; high = some; passed = omega (arith, place_none shape s) }

module _ (shape : Shape) (s : Span) (file : List ℕ) {k : ℕ} (q : Passing shape s file k) where
  module _ (more : k < s.end) {at good : ℕ} (a : at ≡ start shape k + 6) (g : good ≡ leading good_reading (numbers (size (shape.first + k)) (drop at file))) where
    abbrev day : List ℕ
    day = numbers (size (shape.first + k)) (drop (start shape k + 6) file)

    abbrev later : List ℕ
    later = readings_from (s.end - (k + 1)) (shape.first + (k + 1)) (drop (start shape (k + 1)) file)

    long : length day ≡ size (shape.first + k)
    long = numbers-length (size (shape.first + k)) (drop (start shape k + 6) file)

    its_good : good ≡ leading good_reading day
    its_good = g ∙ ap (λ (n : ℕ). leading good_reading (numbers (size (shape.first + k)) (drop n file))) a

    left : leading good_reading (readings_from (s.end - k) (shape.first + k) (drop (start shape k) file)) ≡ leading good_reading (day ++ later)
    left = ap (leading good_reading) (its_readings shape s file q.low more)

    pub passing_stops : good < size (shape.first + k) → place shape s k + good ≡ leading good_reading (span_within shape s file).readings
    passing_stops h =
        let stops = leading_stops good_reading day later (omega (arith, its_good, long)) in
        omega (arith, q.passed, left, stops, its_good)

    pub passing_more : size (shape.first + k) ≤ good → Passing shape s file (k + 1)
    passing_more h =
        let goes_on = leading_goes_on good_reading day later (omega (arith, its_good, long)) in
        record {
          low = omega (arith, q.low);
          high = omega arith;
          passed = omega (arith, q.passed, left, goes_on, long, place-suc shape s k q.low);
        }

  pub passing_end : s.end ≤ k → place shape s s.end ≡ leading good_reading (span_within shape s file).readings
  unfolding leading
  passing_end all =
      let counted : k ≡ s.end = omega (arith, q.high) in
      let none = ap (leading good_reading) (readings_none k s.end all (shape.first + k) (drop (start shape k) file)) in
      omega (arith, q.passed, none, ap (place shape s) counted)

-- the rest of a buffer starts where the values end
pub rest_kept : {now : List ℕ} (values before : List ℕ) {n : ℕ} → length values ≡ n → now ≡ values ++ drop n before → now ≡ values ++ drop (length values) before
rest_kept values before e h = rw e h

-- a span that stands in a file, by the test
pub stands_is : (shape : Shape) (s : Span) (file : List ℕ) → stands_within shape s (length file) ≡ true → Stands file shape s
unfolding stands_within
stands_is shape s file t =
    let end = start shape shape.days in
    let k = both (leb s.start s.end) (leb s.end shape.days && leb end (length file)) t in
    let h = both (leb s.end shape.days) (leb end (length file)) k.1 in
    record { low = leb-true s.start s.end k.0; high = leb-true s.end shape.days h.0; long = leb-true end (length file) h.1 }

pub stands_in : {shape : Shape} {s : Span} {file : List ℕ} → Stands file shape s → stands_within shape s (length file) ≡ true
unfolding stands_within
stands_in {shape} {s} {file} q =
    rw (le-leb s.start s.end q.low, le-leb s.end shape.days q.high, le-leb (start shape shape.days) (length file) q.long)

-- a span of an accepted file stands in it
pub stands_own : {file : List ℕ} {shape : Shape} → read_file file ≡ Ok shape → (s : Span) → s.start ≤ s.end → s.end ≤ shape.days → Stands file shape s
stands_own {file} {shape} r s low high = record { low = low; high = high; long = omega (arith, (shape_fits file shape r).whole) }

-- the first bad reading of a span, by each way out of the code
module _ (shape : Shape) (s : Span) (file : List ℕ) where
  pub bad_in : stands_within shape s (length file) ≡ true → leading good_reading (span_within shape s file).readings ≡ bad_within shape s file
  unfolding bad_within
  bad_in t = rw t

  pub bad_none : stands_within shape s (length file) ≡ false → 0 ≡ bad_within shape s file
  unfolding bad_within
  bad_none t = rw t

  pub bad_empty : s.end ≤ s.start → 0 ≡ bad_within shape s file
  unfolding offset
  bad_empty h =
      let none : s.end - s.start ≡ 0 = omega arith in
      let short : length (span_within shape s file).readings ≡ 0 = span_readings_length shape file s ∙ rw none refl in
      let few = leading_most good_reading (span_within shape s file).readings in
      ⊎_elim (λ t. omega (arith, few, short, bad_in t)) bad_none (bool_cases (stands_within shape s (length file)))

-- whether the days fit, in the words of the code
module _ (shape : Shape) (s : Span) (file : List ℕ) (marks readings : ℕ) where
  abbrev room : Bool
  room = leb shape.days marks && leb (place shape s s.end) readings

  pub fits_is : fits_within shape s file marks readings ≡ (stands_within shape s (length file) && room)
  unfolding fits_within
  fits_is = rw (marks_within shape file, span_readings_length shape file s)

  pub record Fitted : Type 0 where
    pub stands : Stands file shape s
    pub few : shape.days ≤ marks
    pub enough : place shape s s.end ≤ readings

  pub fitted : (stands_within shape s (length file) && room) ≡ true → Fitted
  fitted t =
      let both_of = both (stands_within shape s (length file)) room t in
      let k = both (leb shape.days marks) (leb (place shape s s.end) readings) both_of.1 in
      record { stands = stands_is shape s file both_of.0; few = leb-true shape.days marks k.0; enough = leb-true (place shape s s.end) readings k.1 }

  -- an accepted file is loaded into buffers that have room for its days
  pub fits_own : read_file file ≡ Ok shape → s.start ≤ s.end → s.end ≤ shape.days → shape.days ≤ marks → place shape s s.end ≤ readings
      → fits_within shape s file marks readings ≡ true
  fits_own r low high few enough =
      rw (fits_is, stands_in (stands_own r s low high), le-leb shape.days marks few, le-leb (place shape s s.end) readings enough)
