-- A day of a file by its record, and one law for each way out of asking for a number of it.
use Prim.Native.Nat.{ℕ, ◌+◌, ◌-◌, ◌*◌, ◌<◌, ◌≤◌}
use mathlib.Core.Path.{◌≡◌, refl, ap, ◌∙◌}
use mathlib.Core.Bool.{true, false}
use mathlib.Core.List.{List, []}
use native.Mathlib.Omega.{arith}
use borrow.Author.Tests.{lt-ltb, le-ltb, leb-true, ltb-true}
use lib.ListN.{length, get_or, drop}
use lib.Dec.{leb, ltb}
use lib.Seq.{take_at, get_or-drop, drop-drop}
use Rattle.base_lists.proofs.Bools.{both}
use Rattle.method.specs.Table.{Table, Day, size, offset, day_of, held, history}
use Rattle.method.proofs.Histories.{is_held}
use Rattle.file_record.specs.declared.Shape.{Shape}
use Rattle.file_record.specs.Reader.{number_at, dy_length, shape_base, day_start, marks_from, numbers, readings_from, read_file}
use Rattle.file_record.specs.Steps.{table_within, span_within}
use Rattle.file_record.proofs.Numbers.{number_drop}
use Rattle.file_record.proofs.Starts.{day_start_within}
use Rattle.file_record.proofs.Lengths.{numbers-length, numbers_at, marks_within, table_within_lem}
use Rattle.file_record.proofs.Spans.{span, span_marks_length, span_longer}
use Rattle.file_record.proofs.Files.{shape_fits}
use Rattle.file_days.specs.Steps.{holds_day}
use Rattle.file_days.specs.HeldDay.{mark_of, reading_of, mark_in, reading_in}
use Rattle.std.specs.Prelude.{Some, None, Ok, Err}
use Rattle.method.specs.declared.Refusal.{Refusal}

-- what a record says of its day
abbrev recorded : ℕ → List ℕ → Day
recorded d left = record { mark = get_or left 4 0; readings = numbers (size d) (drop 6 left) }

-- a table of one day
one_day : (d : ℕ) (left : List ℕ) → day_of (record { first = d; marks = marks_from 1 d left; readings = readings_from 1 d left }) d ≡ recorded d left
unfolding day_of marks_from readings_from offset
one_day d left =
    let none : d - d ≡ 0 = omega arith in
    rw none (ap (λ (l : List ℕ). record { mark = get_or left 4 0; readings = l }) (take_at (numbers (size d) (drop 6 left)) [] (size d) (numbers-length (size d) (drop 6 left))))

module _ (shape : Shape) (file : List ℕ) (d : ℕ) where
  -- where its record starts
  abbrev pub place : ℕ
  place = day_start (shape_base shape) shape.first (d - shape.first)

  module _ (low : shape.first ≤ d) (high : d < shape.first + shape.days) where
    -- its record stands within the file
    pub record_within : day_start (shape_base shape) shape.first shape.days ≤ length file → place + dy_length d ≤ length file
    record_within long =
        let back : shape.first + (d - shape.first) ≡ d = omega arith in
        let inside : d - shape.first < shape.days = omega arith in
        omega (arith, rw back at (day_start_within (shape_base shape) shape.first (d - shape.first) shape.days inside))

    is_there : held (history (table_within shape file)) d ≡ true
    unfolding table_within
    is_there = is_held (history (table_within shape file)) d low (omega (arith, marks_within shape file))

    of_record : day_of (table_within shape file) d ≡ recorded d (drop place file)
    unfolding span_within
    of_record =
        let k = d - shape.first in
        let s = span k (k + 1) in
        let one : k + 1 - k ≡ 1 = omega arith in
        let back : shape.first + k ≡ d = omega arith in
        (span_longer shape file s (omega arith) (omega arith)).agrees d
        (is_held (history (span_within shape s file)) d (omega arith) (omega (arith, span_marks_length shape file s)))
        ∙ rw (one, back) (one_day d (drop place file))

  -- the file holds it, by the test of the code
  pub holding_low : holds_day shape d ≡ true → shape.first ≤ d
  holding_low t = leb-true shape.first d (both (leb shape.first d) (ltb d (shape.first + shape.days)) t).0

  pub holding_high : holds_day shape d ≡ true → d < shape.first + shape.days
  holding_high t = ltb-true d (shape.first + shape.days) (both (leb shape.first d) (ltb d (shape.first + shape.days)) t).1

  -- so its record stands within the file
  pub held_within : holds_day shape d ≡ true → day_start (shape_base shape) shape.first shape.days ≤ length file → place + dy_length d ≤ length file
  held_within t = record_within (holding_low t) (holding_high t)

  pub holding_is : held (history (table_within shape file)) d ≡ holds_day shape d
  unfolding held
  holding_is = rw (marks_within shape file) (unfold table_within in refl)

  of_held : holds_day shape d ≡ true → day_of (table_within shape file) d ≡ recorded d (drop place file)
  of_held t = of_record (holding_low t) (holding_high t)

  pub mark_there : holds_day shape d ≡ true → {x : ℕ} → x ≡ get_or file (place + 4) 0 → Some x ≡ mark_of (table_within shape file) d
  unfolding mark_of
  mark_there t e = rw (holding_is, t, of_held t, get_or-drop place file 4 0, e)

  pub mark_none : holds_day shape d ≡ false → None ≡ mark_of (table_within shape file) d
  unfolding mark_of
  mark_none t = rw (holding_is, t)

  module _ (q : ℕ) where
    pub reading_there : holds_day shape d ≡ true → q < size d → {x : ℕ} → x ≡ number_at 4 (place + 6 + 4 * q) file → Some x ≡ reading_of (table_within shape file) d q
    unfolding reading_of
    reading_there t h e =
        rw (holding_is, t, lt-ltb q (size d) h, of_held t, numbers_at (size d) q (drop 6 (drop place file)) h, drop-drop 6 place file, number_drop 4 (place + 6) (4 * q) file, e)

    pub reading_past : holds_day shape d ≡ true → size d ≤ q → None ≡ reading_of (table_within shape file) d q
    unfolding reading_of
    reading_past t h = rw (holding_is, t, le-ltb q (size d) h)

    pub reading_none : holds_day shape d ≡ false → None ≡ reading_of (table_within shape file) d q
    unfolding reading_of
    reading_none t = rw (holding_is, t)

-- the file that was read
module _ (file : List ℕ) {shape : Shape} (r : read_file file ≡ Ok shape) where
  pub days_within : day_start (shape_base shape) shape.first shape.days ≤ length file
  days_within = omega (arith, (shape_fits file shape r).whole)

  pub mark_is : (d : ℕ) → mark_of (table_within shape file) d ≡ mark_in (read_file file) file d
  mark_is d = rw r (ap (λ (t : Table). mark_of t d) (table_within_lem file r))

  pub reading_is : (d q : ℕ) → reading_of (table_within shape file) d q ≡ reading_in (read_file file) file d q
  reading_is d q = rw r (ap (λ (t : Table). reading_of t d q) (table_within_lem file r))

pub mark_refused : (file : List ℕ) (d : ℕ) {refusal : Refusal} → read_file file ≡ Err refusal → None ≡ mark_in (read_file file) file d
mark_refused file d r = rw r

pub reading_refused : (file : List ℕ) (d q : ℕ) {refusal : Refusal} → read_file file ≡ Err refusal → None ≡ reading_in (read_file file) file d q
reading_refused file d q r = rw r
