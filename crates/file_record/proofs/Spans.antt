-- The days of a span of a file: how long they are, spans that follow each other, and the whole.
use Prim.Native.Nat.{ℕ, zero, suc, ◌+◌, ◌-◌, ◌≤◌}
use mathlib.Core.Path.{◌≡◌, refl, sym, ap, ◌∙◌}
use mathlib.Core.List.{List, ◌++◌, append_assoc}
use native.Mathlib.Omega.{arith}
use native.Mathlib.Nat.{add-zero, zero-add, sub-zero, suc-add}
use lib.ListN.{length, take, drop}
use lib.Seq.{drop-drop, take_at, drop_at}
use Rattle.method.specs.Table.{Table, offset, size}
use Rattle.method.specs.CutTables.{Longer}
use Rattle.method.proofs.Tables.{part_longer}
use Rattle.file_record.specs.declared.Shape.{Shape}
use Rattle.file_record.specs.declared.Span.{Span}
use Rattle.file_record.specs.Reader.{dy_length, shape_base, day_start, marks_from, numbers, readings_from}
use Rattle.file_record.specs.Steps.{table_within, span_within}
use Rattle.file_record.proofs.Starts.{day_start_none, day_start_from, day_start-cons}
use Rattle.file_record.proofs.Lengths.{marks_length, readings_length}

-- where a day starts, counted from another
day_start-add : (base first k j : ℕ) → day_start base first (k + j) ≡ day_start (day_start base first k) (first + k) j
unfolding day_start
day_start-add base first k zero = rw add-zero refl
day_start-add base first k (suc j) =
    let later : k + suc j ≡ suc (k + j) = omega arith in
    let day : first + (k + j) ≡ first + k + j = omega arith in
    rw (later, day_start-add base first k j, day) refl

-- what `a + b` days say: what `a` of them say, and then the others
marks_cut : (a b d : ℕ) (left : List ℕ) → marks_from (a + b) d left ≡ marks_from a d left ++ marks_from b (d + a) (drop (day_start 0 d a) left)
unfolding marks_from
marks_cut zero b d left = rw (zero-add b, add-zero d, day_start_none 0 d) refl
marks_cut (suc a) b d left =
    let day : suc d + a ≡ d + suc a = omega arith in
    rw (suc-add, marks_cut a b (suc d) (drop (dy_length d) left), day, drop-drop (day_start 0 (suc d) a) (dy_length d) left, ← day_start-cons d a) refl

readings_cut : (a b d : ℕ) (left : List ℕ)
    → readings_from (a + b) d left ≡ readings_from a d left ++ readings_from b (d + a) (drop (day_start 0 d a) left)
unfolding readings_from
readings_cut zero b d left = rw (zero-add b, add-zero d, day_start_none 0 d) refl
readings_cut (suc a) b d left =
    let day : suc d + a ≡ d + suc a = omega arith in
    rw (suc-add, readings_cut a b (suc d) (drop (dy_length d) left), day, drop-drop (day_start 0 (suc d) a) (dy_length d) left, ← day_start-cons d a)
    (sym (append_assoc (numbers (size d) (drop 6 left)) (readings_from a (suc d) (drop (dy_length d) left)) (readings_from b (d + suc a) (drop (day_start 0 d (suc a)) left))))

-- the days from the k-th on, up to the m-th
abbrev pub span : ℕ → ℕ → Span
span k m = record { start = k; end = m }

module _ (shape : Shape) (file : List ℕ) where
  abbrev start : ℕ → ℕ
  start = day_start (shape_base shape) shape.first

  -- how many marks and readings the days of a span have
  pub span_marks_length : (s : Span) → length (span_within shape s file).marks ≡ s.end - s.start
  unfolding span_within
  span_marks_length s = marks_length (s.end - s.start) (shape.first + s.start) (drop (start s.start) file)

  pub span_readings_length : (s : Span) → length (span_within shape s file).readings ≡ offset (shape.first + s.start) (s.end - s.start)
  unfolding span_within
  span_readings_length s = readings_length (s.end - s.start) (shape.first + s.start) (drop (start s.start) file)

  -- a span and the one after it
  module _ (k m h : ℕ) (low : k ≤ m) (high : m ≤ h) where
    fewer : h - k ≡ m - k + (h - m)
    fewer = omega arith

    day : shape.first + k + (m - k) ≡ shape.first + m
    day = omega arith

    left : drop (day_start 0 (shape.first + k) (m - k)) (drop (start k) file) ≡ drop (start m) file
    left =
        let split : k + (m - k) ≡ m = omega arith in
        drop-drop (day_start 0 (shape.first + k) (m - k)) (start k) file
        ∙ ap (λ (n : ℕ). drop n file)
        (sym (day_start_from (start k) (shape.first + k) (m - k))
        ∙ sym (day_start-add (shape_base shape) shape.first k (m - k)) ∙ ap start split)

    pub span_marks_cut : (span_within shape (span k h) file).marks ≡ (span_within shape (span k m) file).marks ++ (span_within shape (span m h) file).marks
    unfolding span_within
    span_marks_cut = rw (fewer, marks_cut (m - k) (h - m) (shape.first + k) (drop (start k) file), day, left) refl

    pub span_readings_cut : (span_within shape (span k h) file).readings
        ≡ (span_within shape (span k m) file).readings ++ (span_within shape (span m h) file).readings
    unfolding span_within
    span_readings_cut = rw (fewer, readings_cut (m - k) (h - m) (shape.first + k) (drop (start k) file), day, left) refl

  -- all the days
  pub whole_span : span_within shape (span 0 shape.days) file ≡ table_within shape file
  unfolding span_within table_within
  whole_span = rw (add-zero shape.first, sub-zero shape.days, day_start_none (shape_base shape) shape.first) refl

  -- a span is part of the whole
  module _ (s : Span) (low : s.start ≤ s.end) (high : s.end ≤ shape.days) where
    abbrev before : Table
    before = span_within shape (span 0 s.start) file

    abbrev behind : Table
    behind = span_within shape (span s.end shape.days) file

    marks_parts : (table_within shape file).marks ≡ before.marks ++ ((span_within shape s file).marks ++ behind.marks)
    marks_parts =
        rw (← whole_span, span_marks_cut 0 s.start shape.days (omega arith) (omega arith), span_marks_cut s.start s.end shape.days low high) refl

    pub readings_parts : (table_within shape file).readings ≡ before.readings ++ ((span_within shape s file).readings ++ behind.readings)
    readings_parts =
        rw (
          ← whole_span,
          span_readings_cut 0 s.start shape.days (omega arith) (omega arith),
          span_readings_cut s.start s.end shape.days low high,
        )
        refl

    marks_before : length before.marks ≡ s.start
    marks_before = span_marks_length (span 0 s.start) ∙ sub-zero s.start

    -- how many readings stand before it
    pub readings_before : length before.readings ≡ offset shape.first s.start
    readings_before = span_readings_length (span 0 s.start) ∙ rw (add-zero shape.first, sub-zero s.start) refl

    pub span_longer : Longer (table_within shape file) (span_within shape s file)
    span_longer =
        part_longer (table_within shape file) (span_within shape s file) before.marks behind.marks before.readings behind.readings marks_parts readings_parts
        (unfold span_within table_within in ap (λ (n : ℕ). shape.first + n) (sym marks_before))
        (unfold table_within in readings_before ∙ ap (offset shape.first) (sym marks_before))
        (unfold span_within in span_readings_length s ∙ ap (offset (shape.first + s.start)) (sym (span_marks_length s)))

    pub marks_part : take (s.end - s.start) (drop s.start (table_within shape file).marks) ≡ (span_within shape s file).marks
    marks_part =
        rw (marks_parts, drop_at before.marks ((span_within shape s file).marks ++ behind.marks) s.start marks_before)
        (take_at (span_within shape s file).marks behind.marks (s.end - s.start) (span_marks_length s))
