-- Laws of tables: where a day's readings stand, a table without its first days, and a table with days put before it.
-- Only `size_is`, `offset_is`, `offset_even` and the two bounds of a day's size look into how many readings a day has.
use mathlib.Core.Path.{◌≡◌, refl, sym, ap, ◌∙◌}
use mathlib.Core.Bool.{Bool, true, not}
use mathlib.Core.List.{List, ◌++◌}
use Prim.Native.Nat.{ℕ, zero, suc, ◌+◌, ◌-◌, ◌*◌, ◌≤◌, ◌<◌}
use native.Mathlib.Omega.{arith}
use native.Mathlib.Nat.{zero-add, suc-add, add-zero}
use lib.ListN.{length, get_or, take, drop, replicate, length-append, length-replicate, length-take, length-drop, get_or-replicate, get_or-append}
use lib.Seq.{drop_at, drop-drop, get_or-drop, take-append-le, drop-append-le}
use lib.Dec.{leb, eqb}
use borrow.Author.Tests.{eqb-true, eqb-false, eq-eqb, ne_eqb, leb-true, le-leb, not-true}
use Rattle.base_lists.specs.Lists.{all}
use Rattle.base_lists.proofs.All.{all-append, all-replicate, all-take, all-drop}
use Rattle.base_lists.proofs.Bools.{and_left, and_right}
use Rattle.calendar_dates.specs.Days.{last_day}
use Rattle.method.specs.declared.Request.{Request}
use Rattle.method.specs.Table.{Table, held_days, size, most_quarters, offset, day_of, good_mark, good_reading, held, history, shaped}
use Rattle.method.specs.Verdict.{well_formed}
use Rattle.method.specs.CutTables.{Longer, CutFrom, held_before, without, cut_to}
use Rattle.method.proofs.Histories.{Extends, held_first, held_last, is_held}

-- the readings before the (k + j)-th day: those of `k` days, and those of the `j` days after them
pub offset-add : (f k j : ℕ) → offset f (k + j) ≡ offset f k + offset (f + k) j
unfolding offset
offset-add f zero j = rw (zero-add j, add-zero f, zero-add (offset f j))
offset-add f (suc k) j =
    let o : suc f + k ≡ f + suc k = omega arith in
    rw (suc-add, offset-add (suc f) k j, o) (omega arith)

pub offset-suc : (f k : ℕ) → offset f (k + 1) ≡ offset f k + size (f + k)
unfolding offset
offset-suc f k = offset-add f k 1 ∙ rw (add-zero)

-- a day's readings lie within those of the days that hold it
pub offset_within : (f k d : ℕ) → f ≤ d → d < f + k → offset f (d - f) + size d ≤ offset f k
offset_within f k d e g =
    omega (arith, rw whole at (offset-add f (d - f + 1) (k - (d - f + 1))), rw back at (offset-suc f (d - f)))
  where
    whole : d - f + 1 + (k - (d - f + 1)) ≡ k
    whole = omega arith

    back : f + (d - f) ≡ d
    back = omega arith

-- "A dispatch day .. has 96 quarters"
pub size_is : (d : ℕ) → size d ≡ 96
unfolding size
size_is d = refl

pub offset_is : (f k : ℕ) → offset f k ≡ 96 * k
unfolding offset size
offset_is f zero = refl
offset_is f (suc k) = omega (arith, offset_is (suc f) k)

-- as many readings as days of one size have
pub offset_even : (f k : ℕ) → size f * k ≡ offset f k
offset_even f k = rw (size_is f) (sym (offset_is f k))

-- no day is longer than the longest, nor are several; every day has room for an adjustment window
pub size_most : (d : ℕ) → size d ≤ most_quarters
size_most d = omega (arith, size_is d)

pub size_least : (d : ℕ) → 12 ≤ size d
size_least d = omega (arith, size_is d)

pub offset_most : (f k n : ℕ) → k ≤ n → offset f k ≤ most_quarters * n
unfolding offset
offset_most f zero n h = omega arith
offset_most f (suc k) n h = let less : k ≤ n - 1 = omega arith in omega (arith, size_most f, offset_most (suc f) k (n - 1) less)

-- what "well formed" says
pub record Formed (t : Table) : Type 0 where
  pub days : 0 < held_days t
  pub fits : length t.readings ≡ offset t.first (held_days t)
  pub last : t.first + held_days t - 1 ≤ last_day
  pub good_marks : all good_mark t.marks ≡ true
  pub good_readings : all good_reading t.readings ≡ true

pub formed : {t : Table} → Formed t → well_formed t ≡ true
unfolding well_formed shaped
formed {t} f =
    rw (
      ne_eqb (held_days t) 0 (λ e. omega arith),
      eq-eqb (length t.readings) (offset t.first (held_days t)) f.fits,
      le-leb (t.first + held_days t - 1) last_day f.last,
      f.good_marks,
      f.good_readings,
    )

pub formed_is : (t : Table) → well_formed t ≡ true → Formed t
unfolding well_formed shaped
formed_is t e =
    let some : not (eqb (held_days t) 0) ≡ true = search (and_left, and_right) in
    let sized : eqb (length t.readings) (offset t.first (held_days t)) ≡ true = search (and_left, and_right) in
    let inside : leb (t.first + held_days t - 1) last_day ≡ true = search (and_left, and_right) in
    record {
      days = omega (arith, eqb-false (held_days t) 0 (not-true (eqb (held_days t) 0) some));
      fits = eqb-true (length t.readings) (offset t.first (held_days t)) sized;
      last = leb-true (t.first + held_days t - 1) last_day inside;
      good_marks = search (and_left, and_right);
      good_readings = search (and_left, and_right);
    }

-- of a held day all readings are there
pub day_size : (t : Table) → well_formed t ≡ true → (d : ℕ) → held (history t) d ≡ true → length (day_of t d).readings ≡ size d
unfolding day_of
day_size t e d h =
    rw (length-take, length-drop, (formed_is t e).fits)
    (omega (arith, offset_within t.first (held_days t) d (held_first (history t) d h) (held_last (history t) d h)))

-- a longer table's history holds what the table's holds
pub longer_extends : {l t : Table} → Longer l t → Extends (history l) (history t)
longer_extends x = record { starts = x.starts; ends = x.ends; agrees = x.agrees }

-- a table without its first `k` days
module _ (k : ℕ) (t : Table) where
  without_day : (d : ℕ) → t.first + k ≤ d → day_of t d ≡ day_of (without k t) d
  unfolding day_of without
  without_day d e = λ i. record { mark = marks i; readings = take (size d) (readings i) }
    where
      split : d - t.first ≡ k + (d - (t.first + k))
      split = omega arith

      marks : get_or t.marks (d - t.first) 0 ≡ get_or (drop k t.marks) (d - (t.first + k)) 0
      marks = rw (split, get_or-drop)

      readings : drop (offset t.first (d - t.first)) t.readings
          ≡ drop (offset (t.first + k) (d - (t.first + k))) (drop (offset t.first k) t.readings)
      readings = rw (split, offset-add t.first k (d - (t.first + k)), drop-drop)

  without_days : held_days (without k t) ≡ held_days t - k
  unfolding without
  without_days = length-drop k t.marks

  pub without_longer : k ≤ held_days t → Longer t (without k t)
  unfolding without
  without_longer less =
      record {
        starts = omega arith;
        ends = omega (arith, without_days);
        agrees = λ d e. without_day d (held_first (history (without k t)) d e);
      }

  pub without_formed : k < held_days t → well_formed t ≡ true → well_formed (without k t) ≡ true
  unfolding without
  without_formed less e =
      formed
      (record {
        days = omega (arith, without_days);
        fits =
            rw (length-drop (offset t.first k) t.readings, w.fits, length-drop k t.marks)
            (omega (arith, rw split at (offset-add t.first k (held_days t - k))));
        last = omega (arith, without_days, w.last);
        good_marks = all-drop good_mark k t.marks w.good_marks;
        good_readings = all-drop good_reading (offset t.first k) t.readings w.good_readings;
      })
    where
      w : Formed t
      w = formed_is t e

      split : k + (held_days t - k) ≡ held_days t
      split = omega arith

-- a table cut so that `k` days stand before the event
module _ (t : Table) (r : Request) (well : well_formed t ≡ true) (holds : held (history t) r.event ≡ true)
    (k : ℕ) (before : k ≤ held_before t r) where
  pub cut_before : held_before (cut_to t r k) r ≡ k
  unfolding without
  cut_before = omega (arith, held_first (history t) r.event holds)

  pub cut_part : CutFrom (cut_to t r k) t r
  unfolding without
  cut_part =
      record {
        formed = without_formed (held_before t r - k) t fits well;
        longer = without_longer (held_before t r - k) t (omega (arith, fits));
        holds = is_held (history (cut_to t r k)) r.event (omega (arith, held_first (history t) r.event holds))
            (omega (arith, without_days (held_before t r - k) t, held_first (history t) r.event holds, held_last (history t) r.event holds));
      }
    where
      fits : held_before t r - k < held_days t
      fits = omega (arith, held_first (history t) r.event holds, held_last (history t) r.event holds)

-- a table that another one is part of: days stand before it, and days behind it
module _ (t p : Table) (marks_before marks_behind readings_before readings_behind : List ℕ)
    (marks : t.marks ≡ marks_before ++ (p.marks ++ marks_behind)) (readings : t.readings ≡ readings_before ++ (p.readings ++ readings_behind))
    (first : p.first ≡ t.first + length marks_before) (before : length readings_before ≡ offset t.first (length marks_before))
    (sized : length p.readings ≡ offset p.first (held_days p)) where
  part_day : (d : ℕ) → held (history p) d ≡ true → day_of t d ≡ day_of p d
  unfolding day_of
  part_day d h = λ i. record { mark = its_mark i; readings = its_readings i }
    where
      since : p.first ≤ d
      since = held_first (history p) d h

      split : d - t.first ≡ length marks_before + (d - p.first)
      split = omega (arith, since)

      its_mark : get_or t.marks (d - t.first) 0 ≡ get_or p.marks (d - p.first) 0
      its_mark =
          rw (marks, split, ← get_or-drop (length marks_before) (marks_before ++ (p.marks ++ marks_behind)) (d - p.first) 0, drop_at marks_before (p.marks ++ marks_behind) (length marks_before) refl)
          (get_or-append p.marks marks_behind 0 (d - p.first) (omega (arith, since, held_last (history p) d h)))

      at : ℕ
      at = offset p.first (d - p.first)

      inside : at + size d ≤ length p.readings
      inside = omega (arith, sized, offset_within p.first (held_days p) d since (held_last (history p) d h))

      start : offset t.first (d - t.first) ≡ length readings_before + at
      start = rw (split, offset-add t.first (length marks_before) (d - p.first), ← first, before) refl

      its_readings : take (size d) (drop (offset t.first (d - t.first)) t.readings) ≡ take (size d) (drop at p.readings)
      its_readings =
          rw (
            start,
            readings,
            ← drop-drop at (length readings_before) (readings_before ++ (p.readings ++ readings_behind)),
            drop_at readings_before (p.readings ++ readings_behind) (length readings_before) refl,
            drop-append-le at p.readings readings_behind (omega (arith, inside)),
            take-append-le (size d) (drop at p.readings) readings_behind (rw length-drop (omega (arith, inside))),
          )
          refl

  pub part_longer : Longer t p
  part_longer =
      record {
        starts = omega arith;
        ends = omega (arith, ap length marks ∙ length-append marks_before (p.marks ++ marks_behind), length-append p.marks marks_behind);
        agrees = part_day;
      }

-- the table with `k` days before it, all marked `m` and with zero for every reading
unfoldable pub padded : ℕ → ℕ → Table → Table
padded k m t =
    record {
      first = t.first - k;
      marks = replicate k m ++ t.marks;
      readings = replicate (offset (t.first - k) k) 0 ++ t.readings;
    }

module _ (k m : ℕ) (t : Table) (room : k ≤ t.first) where
  -- without these days it is the table again
  without-padded : without k (padded k m t) ≡ t
  unfolding without padded
  without-padded = λ i. record { first = first i; marks = marks i; readings = readings i }
    where
      first : t.first - k + k ≡ t.first
      first = omega arith

      marks : drop k (replicate k m ++ t.marks) ≡ t.marks
      marks = drop_at (replicate k m) t.marks k (length-replicate k m)

      readings : drop (offset (t.first - k) k) (replicate (offset (t.first - k) k) 0 ++ t.readings) ≡ t.readings
      readings =
          drop_at (replicate (offset (t.first - k) k) 0) t.readings (offset (t.first - k) k)
          (length-replicate (offset (t.first - k) k) 0)

  pub padded_days : held_days (padded k m t) ≡ k + held_days t
  unfolding padded
  padded_days = rw (length-append, length-replicate)

  pub padded_longer : Longer (padded k m t) t
  padded_longer = rw without-padded at (without_longer k (padded k m t) (omega (arith, padded_days)))

  pub padded_formed : good_mark m ≡ true → well_formed t ≡ true → well_formed (padded k m t) ≡ true
  unfolding padded
  padded_formed good e =
      formed
      (record {
        days = omega (arith, padded_days, w.days);
        fits =
            simp (length-append, length-replicate)
            (rw (offset-add (t.first - k) k (held_days t), back) (ap (λ n. offset (t.first - k) k + n) w.fits));
        last = omega (arith, padded_days, w.last);
        good_marks = rw (all-append good_mark (replicate k m) t.marks, all-replicate good_mark k m good) w.good_marks;
        good_readings =
            rw (
              all-append good_reading (replicate (offset (t.first - k) k) 0) t.readings,
              all-replicate good_reading (offset (t.first - k) k) 0 refl,
            )
            w.good_readings;
      })
    where
      w : Formed t
      w = formed_is t e

      back : t.first - k + k ≡ t.first
      back = omega arith

  module _ (d : ℕ) (since : t.first - k ≤ d) (below : d < t.first) where
    -- of a day put before the table the mark is `m`, and every reading is zero
    pub padded_mark : (day_of (padded k m t) d).mark ≡ m
    unfolding day_of padded
    padded_mark =
        get_or-append (replicate k m) t.marks 0 (d - (t.first - k)) (rw length-replicate (omega arith)) ∙
        get_or-replicate k (d - (t.first - k)) m 0 (omega arith)

    pub padded_readings : (p : ℕ → Bool) → p 0 ≡ true → all p (day_of (padded k m t) d).readings ≡ true
    unfolding day_of padded
    padded_readings p e =
        rw (
          drop-append-le at zeros t.readings (rw length-replicate (omega (arith, inside))),
          take-append-le (size d) (drop at zeros) t.readings (rw (length-drop, length-replicate) (omega (arith, inside))),
        )
        (all-take p (size d) (drop at zeros) (all-drop p at zeros (all-replicate p (offset (t.first - k) k) 0 e)))
      where
        at : ℕ
        at = offset (t.first - k) (d - (t.first - k))

        zeros : List ℕ
        zeros = replicate (offset (t.first - k) k) 0

        inside : at + size d ≤ offset (t.first - k) k
        inside = offset_within (t.first - k) k d since (omega arith)
