-- One law for each way in which the code tests a record.
use Prim.Native.Nat.{ℕ, ◌+◌, ◌^◌, ◌<◌, ◌≤◌}
use mathlib.Core.Path.{◌≡◌, refl, sym, ◌∙◌}
use mathlib.Core.Bool.{true, false, ◌&&◌, and-true, and-false, and_assoc}
use mathlib.Core.List.{List}
use mathlib.Core.Logic.{⊎_elim}
use native.Mathlib.Omega.{arith}
use borrow.Author.Tests.{lt-leb, leb-true, ltb-true, eq-eqb, eqb-true}
use lib.ListN.{length, drop, get_or}
use lib.Seq.{get_or-drop}
use lib.Dec.{eqb, leb, ltb}
use Rattle.base_lists.proofs.Bools.{both, bool_cases}
use Rattle.base_lists.specs.Ascii.{ascii}
use Rattle.file_record.specs.Layout.{Event, fits_day, fits_event}
use Rattle.file_record.specs.Reader.{opens_with, is_record, is_mv, mv_length, is_dy, is_ev, is_dy_of, dy_length, dy_day, ev_length}

pub whole_record : (size : ℕ) (mark left : List ℕ) → is_record size mark left ≡ true → size ≤ length left
unfolding is_record
whole_record size mark left t = leb-true size (length left) (both (leb size (length left)) (opens_with mark left) t).0

-- so an MV and an EV are
pub move_record : (left : List ℕ) → is_mv left ≡ is_record mv_length (ascii "MV") left
unfolding is_mv
move_record left = refl

pub event_record : (left : List ℕ) → is_ev left ≡ is_record ev_length (ascii "EV") left
unfolding is_ev
event_record left = refl

pub move_whole : (left : List ℕ) → is_mv left ≡ true → mv_length ≤ length left
move_whole left t = whole_record mv_length (ascii "MV") left (rw move_record at t)

pub event_whole : (left : List ℕ) → is_ev left ≡ true → ev_length ≤ length left
event_whole left t = whole_record ev_length (ascii "EV") left (rw event_record at t)

-- a DY of a day has that day's length, and its zero byte
pub day_record : (day : ℕ) (left : List ℕ) → is_dy_of day left ≡ (is_record (dy_length day) (ascii "DY") left && (eqb (get_or left 5 0) 0 && eqb (dy_day left) day))
unfolding is_dy_of is_dy
day_record day left = ⊎_elim named other (bool_cases (eqb (dy_day left) day))
  where
    named : eqb (dy_day left) day ≡ true
        → (is_record (dy_length (dy_day left)) (ascii "DY") left && eqb (get_or left 5 0) 0 && eqb (dy_day left) day)
        ≡ (is_record (dy_length day) (ascii "DY") left && (eqb (get_or left 5 0) 0 && eqb (dy_day left) day))
    named t = rw (eqb-true (dy_day left) day t) (and_assoc (is_record (dy_length day) (ascii "DY") left) (eqb (get_or left 5 0) 0) (eqb day day))

    other : eqb (dy_day left) day ≡ false
        → (is_record (dy_length (dy_day left)) (ascii "DY") left && eqb (get_or left 5 0) 0 && eqb (dy_day left) day)
        ≡ (is_record (dy_length day) (ascii "DY") left && (eqb (get_or left 5 0) 0 && eqb (dy_day left) day))
    other t = rw (t, and-false, and-false, and-false)

pub day_at : (file : List ℕ) (at day : ℕ)
    → is_dy_of day (drop at file) ≡ (is_record (dy_length day) (ascii "DY") (drop at file) && (eqb (get_or file (at + 5) 0) 0 && eqb (dy_day (drop at file)) day))
day_at file at day = day_record day (drop at file) ∙ (rw (get_or-drop at file 5 0) refl)

pub day_whole : (day : ℕ) (left : List ℕ) → is_dy_of day left ≡ true → dy_length day ≤ length left
day_whole day left t =
    whole_record (dy_length day) (ascii "DY") left
    (both (is_record (dy_length day) (ascii "DY") left) (eqb (get_or left 5 0) 0 && eqb (dy_day left) day) (sym (day_record day left) ∙ t)).0

pub day_of_is : (day : ℕ) (left : List ℕ) → is_dy_of day left ≡ true → is_dy left ≡ true
unfolding is_dy_of
day_of_is day left t = (both (is_dy left) (eqb (dy_day left) day) t).0

pub day_named : (day : ℕ) (left : List ℕ) → is_dy_of day left ≡ true → dy_day left ≡ day
unfolding is_dy_of
day_named day left t = eqb-true (dy_day left) day (both (is_dy left) (eqb (dy_day left) day) t).1

pub named_day : (left : List ℕ) → is_dy_of (dy_day left) left ≡ is_dy left
unfolding is_dy_of
named_day left = rw (eq-eqb (dy_day left) (dy_day left) refl, and-true)

pub day_not : (left : List ℕ) (day : ℕ) → is_dy left ≡ false → false ≡ is_dy_of day left
unfolding is_dy_of
day_not left day t = rw t

-- bytes that a DY has no room in
pub day_cut : (left : List ℕ) → length left < 6 → is_dy left ≡ false
unfolding is_dy is_record
day_cut left h = let o : length left < dy_length (dy_day left) = omega arith in rw (lt-leb (dy_length (dy_day left)) (length left) o)

-- an event whose numbers fit their bytes
pub record Fields (v : Event) : Type 0 where
  pub day : v.day < 256 ^ 2
  pub s : v.s < 256
  pub e : v.e < 256
  pub n : v.n < 256
  pub method : v.method < 256

pub event_fields : (v : Event) → fits_event v ≡ true → Fields v
unfolding fits_event
event_fields v t =
    let day = fits_day v.day in
    let all = both (day && ltb v.s 256 && ltb v.e 256 && ltb v.n 256) (ltb v.method 256) t in
    let to_n = both (day && ltb v.s 256 && ltb v.e 256) (ltb v.n 256) all.0 in
    let to_e = both (day && ltb v.s 256) (ltb v.e 256) to_n.0 in
    let to_s = both day (ltb v.s 256) to_e.0 in
    record {
      day = ltb-true v.day (256 ^ 2) to_s.0;
      s = ltb-true v.s 256 to_s.1;
      e = ltb-true v.e 256 to_e.1;
      n = ltb-true v.n 256 to_n.1;
      method = ltb-true v.method 256 all.1;
    }
