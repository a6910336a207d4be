-- The rooms of two days that lie apart say what the table of the two holds.
use Prim.Native.Nat.{ℕ, suc, zero, ◌+◌, ◌-◌, ◌≤◌, ◌<◌}
use mathlib.Core.Path.{◌≡◌, sym, ap, ◌∙◌}
use mathlib.Core.Bool.{true, false, and-false}
use mathlib.Core.List.{List, [], ◌∷◌, ◌++◌}
use native.Mathlib.Omega.{arith}
use borrow.Author.Tests.{le-leb, lt-leb, ne_eqb, eq-eqb, le-ltb}
use lib.Dec.{leb, ltb}
use lib.ListN.{length, get_or, take, drop, length-take, length-drop}
use lib.Seq.{take-take, take-append_seam, drop_at}
use Rattle.method.specs.declared.Request.{Request}
use Rattle.method.specs.Table.{Table, size, offset, day_of, held, history}
use Rattle.method.proofs.Histories.{is_held}
use Rattle.engine_rooms.specs.declared.Directory.{Directory}
use Rattle.engine_rooms.specs.Rooms.{readings_at, room_day}
use Rattle.engine_rooms.specs.Agree.{Agree}
use Rattle.engine_example.specs.Apart.{is_apart, apart}

module _ (r : Request) (before today gap : ℕ) (readings : List ℕ) where
  abbrev t : Table
  t = apart r.event before today gap readings

  -- the days are not there
  module _ (rooms : Directory) (none : rooms.held ≡ 0) where
    nothing : is_apart r.event gap readings ≡ false → held (history t) r.event ≡ false
    unfolding held apart
    nothing e =
        let o : r.event - 1 + 0 ≤ r.event = omega arith in
        let f : ltb r.event (r.event - 1 + 0) ≡ false = le-ltb r.event (r.event - 1 + 0) o in
        rw (e, f) (and-false (leb (r.event - 1) r.event))

    none_agree : is_apart r.event gap readings ≡ false → Agree r rooms readings (history t)
    none_agree e = record { width = rw (nothing e) none; days = λ i h. absurd (omega arith) }

    pub no_day : r.event ≡ 0 → Agree r rooms readings (history t)
    unfolding is_apart
    no_day e = none_agree (rw (eq-eqb r.event 0 e))

    pub too_short : (r.event ≡ 0 → ⊥) → length readings < size r.event + gap + size (r.event - 1) → Agree r rooms readings (history t)
    unfolding is_apart
    too_short n o = none_agree (rw (ne_eqb r.event 0 n, lt-leb (size r.event + gap + size (r.event - 1)) (length readings) o))

  -- both are
  module _ (some : r.event ≡ 0 → ⊥) (long : size r.event + gap + size (r.event - 1) ≤ length readings) where
    there : is_apart r.event gap readings ≡ true
    unfolding is_apart
    there = rw (ne_eqb r.event 0 some, le-leb (size r.event + gap + size (r.event - 1)) (length readings) long)

    abbrev ys : List ℕ
    ys = take (size (r.event - 1)) (drop (size r.event + gap) readings)

    abbrev ts : List ℕ
    ts = take (size r.event) readings

    ys_long : length ys ≡ size (r.event - 1)
    ys_long = rw (length-take, length-drop) (omega (arith, long))

    ts_long : length ts ≡ size r.event
    ts_long = rw length-take (omega (arith, long))

    abbrev both : Table
    both = record { first = r.event - 1; marks = before ∷ today ∷ []; readings = ys ++ ts }

    both_is : t ≡ both
    unfolding apart
    both_is = rw there

    holds : held (history both) r.event ≡ true
    holds = is_held (history both) r.event (omega arith) (omega (arith, some))

    -- where the two are read in the lent readings, and in the table
    read_event : readings_at (size r.event) readings 0 ≡ ts
    unfolding readings_at
    read_event = let o : 0 + size r.event ≤ length readings = omega (arith, long) in rw (le-leb (0 + size r.event) (length readings) o)

    read_before : readings_at (size (r.event - 1)) readings (size r.event + gap) ≡ ys
    unfolding readings_at
    read_before = rw (le-leb (size r.event + gap + size (r.event - 1)) (length readings) long)

    one : r.event - (r.event - 1) ≡ 1
    one = omega (arith, some)

    none : r.event - 1 - (r.event - 1) ≡ 0
    none = omega arith

    table_event : (day_of both r.event).readings ≡ ts
    unfolding day_of
    table_event =
        rw (one, drop_at ys ts (offset (r.event - 1) 1) (ys_long ∙ first)) (take-take (size r.event) (size r.event) readings (omega arith))
      where
        first : size (r.event - 1) ≡ offset (r.event - 1) 1
        first = unfold offset in omega arith

    table_before : (day_of both (r.event - 1)).readings ≡ ys
    unfolding day_of offset
    table_before = rw none (ap (λ n. take n (ys ++ ts)) (sym ys_long) ∙ take-append_seam ys ts)

    module _ (rooms : Directory) (two : rooms.held ≡ 2) (now_at : get_or rooms.at 0 0 ≡ 0) (before_at : get_or rooms.at 1 0 ≡ size r.event + gap)
        (now_mark : get_or rooms.marks 0 0 ≡ today) (before_mark : get_or rooms.marks 1 0 ≡ before) where
      at_event : room_day r.event rooms readings 0 ≡ day_of both r.event
      unfolding room_day day_of
      at_event = λ j. record { mark = mark j; readings = (part ∙ sym table_event) j }
        where
          mark : get_or rooms.marks 0 0 ≡ get_or (before ∷ today ∷ []) (r.event - (r.event - 1)) 0
          mark = rw one now_mark

          part : readings_at (size (r.event - 0)) readings (get_or rooms.at 0 0) ≡ ts
          part = let zero_back : r.event - 0 ≡ r.event = omega arith in rw (zero_back, now_at) read_event

      at_before : room_day r.event rooms readings 1 ≡ day_of both (r.event - 1)
      unfolding room_day day_of
      at_before = λ j. record { mark = mark j; readings = (part ∙ sym table_before) j }
        where
          part : readings_at (size (r.event - 1)) readings (get_or rooms.at 1 0) ≡ ys
          part = rw before_at read_before

          mark : get_or rooms.marks 1 0 ≡ get_or (before ∷ today ∷ []) (r.event - 1 - (r.event - 1)) 0
          mark = rw none before_mark

      pub both_agree : Agree r rooms readings (history t)
      both_agree = rw both_is (record { width = rw holds (two ∙ omega (arith, some)); days = each })
        where
          each : (i : ℕ) → i < rooms.held → room_day r.event rooms readings i ≡ day_of both (r.event - i)
          each zero h = let zero_back : r.event - 0 ≡ r.event = omega arith in rw zero_back at_event
          each (suc zero) h = at_before
          each (suc (suc i)) h = absurd (omega arith)
