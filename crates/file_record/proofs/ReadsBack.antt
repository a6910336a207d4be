-- What is written reads back: the file of any contents that its bytes can hold is accepted, and says those contents.
use Prim.Native.Nat.{ℕ, suc, ◌+◌, ◌/◌, ◌^◌, ◌<◌, ◌≤◌}
use mathlib.Core.Path.{◌≡◌, refl, sym, ◌∙◌}
use mathlib.Core.Bool.{true, cond}
use mathlib.Core.List.{List, [], ◌∷◌, ◌++◌, append_assoc}
use native.Mathlib.Omega.{arith}
use borrow.Author.Tests.{le-leb, eq-eqb}
use lib.ListN.{length, take, drop, length-append}
use lib.Seq.{drop_at, drop-drop}
use Rattle.method.specs.Table.{held_days, size, offset}
use Rattle.file_record.specs.Layout.{pf_record, dy_record, Event, mv_records, dy_records, ev_records, Contents, file_of, Fits}
use Rattle.file_record.specs.Reader.{number_at, opens_with, is_record, is_pf, pf_length, is_dy, dy_day, moves_from, moves_in, days_from, events_from, file_base, first_in, days_in}
use Rattle.file_record.specs.Reader.{day_start, event_start, events_in, good_end, shape_in, read_file, list_in, table_in, contents_in, shape_of}
use Rattle.file_record.proofs.Numbers.{number_drop}
use Rattle.file_record.proofs.Bytes.{number_bytes}
use Rattle.file_record.proofs.Starts.{day_start_from}
use Rattle.file_record.proofs.Files.{event_start_first, event_start_more}
use Rattle.file_record.proofs.Back.{moves_length, moves_back, move_numbers_back, no_move_left, day_is, day_day, days_length, first_long, days_back}
use Rattle.file_record.proofs.Back.{marks_back, readings_back, events_back, event_list_back, events_length, no_day_left}
use Rattle.base_bytes.specs.Bytes.{bytes}
use Rattle.std.specs.Prelude.{Ok}

first_of_lem : (d : ℕ) (ms rs : List ℕ) (es : List Event) → (length ms ≡ 0 → d ≡ 0) → d + length ms ≤ 256 ^ 2 → length rs ≡ offset d (length ms)
    → cond (is_dy (dy_records d ms rs ++ ev_records es)) (dy_day (dy_records d ms rs ++ ev_records es)) 0 ≡ d
unfolding dy_records
first_of_lem d [] rs es z l e = rw (no_day_left es) (sym (z refl))
first_of_lem d (m ∷ ms) rs es z l e =
    let below : d < 256 ^ 2 = omega arith in
    let long = first_long (length ms) rs d e in
    let more = dy_records (suc d) ms (drop (size d) rs) ++ ev_records es in
    rw (
      append_assoc (dy_record d m (take (size d) rs)) (dy_records (suc d) ms (drop (size d) rs)) (ev_records es),
      day_is d m (take (size d) rs) more long below,
      day_day d m (take (size d) rs) more long below,
    )

module _ (c : Contents) (q : Fits c) where
  abbrev mv : List ℕ
  mv = mv_records c.moves

  abbrev dy : List ℕ
  dy = dy_records c.table.first c.table.marks c.table.readings

  abbrev ev : List ℕ
  ev = ev_records c.events

  opens_back : is_pf (file_of c) ≡ true
  unfolding is_pf is_record opens_with file_of pf_record bytes
  opens_back = let o : pf_length ≤ length (file_of c) = omega arith in rw (le-leb pf_length (length (file_of c)) o)

  participation_back : number_at 2 2 (file_of c) ≡ c.participation
  unfolding file_of pf_record bytes number_at
  participation_back = let h : c.participation < 256 ^ 2 = q.participation in omega arith

  portfolio_back : number_at 4 4 (file_of c) ≡ c.portfolio
  unfolding file_of pf_record bytes
  portfolio_back =
      sym (number_drop 4 4 0 (file_of c))
      ∙ number_bytes 4 c.portfolio (mv ++ dy ++ ev) q.portfolio

  opening_left : drop pf_length (file_of c) ≡ mv ++ (dy ++ ev)
  unfolding file_of pf_record bytes
  opening_left = append_assoc mv dy ev

  moves_count_back : moves_in (file_of c) ≡ length c.moves / 2
  unfolding moves_in moves_from
  moves_count_back =
      rw opening_left
      (moves_back (dy ++ ev) c.moves 16 0 q.pairs q.moves (no_move_left c.table.first c.table.marks c.table.readings c.events q.size))

  list_back : list_in (file_of c) ≡ c.moves
  unfolding list_in
  list_back = rw (moves_count_back, opening_left) (move_numbers_back (dy ++ ev) c.moves q.pairs q.moved)

  base_back : file_base (file_of c) ≡ pf_length + length mv
  unfolding file_base
  base_back = omega (arith, moves_count_back, moves_length c.moves)

  rest_is : drop (file_base (file_of c)) (file_of c) ≡ dy ++ ev
  rest_is = rw (base_back, ← drop-drop (length mv) pf_length (file_of c), opening_left) (drop_at mv (dy ++ ev) (length mv) refl)

  first_back : first_in (file_of c) ≡ c.table.first
  unfolding first_in
  first_back = rw rest_is (first_of_lem c.table.first c.table.marks c.table.readings c.events q.none q.last q.size)

  held_back : days_in (file_of c) ≡ held_days c.table
  unfolding days_in days_from
  held_back =
      rw (first_back, rest_is)
      (days_back (ev_records c.events) c.table.marks c.table.readings 128 c.table.first q.days q.size q.last (no_day_left c.events))

  before_events : length (pf_record c.participation c.portfolio ++ mv ++ dy) ≡ day_start (file_base (file_of c)) c.table.first (held_days c.table)
  unfolding pf_record bytes
  before_events =
      omega (
        arith,
        length-append mv dy,
        base_back,
        days_length c.table.marks c.table.readings c.table.first q.size,
        day_start_from (file_base (file_of c)) c.table.first (held_days c.table),
      )

  start_back : event_start (file_of c) 0 ≡ day_start (file_base (file_of c)) c.table.first (held_days c.table)
  start_back = event_start_first (file_of c) ∙ (rw (first_back, held_back))

  events_left : drop (event_start (file_of c) 0) (file_of c) ≡ ev
  unfolding file_of
  events_left = drop_at (pf_record c.participation c.portfolio ++ mv ++ dy) ev (event_start (file_of c) 0) (before_events ∙ sym start_back)

  count_back : events_in (file_of c) ≡ length c.events
  unfolding events_in events_from
  count_back = rw events_left (events_back c.events 64 0 q.events)

  end_back : good_end (file_of c) ≡ length (file_of c)
  unfolding good_end file_of
  end_back =
      omega (
        arith,
        event_start_more (file_of c) (events_in (file_of c)),
        start_back,
        count_back,
        before_events,
        events_length c.events,
        length-append (pf_record c.participation c.portfolio ++ mv ++ dy) ev,
      )

  pub reads_back : (read_file (file_of c) ≡ Ok (shape_of c)) × (contents_in (file_of c) ≡ c)
  unfolding read_file shape_in shape_of contents_in table_in
  reads_back = (
    rw (opens_back, eq-eqb (good_end (file_of c)) (length (file_of c)) end_back, participation_back, portfolio_back, moves_count_back, first_back, held_back, count_back),
    rw (
      participation_back,
      portfolio_back,
      list_back,
      first_back,
      held_back,
      count_back,
      rest_is,
      events_left,
      marks_back (ev_records c.events) c.table.marks c.table.readings c.table.first q.size,
      readings_back (ev_records c.events) c.table.marks c.table.readings c.table.first q.size q.readings,
      event_list_back c.events q.fields,
    ),
  )
