-- What the writer takes and gives: events as numbers and back, what it accepts is what a file can say, and how long a file is.
use Prim.Native.Nat.{ℕ, suc, ◌+◌, ◌*◌, ◌/◌, ◌%◌, ◌^◌, ◌<◌, ◌≤◌}
use mathlib.Core.Path.{◌≡◌, refl, ◌∙◌, ap}
use mathlib.Core.Bool.{Bool, true, false, cond, ◌&&◌, ◌||◌}
use mathlib.Core.List.{List, [], ◌∷◌, ◌++◌}
use mathlib.Core.Logic.{⊎_elim}
use native.Mathlib.Omega.{arith}
use native.Mathlib.Numerals.{add-one}
use borrow.Author.Tests.{le-leb, lt-leb, leb-true, lt-ltb, ltb-true, ltb-false, eq-eqb, eqb-true}
use lib.ListN.{length, get_or, drop, length-append, length-drop}
use lib.Seq.{drop-cons}
use lib.Dec.{leb, ltb, eqb}
use Rattle.base_lists.specs.Lists.{all}
use Rattle.base_lists.proofs.All.{all_at, all_of}
use Rattle.base_lists.proofs.Bools.{both, either, bool_cases}
use Rattle.base_bytes.specs.Bytes.{bytes}
use Rattle.method.specs.declared.Refusal.{Refusal}
use Rattle.method.specs.declared.Refusal.TheVariants.{BadTable, NoRoom, Unwritable}
use Rattle.method.specs.Table.{held_days, offset}
use Rattle.file_record.specs.Layout.{Event, Contents, pf_record, mv_records, dy_records, ev_records, file_of, Fits, fits_day, fits_event}
use Rattle.file_record.specs.Reader.{ev_length, move_start, day_start}
use Rattle.file_record.specs.Writer.{Lent, events_of, said, matching, days_in_bounds, few_of, sayable, writing, leaving, Writes}
use Rattle.file_record.specs.WriterLaws.{Wide, numbers_of}
use Rattle.file_record.proofs.Starts.{day_start_from}
use Rattle.file_record.proofs.Back.{moves_length, days_length, events_length}
use Rattle.std.specs.Prelude.{Result, Ok, Err}

-- ---- events as numbers
pub events_count : (numbers : List ℕ) → length (events_of numbers) ≡ length numbers / 5
unfolding events_of
events_count [] = refl
events_count (d ∷ []) = refl
events_count (d ∷ s ∷ []) = refl
events_count (d ∷ s ∷ e ∷ []) = refl
events_count (d ∷ s ∷ e ∷ n ∷ []) = refl
events_count (d ∷ s ∷ e ∷ n ∷ m ∷ more) = omega (arith, events_count more)

pub numbers_count : (events : List Event) → length (numbers_of events) ≡ 5 * length events
unfolding numbers_of
numbers_count [] = refl
numbers_count (v ∷ events) = omega (arith, numbers_count events)

pub events_again : (events : List Event) → events_of (numbers_of events) ≡ events
unfolding events_of numbers_of
events_again [] = refl
events_again (v ∷ events) = ap (λ (l : List Event). v ∷ l) (events_again events)

pub numbers_again : (numbers : List ℕ) → length numbers % 5 ≡ 0 → numbers_of (events_of numbers) ≡ numbers
unfolding events_of numbers_of
numbers_again [] e = refl
numbers_again (d ∷ []) e = absurd (omega arith)
numbers_again (d ∷ s ∷ []) e = absurd (omega arith)
numbers_again (d ∷ s ∷ f ∷ []) e = absurd (omega arith)
numbers_again (d ∷ s ∷ f ∷ n ∷ []) e = absurd (omega arith)
numbers_again (d ∷ s ∷ f ∷ n ∷ m ∷ more) e = ap (λ (l : List ℕ). d ∷ s ∷ f ∷ n ∷ m ∷ l) (numbers_again more (omega arith))

-- one event after the other: `i` are passed
module _ (numbers : List ℕ) (i : ℕ) where
  abbrev number : ℕ → ℕ
  number k = get_or numbers (5 * i + k) 0

  abbrev pub event_at : Event
  event_at = record { day = get_or numbers (5 * i) 0; s = number 1; e = number 2; n = number 3; method = number 4 }

  pub events_more : 5 * i + 5 ≤ length numbers → events_of (drop (5 * i) numbers) ≡ event_at ∷ events_of (drop (5 * (i + 1)) numbers)
  unfolding events_of
  events_more h =
      let next : 5 * (i + 1) ≡ suc (suc (suc (suc (suc (5 * i))))) = omega arith in
      let two : 5 * i + 2 ≡ suc (suc (5 * i)) = omega arith in
      let three : 5 * i + 3 ≡ suc (suc (suc (5 * i))) = omega arith in
      let four : 5 * i + 4 ≡ suc (suc (suc (suc (5 * i)))) = omega arith in
      rw (
        drop-cons numbers (5 * i) 0 (omega arith),
        drop-cons numbers (suc (5 * i)) 0 (omega arith),
        drop-cons numbers (suc (suc (5 * i))) 0 (omega arith),
        drop-cons numbers (suc (suc (suc (5 * i)))) 0 (omega arith),
        drop-cons numbers (suc (suc (suc (suc (5 * i))))) 0 (omega arith),
        next,
        add-one (5 * i),
        two,
        three,
        four,
      )
      refl

  pub events_none : length numbers / 5 ≤ i → events_of (drop (5 * i) numbers) ≡ []
  events_none h = go (events_of (drop (5 * i) numbers)) (omega (arith, events_count (drop (5 * i) numbers), length-drop (5 * i) numbers))
    where
      go : (l : List Event) → length l ≡ 0 → l ≡ []
      go [] e = refl
      go (v ∷ l) e = absurd (omega arith)

-- ---- what passes the tests
module _ (first days readings : ℕ) where
  pub record Matches : Type 0 where
    pub few : days ≤ 128
    pub size : readings ≡ offset first days

  pub matches : matching first days readings ≡ true → Matches
  unfolding matching
  matches t =
      let k = both (leb days 128) (eqb readings (offset first days)) t in
      record { few = leb-true days 128 k.0; size = eqb-true readings (offset first days) k.1 }

  pub matched : days ≤ 128 → readings ≡ offset first days → matching first days readings ≡ true
  unfolding matching
  matched h e = rw (le-leb days 128 h, eq-eqb readings (offset first days) e)

module _ (each most numbers : ℕ) where
  few_of_lem : few_of each most numbers ≡ true → (numbers % each ≡ 0) × (numbers / each ≤ most)
  unfolding few_of
  few_of_lem t =
      let k = both (eqb (numbers % each) 0) (leb (numbers / each) most) t in
      (eqb-true (numbers % each) 0 k.0, leb-true (numbers / each) most k.1)

  of_few : numbers % each ≡ 0 → numbers / each ≤ most → few_of each most numbers ≡ true
  unfolding few_of
  of_few e h = rw (eq-eqb (numbers % each) 0 e, le-leb (numbers / each) most h)

module _ (participation first days : ℕ) (moves numbers : List ℕ) where
  pub record Says : Type 0 where
    pub participates : participation < 256 ^ 2
    pub last : first + days ≤ 256 ^ 2
    pub none : days ≡ 0 → first ≡ 0
    pub pairs : length moves % 2 ≡ 0
    pub few_moves : length moves / 2 ≤ 16
    pub moved : all fits_day moves ≡ true
    pub five : length numbers % 5 ≡ 0
    pub few : length numbers / 5 ≤ 64
    pub fields : all fits_event (events_of numbers) ≡ true

  abbrev p : Bool
  p = ltb participation (256 ^ 2)

  abbrev l : Bool
  l = leb (first + days) (256 ^ 2)

  abbrev z : Bool
  z = ltb 0 days || eqb first 0

  abbrev m : Bool
  m = few_of 2 16 (length moves)

  abbrev e : Bool
  e = few_of 5 64 (length numbers)

  some_or_first : z ≡ true → days ≡ 0 → first ≡ 0
  some_or_first t d =
      ⊎_elim (λ some. absurd (omega (arith, ltb-true 0 days some))) (λ zero. eqb-true first 0 zero) (either (ltb 0 days) (eqb first 0) t)

  first_or_some : (days ≡ 0 → first ≡ 0) → z ≡ true
  first_or_some h = ⊎_elim (λ some. rw some) (λ none. rw (none, eq-eqb first 0 (h (omega (arith, ltb-false 0 days none))))) (bool_cases (ltb 0 days))

  pub says : sayable participation first days moves numbers ≡ true → Says
  unfolding sayable days_in_bounds
  says t =
      let fields = both (p && l && z && m && all fits_day moves && e) (all fits_event (events_of numbers)) t in
      let events = both (p && l && z && m && all fits_day moves) e fields.0 in
      let moved = both (p && l && z && m) (all fits_day moves) events.0 in
      let pairs = both (p && l && z) m moved.0 in
      let none = both (p && l) z pairs.0 in
      let last = both p l none.0 in
      record {
        participates = ltb-true participation (256 ^ 2) last.0;
        last = leb-true (first + days) (256 ^ 2) last.1;
        none = some_or_first none.1;
        pairs = (few_of_lem 2 16 (length moves) pairs.1).0;
        few_moves = (few_of_lem 2 16 (length moves) pairs.1).1;
        moved = moved.1;
        five = (few_of_lem 5 64 (length numbers) events.1).0;
        few = (few_of_lem 5 64 (length numbers) events.1).1;
        fields = fields.1;
      }

  pub said_so : Says → sayable participation first days moves numbers ≡ true
  unfolding sayable days_in_bounds
  said_so q =
      rw (
        lt-ltb participation (256 ^ 2) q.participates,
        le-leb (first + days) (256 ^ 2) q.last,
        first_or_some q.none,
        of_few 2 16 (length moves) q.pairs q.few_moves,
        q.moved,
        of_few 5 64 (length numbers) q.five q.few,
        q.fields,
      )

-- ---- what is accepted is what a file can say
module _ (w : Lent) where
  abbrev matches_it : Bool
  matches_it = matching w.table.first (held_days w.table) (length w.table.readings)

  abbrev says_it : Bool
  says_it = sayable w.participation w.table.first (held_days w.table) w.moves w.numbers

  pub its_length : length w.table.readings ≡ offset w.table.first (held_days w.table)
      → length (file_of (said w)) ≡ day_start (move_start (length w.moves / 2)) w.table.first (held_days w.table) + ev_length * (length w.numbers / 5)
  unfolding file_of pf_record bytes
  its_length e =
      let moves = mv_records w.moves in
      let days = dy_records w.table.first w.table.marks w.table.readings in
      omega (
        arith,
        length-append (pf_record w.participation w.portfolio ++ moves ++ days) (ev_records (events_of w.numbers)),
        length-append (pf_record w.participation w.portfolio ++ moves) days,
        moves_length w.moves,
        days_length w.table.marks w.table.readings w.table.first e,
        day_start_from (move_start (length w.moves / 2)) w.table.first (held_days w.table),
        events_length (events_of w.numbers),
        events_count w.numbers,
      )

  -- what an accepted one shows
  pub record Accepts (room size : ℕ) : Type 0 where
    pub match : Matches w.table.first (held_days w.table) (length w.table.readings)
    pub say : Says w.participation w.table.first (held_days w.table) w.moves w.numbers
    pub is : size ≡ length (file_of (said w))

  pub accepts : (room size : ℕ) → Ok size ≡ writing w room → Accepts room size
  unfolding writing
  accepts room size r = go matches_it says_it (leb (length (file_of (said w))) room) refl refl refl r
    where
      go : (m s f : Bool) → matches_it ≡ m → says_it ≡ s → leb (length (file_of (said w))) room ≡ f
          → Ok size ≡ cond m (cond s (cond f (Ok (length (file_of (said w)))) (Err NoRoom)) (Err Unwritable)) (Err BadTable)
          → Accepts room size
      go true true true m s f r =
          let same : size ≡ length (file_of (said w)) = cc in
          record {
            match = matches w.table.first (held_days w.table) (length w.table.readings) m;
            say = says w.participation w.table.first (held_days w.table) w.moves w.numbers s;
            is = same;
          }
      go true true false m s f r = absurd (let z : ◌≡◌ {A = ℕ} 0 1 = cc in omega arith)
      go true false f m s g r = absurd (let z : ◌≡◌ {A = ℕ} 0 1 = cc in omega arith)
      go false s f m g k r = absurd (let z : ◌≡◌ {A = ℕ} 0 1 = cc in omega arith)

  -- the ways out of the code, and what the buffer then holds
  module _ (out : List ℕ) where
    abbrev room : ℕ
    room = length out

    refuses : (why : Refusal) → Err why ≡ writing w room → Writes w out (Err why) out
    unfolding leaving
    refuses why e = record { result = e; output = go (writing w room) e }
      where
        go : (r : Result ℕ Refusal) → Err why ≡ r → out ≡ leaving r (file_of (said w)) out
        go (Ok size) e = absurd (let z : ◌≡◌ {A = ℕ} 0 1 = cc in omega arith)
        go (Err other) e = refl

    pub no_match : matches_it ≡ false → Writes w out (Err BadTable) out
    no_match m = refuses BadTable (unfold writing in rw m)

    module _ (m : matches_it ≡ true) where
      pub unsaid : says_it ≡ false → Writes w out (Err Unwritable) out
      unsaid s = refuses Unwritable (unfold writing in rw (m, s))

      module _ (s : says_it ≡ true) where
        pub no_room : room < length (file_of (said w)) → Writes w out (Err NoRoom) out
        no_room h = refuses NoRoom (unfold writing in rw (m, s, lt-leb (length (file_of (said w))) room h))

        its_writing : length (file_of (said w)) ≤ room → writing w room ≡ Ok (length (file_of (said w)))
        unfolding writing
        its_writing h = rw (m, s, le-leb (length (file_of (said w))) room h)

        pub wrote : {size : ℕ} {out' : List ℕ} → length (file_of (said w)) ≤ room → size ≡ length (file_of (said w)) → out' ≡ file_of (said w) ++ drop size out
            → Writes w out (Ok size) out'
        unfolding leaving
        wrote {size} {out'} h e o = record { result = rw (its_writing h, e) refl; output = o ∙ rw (its_writing h, e) refl }

  -- it fits a file
  pub fits_file : {room size : ℕ} → Wide w → Accepts room size → Fits (said w)
  fits_file wide q =
      record {
        participation = q.say.participates;
        portfolio = wide.portfolio;
        pairs = q.say.pairs;
        moves = q.say.few_moves;
        moved = λ i. ltb-true (get_or w.moves i 0) (256 ^ 2) (all_at fits_day 0 refl w.moves q.say.moved i);
        days = q.match.few;
        last = q.say.last;
        none = q.say.none;
        marks = wide.marks;
        size = q.match.size;
        readings = wide.readings;
        events = rw (events_count w.numbers) q.say.few;
        fields = q.say.fields;
      }

-- what fits a file is accepted
module _ (c : Contents) (q : Fits c) where
  pub fits_matches : matching c.table.first (held_days c.table) (length c.table.readings) ≡ true
  fits_matches = matched c.table.first (held_days c.table) (length c.table.readings) q.days q.size

  pub fits_says : sayable c.participation c.table.first (held_days c.table) c.moves (numbers_of c.events) ≡ true
  fits_says =
      let count = numbers_count c.events in
      said_so c.participation c.table.first (held_days c.table) c.moves (numbers_of c.events)
      (record {
        participates = q.participation;
        last = q.last;
        none = q.none;
        pairs = q.pairs;
        few_moves = q.moves;
        moved = all_of fits_day 0 c.moves (λ i. lt-ltb (get_or c.moves i 0) (256 ^ 2) (q.moved i));
        five = omega arith;
        few = omega (arith, q.events);
        fields = rw (events_again c.events) q.fields;
      })
