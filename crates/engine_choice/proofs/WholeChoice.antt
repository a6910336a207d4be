-- The choice by any rules: what was found gives the window, its size, its ranks and the reach.
use Prim.Native.Nat.{ℕ, ◌+◌, ◌-◌, ◌≤◌, ◌<◌, min}
use mathlib.Core.Path.{◌≡◌, refl, sym, ap, ◌∙◌}
use mathlib.Core.Bool.{Bool, true, false, cond}
use mathlib.Core.Logic.{⊎_elim}
use mathlib.Core.List.{List, ◌++◌, map}
use mathlib.Core.Option.{Option}
use native.Mathlib.Omega.{arith}
use lib.ListN.{length, get_or, take, length-append, length-take, length-drop, length-map}
use lib.Seq.{take_all}
use lib.Dec.{ltb, eqb}
use borrow.Author.Tests.{lt-ltb, le-ltb, eq-eqb, ne_eqb}
use Rattle.base_lists.specs.Lists.{all, keep}
use Rattle.base_lists.proofs.All.{all-append, all-take}
use Rattle.base_lists.proofs.Bools.{lt-or-le, same_test}
use Rattle.base_lists.proofs.Maps.{map-take}
use Rattle.base_lists.proofs.Parts.{take_within}
use Rattle.calendar_groups.specs.declared.Group.{Group}
use Rattle.base_lists.proofs.Keep.{all-keep}
use Rattle.std.specs.Prelude.{Result, Ok, Err}
use Rattle.method.specs.declared.Request.{Request}
use Rattle.method.specs.declared.Refusal.{Refusal}
use Rattle.method.specs.declared.Refusal.TheVariants.{MarginTooShort, TooFew}
use Rattle.method.specs.Table.{Day, History}
use Rattle.method.specs.Relevant.{relevant}
use Rattle.method.specs.Method.{Method, days_of, whole_reach, seen, eligibles, spares, window, chosen, reach, is_short}
use Rattle.method.specs.Eligible.{eligible, spare, higher, sort_by}
use Rattle.method.specs.Adjustment.{Baseline}
use Rattle.method.specs.Rules.{Rules, method_by}
use Rattle.method.specs.Requested.{rules_of, method_of}
use Rattle.method_laws.proofs.Window.{window_full, full_size, size_below}
use Rattle.method_laws.proofs.Short.{full_enough}
use Rattle.method_laws.proofs.Sort.{length_sorted, all_sorted}
use Rattle.engine_ranking.specs.Steps.{word, sort_down, insert_all}
use Rattle.engine_ranking.proofs.Rank.{looked_back, take-padded, first_words, ranks_of_row, row_with}
use Rattle.engine_rooms.specs.declared.Directory.{Directory}
use Rattle.engine_rooms.specs.Rooms.{held_rooms, room_history}
use Rattle.engine_relevant.proofs.Relevance.{relevant_to_lem}
use Rattle.engine_relevant.proofs.Reaching.{short_of_reach, reach_most}
use Rattle.engine_rules.specs.declared.SpareOrder.{SpareOrder}
use Rattle.engine_rules.specs.declared.SpareOrder.TheVariants.{Highest, Latest}
use Rattle.engine_rules.specs.declared.Rules.{Rules as Numbers}
use Rattle.engine_look_back.specs.declared.Found.{Found}
use Rattle.engine_ranking.specs.declared.Ranking.{Ranking}
use Rattle.engine_answer.specs.declared.Chosen.{Chosen}
use Rattle.engine_answer.specs.Answer.{in_five}
use Rattle.engine_choice.specs.Steps.{choice_of}
use Rattle.engine_rules.specs.Steps.{Follows, Sound, in_order}
use Rattle.engine_choice.specs.Steps.{days_in, picked, fillers, filled_of, among_few}
use Rattle.engine_look_back.specs.Steps.{rooms_of, rooms_before, nearest, held_days, up_to, eligible_of, spare_of, row_of, spare_row, spares_of, Looked}
use Rattle.engine_look_back.proofs.Held.{before_is, before_most}
use Rattle.engine_look_back.proofs.Enough.{Enough, enough}
use Rattle.engine_look_back.proofs.Days.{seen-nearest, nearest_back}
use Rattle.engine_choice.proofs.Followed.{order_length, passed_at, taken_at, taken_within, lawful_by, window_most}

-- The first words of a row of spare days are those of the days that fill a shortage

module _ (r : Request) where
  order_back : (o : SpareOrder) (days : List (ℕ × Day)) → all (looked_back r) days ≡ true → all (looked_back r) (in_order r o days) ≡ true
  order_back Highest days h = all_sorted (higher r) (looked_back r) days ∙ h
  order_back Latest days h = h

  spare_words : (o : SpareOrder) (k : ℕ) (days : List (ℕ × Day)) → all (looked_back r) days ≡ true → k ≤ length days → k ≤ 10
      → take k (spare_row r o days) ≡ map (word r) (take k (in_order r o days))
  spare_words Highest k days h l t =
      take-padded k 10 (sort_down (map (word r) days)) (omega (arith, length_sorted (λ a b. ltb b a) (map (word r) days), length-map days (word r))) t
      ∙ first_words r k days h
  spare_words Latest k days h l t =
      take-padded k 10 (map (word r) days) (omega (arith, length-map days (word r))) t ∙ sym (map-take (word r) k days)

-- the spares that are known fill any shortage as all would
known_fill : (o : SpareOrder) (k n : ℕ) → k ≤ 10 → min k (spares_of o n) ≡ min k n
known_fill Highest k n h = refl
known_fill Latest k n h = omega arith

-- ten places hold a window that the eligible days do not fill
pub filled_few : {numbers : Numbers} (found : Found) {row : Ranking} → Sound numbers → found.eligible.count < numbers.most → row ≡ filled_of numbers found → row.count ≤ 10
filled_few {numbers} found sound less e = rw e (omega (arith, sound.ten, sound.fills))

-- The two ways out where the eligible days do not fill the window

module _ (r : Request) (numbers : Numbers) (found : Found) (before reach : ℕ) where
  short_of_days : before < reach → Err (MarginTooShort reach) ≡ among_few r numbers found before reach
  unfolding among_few
  short_of_days h = rw (lt-ltb before reach h)

  enough_days : reach ≤ before
      → picked r.event numbers (filled_of numbers found).words (filled_of numbers found).count reach ≡ among_few r numbers found before reach
  unfolding among_few
  enough_days h = rw (le-ltb before reach h)

-- The same of the definition

module _ {A O : Type 0} (m : Method A O) (h : History A) where
  choice_short : is_short m h ≡ true → choice_of m h ≡ Err (MarginTooShort (whole_reach m))
  unfolding choice_of
  choice_short e = rw e

  -- the choice from a window
  abbrev of_window : List ℕ → ℕ → Result Chosen Refusal
  of_window days count =
      cond (eqb (m.taken (length (window m h))) 0) (Err (TooFew (length (window m h)) (reach m h)))
      (Ok (record { days = in_five days; count = count; reach = reach m h }))

  choice_window : is_short m h ≡ false → choice_of m h ≡ of_window (days_of (chosen m h)) (length (chosen m h))
  unfolding choice_of
  choice_window e = rw e

-- A row of so many words, by numbers, shows a window: whether the days held can't tell it, Y, its days by rank, how many they are, and of its ranks how many
-- are passed over and taken
pub record Shows {A O : Type 0} (m : Method A O) (h : History A) (event : ℕ) (numbers : Numbers) (row : List ℕ) (count : ℕ) (lacks : Bool) : Type 0 where
  pub short : lacks ≡ is_short m h
  pub most : numbers.most ≡ m.most
  pub days : days_in event row 0 count ≡ days_of (m.rank (window m h))
  pub size : count ≡ length (window m h)
  pub passed : get_or numbers.passed count 0 ≡ m.passed (length (window m h))
  pub taken : get_or numbers.taken count 0 ≡ m.taken (length (window m h))

module _ (group : ℕ → Group) {r : Request} {rules : Rules} {numbers : Numbers} (f : Follows r rules numbers) (h : History Day) where
  abbrev m : Method Day (Option Baseline)
  m = method_by group r rules

  passed : ℕ
  passed = rules.passed (length (window m h))

  taken : ℕ
  taken = rules.taken (length (window m h))

  -- the row of the window gives the choice
  module _ {row : List ℕ} {size far : ℕ} (few : length (window m h) ≤ 10) (is : row ≡ row_of r (window m h)) (sized : size ≡ length (window m h))
      (reached : far ≡ reach m h) (back : all (looked_back r) (window m h) ≡ true) where
    picked-window : picked r.event numbers row size far ≡ of_window m h (days_in r.event row passed taken) taken
    unfolding picked method_by passed taken
    picked-window = rw (sized, reached, passed_at f (length (window m h)) few, taken_at f (length (window m h)) few)

    days_are : days_in r.event row passed taken ≡ days_of (chosen m h)
    unfolding chosen method_by passed taken
    days_are =
        rw is
        (ranks_of_row r passed taken 10 (window m h) back (taken_within f (length (window m h)) few)
        (omega (arith, taken_within f (length (window m h)) few)))

    count_is : taken ≡ length (chosen m h)
    unfolding chosen method_by passed taken
    count_is =
        rw (length-take, length-drop, length_sorted (higher r) (window m h)) (omega (arith, taken_within f (length (window m h)) few))

    picked_is : is_short m h ≡ false → picked r.event numbers row size far ≡ choice_of m h
    picked_is e = picked-window ∙ (λ i. of_window m h (days_are i) (count_is i)) ∙ sym (choice_window m h e)

  -- the row of the window shows it
  module _ {row : List ℕ} {size : ℕ} (is : row ≡ row_of r (window m h)) (sized : size ≡ length (window m h))
      (back : all (looked_back r) (window m h) ≡ true) where
    ranked_are : days_in r.event row 0 size ≡ days_of (sort_by (higher r) (window m h))
    ranked_are =
        rw (is, sized)
        (ranks_of_row r 0 (length (window m h)) 10 (window m h) back (omega arith) (omega (arith, window_most f group h))
        ∙ ap days_of (take_all (length (window m h)) (sort_by (higher r) (window m h)) (omega (arith, length_sorted (higher r) (window m h)))))

    row_shows : {lacks : Bool} → lacks ≡ is_short m h → Shows m h r.event numbers row size lacks
    unfolding method_by
    row_shows e =
        record {
          short = e;
          most = f.most;
          days = ranked_are;
          size = sized;
          passed = rw sized (passed_at f (length (window m h)) (window_most f group h));
          taken = rw sized (taken_at f (length (window m h)) (window_most f group h));
        }

  module _ (days : List (ℕ × Day)) (found : Found) (sees : seen m h ≡ days) (back : all (looked_back r) days ≡ true)
      (q : Enough r numbers.most numbers.spares days found) where
    eligibles_are : eligibles m h ≡ eligible_of days
    unfolding eligibles method_by eligible_of
    eligibles_are = ap (keep (λ (p : ℕ × Day). eligible p.1)) sees

    spares_are : spares m h ≡ in_order r numbers.spares (spare_of days)
    unfolding spares method_by spare_of
    spares_are =
        ap (λ (l : List (ℕ × Day)). rules.order (keep (λ (p : ℕ × Day). spare p.1) l)) sees
        ∙ ap (λ (o : List (ℕ × Day) → List (ℕ × Day)). o (keep (λ (p : ℕ × Day). spare p.1) days)) (sym f.order)

    eligible_back : all (looked_back r) (eligible_of days) ≡ true
    unfolding eligible_of
    eligible_back = all-keep (looked_back r) (λ (p : ℕ × Day). eligible p.1) days back

    spare_back : all (looked_back r) (spare_of days) ≡ true
    unfolding spare_of
    spare_back = all-keep (looked_back r) (λ (p : ℕ × Day). spare p.1) days back

    -- the eligible days fill the window
    module _ (full : numbers.most ≤ found.eligible.count) where
      many : m.most ≤ length (eligibles m h)
      unfolding method_by
      many = rw eligibles_are (omega (arith, q.count, f.most))

      full_window : window m h ≡ take numbers.most (eligible_of days)
      unfolding method_by
      full_window = window_full m (lawful_by f group) h many ∙ (λ i. take (sym f.most i) (eligibles_are i))

      sized : numbers.most ≡ length (window m h)
      unfolding method_by
      sized = f.most ∙ sym (full_size m (lawful_by f group) h many)

      full_reach : found.oldest ≡ reach m h
      unfolding reach method_by
      full_reach =
          q.oldest
          ∙ rw (eq-eqb (length (window m h)) rules.most (full_size m (lawful_by f group) h many), full_window)

      full_back : all (looked_back r) (window m h) ≡ true
      full_back = rw full_window (all-take (looked_back r) numbers.most (eligible_of days) eligible_back)

      full_row : found.eligible.words ≡ row_of r (window m h)
      full_row = q.row ∙ ap (row_of r) (sym full_window)

      pub full_shows : Shows m h r.event numbers found.eligible.words numbers.most false
      full_shows = row_shows full_row sized full_back (sym (full_enough m h many))

      pub full_choice : picked r.event numbers found.eligible.words numbers.most found.oldest ≡ choice_of m h
      full_choice =
          picked_is (omega (arith, sized, f.sound.ten)) full_row sized full_reach full_back (full_enough m h many)

    -- they do not
    module _ (less : found.eligible.count < numbers.most) (before : h.first ≤ r.event + 1) where
      fewer : length (eligible_of days) < numbers.most
      fewer = omega (arith, q.count)

      count_eligible : found.eligible.count ≡ length (eligible_of days)
      count_eligible = omega (arith, q.count, fewer)

      fillers_are : fillers numbers found ≡ min (rules.fill - length (eligible_of days)) (length (spare_of days))
      fillers_are =
          rw (q.spares fewer, count_eligible, f.fill)
          (known_fill numbers.spares (rules.fill - length (eligible_of days)) (length (spare_of days)) (omega (arith, f.fill, f.sound.ten, f.sound.fills)))

      filling : List (ℕ × Day)
      filling = take (fillers numbers found) (in_order r numbers.spares (spare_of days))

      filling_is : take (rules.fill - length (eligible_of days)) (in_order r numbers.spares (spare_of days)) ≡ filling
      unfolding filling
      filling_is =
          sym (take_within (rules.fill - length (eligible_of days)) (in_order r numbers.spares (spare_of days)))
          ∙ rw (order_length r numbers.spares (spare_of days), fillers_are)

      window_is : window m h ≡ eligible_of days ++ filling
      unfolding window method_by
      window_is =
          (λ i. take rules.most (eligibles_are i) ++ take (rules.fill - length (eligibles_are i)) (spares_are i))
          ∙ (λ i. take_all rules.most (eligible_of days) (omega (arith, fewer, f.most)) i ++ filling_is i)

      sized_few : found.eligible.count + fillers numbers found ≡ length (window m h)
      unfolding filling
      sized_few =
          rw (window_is, length-append, length-take, order_length r numbers.spares (spare_of days)) (omega (arith, count_eligible, fillers_are))

      few_back : all (looked_back r) (window m h) ≡ true
      unfolding filling
      few_back =
          rw (window_is, all-append, eligible_back)
          (all-take (looked_back r) (fillers numbers found) (in_order r numbers.spares (spare_of days))
          (order_back r numbers.spares (spare_of days) spare_back))

      row_is : insert_all (take (fillers numbers found) found.spare.words) found.eligible.words ≡ row_of r (window m h)
      unfolding filling
      row_is =
          rw (q.sparing fewer, q.row, take_all numbers.most (eligible_of days) (omega (arith, fewer)), window_is)
          (ap (λ (l : List ℕ). insert_all l (row_of r (eligible_of days)))
          (spare_words r numbers.spares (fillers numbers found) (spare_of days) spare_back
          (omega (arith, fillers_are)) (omega (arith, f.sound.ten, f.sound.fills)))
          ∙ row_with r (eligible_of days) filling)

      few_eligible : length (eligibles m h) < m.most
      unfolding method_by
      few_eligible = rw eligibles_are (omega (arith, fewer, f.most))

      few_size : length (window m h) ≤ 10
      unfolding method_by
      few_size = omega (arith, size_below m (lawful_by f group) h few_eligible, f.most, f.sound.ten)

      reach_is : whole_reach m ≡ reach m h
      unfolding reach
      reach_is =
          rw (ne_eqb (length (window m h)) m.most (λ e. omega (arith, size_below m (lawful_by f group) h few_eligible)))

      short_is : is_short m h ≡ ltb (r.event - h.first) (whole_reach m)
      unfolding is_short whole_reach method_of method_by
      short_is = rw (lt-ltb (length (eligibles m h)) m.most few_eligible) (short_of_reach group r h.first before)

      pub few_shows : Shows m h r.event numbers (filled_of numbers found).words (filled_of numbers found).count (ltb (r.event - h.first) (whole_reach m))
      few_shows = row_shows row_is sized_few few_back (sym short_is)

      pub few_choice : among_few r numbers found (r.event - h.first) (whole_reach m) ≡ choice_of m h
      few_choice =
          ⊎_elim
          (λ (o : r.event - h.first < whole_reach m).
          sym (short_of_days r numbers found (r.event - h.first) (whole_reach m) o)
          ∙ sym (choice_short m h (short_is ∙ lt-ltb (r.event - h.first) (whole_reach m) o)))
          (λ (o : whole_reach m ≤ r.event - h.first).
          sym (enough_days r numbers found (r.event - h.first) (whole_reach m) o)
          ∙ picked_is few_size row_is sized_few reach_is few_back
          (short_is ∙ le-ltb (r.event - h.first) (whole_reach m) o))
          (lt-or-le (r.event - h.first) (whole_reach m))

-- Over a directory

module _ (r : Request) (rooms : Directory) (readings : List ℕ) where
  within_event : held_rooms r rooms ≤ r.event + 1
  unfolding held_rooms
  within_event = omega arith

  pub before_first : r.event - (room_history r rooms readings).first ≡ rooms_before r rooms
  unfolding room_history rooms_before
  before_first = omega (arith, within_event)

  up_to_event : r.event ≤ (room_history r rooms readings).first + (room_history r rooms readings).count
  unfolding room_history
  up_to_event = omega arith

  pub not_after : (room_history r rooms readings).first ≤ r.event + 1
  unfolding room_history
  not_after = omega arith

module _ (group : ℕ → Group) (r : Request) (rooms : Directory) (readings : List ℕ) where
  pub seen_rooms : (rules : Rules)
      → seen (method_by group r rules) (room_history r rooms readings) ≡ nearest (relevant group r) r (rooms_of r rooms readings) (rooms_before r rooms)
  unfolding room_history
  seen_rooms rules =
      let e : min 45 (r.event - (room_history r rooms readings).first) ≡ rooms_before r rooms = omega (arith, before_most r rooms, before_first r rooms readings) in
      seen-nearest group r (room_history r rooms readings) rules (up_to_event r rooms readings) ∙ ap (nearest (relevant group r) r (rooms_of r rooms readings)) e

  module _ {rules : Rules} {numbers : Numbers} (f : Follows r rules numbers) (found : Found)
      (q : Enough r numbers.most numbers.spares (nearest (relevant group r) r (rooms_of r rooms readings) (rooms_before r rooms)) found) where
    pub choose_full : numbers.most ≤ found.eligible.count
        → picked r.event numbers found.eligible.words numbers.most found.oldest ≡ choice_of (method_by group r rules) (room_history r rooms readings)
    choose_full =
        full_choice group f (room_history r rooms readings) (nearest (relevant group r) r (rooms_of r rooms readings) (rooms_before r rooms)) found (seen_rooms rules)
        (nearest_back (relevant group r) r (rooms_of r rooms readings) (rooms_before r rooms) (before_most r rooms)) q

    pub choose_few : found.eligible.count < numbers.most
        → among_few r numbers found (rooms_before r rooms) (whole_reach (method_by group r rules)) ≡ choice_of (method_by group r rules) (room_history r rooms readings)
    choose_few less =
        ap (λ (n : ℕ). among_few r numbers found n (whole_reach (method_by group r rules))) (sym (before_first r rooms readings))
        ∙ few_choice group f (room_history r rooms readings) (nearest (relevant group r) r (rooms_of r rooms readings) (rooms_before r rooms)) found (seen_rooms rules)
        (nearest_back (relevant group r) r (rooms_of r rooms readings) (rooms_before r rooms) (before_most r rooms)) q less (not_after r rooms readings)

    pub show_full : numbers.most ≤ found.eligible.count
        → Shows (method_by group r rules) (room_history r rooms readings) r.event numbers found.eligible.words numbers.most false
    show_full =
        full_shows group f (room_history r rooms readings) (nearest (relevant group r) r (rooms_of r rooms readings) (rooms_before r rooms)) found (seen_rooms rules)
        (nearest_back (relevant group r) r (rooms_of r rooms readings) (rooms_before r rooms) (before_most r rooms)) q

    pub show_few : found.eligible.count < numbers.most
        → Shows (method_by group r rules) (room_history r rooms readings) r.event numbers (filled_of numbers found).words (filled_of numbers found).count
        (ltb (rooms_before r rooms) (whole_reach (method_by group r rules)))
    show_few less =
        rw (before_first r rooms readings) at
        (few_shows group f (room_history r rooms readings) (nearest (relevant group r) r (rooms_of r rooms readings) (rooms_before r rooms)) found (seen_rooms rules)
        (nearest_back (relevant group r) r (rooms_of r rooms readings) (rooms_before r rooms) (before_most r rooms)) q less (not_after r rooms readings))

-- no relevant day lies beyond the look back: days held further back play no part in the test of the whole reach
module _ (group : ℕ → Group) (r : Request) (rooms : Directory) where
  reach_event : whole_reach (method_of group r) ≤ r.event
  unfolding whole_reach method_of method_by
  reach_event = omega arith

  held_test : ltb (rooms.held - 1) (whole_reach (method_of group r)) ≡ ltb (rooms_before r rooms) (whole_reach (method_of group r))
  held_test = rw (sym (before_is r rooms)) (same (whole_reach (method_of group r)) (reach_most group r) reach_event)
    where
      same : (far : ℕ) → far ≤ 45 → far ≤ r.event → ltb (rooms.held - 1) far ≡ ltb (min (rooms.held - 1) (min 45 r.event)) far
      same far a b = same_test (rooms.held - 1) far (min (rooms.held - 1) (min 45 r.event)) far (omega arith) (omega arith)

  few_held : (numbers : Numbers) (found : Found)
      → among_few r numbers found (rooms.held - 1) (whole_reach (method_of group r)) ≡ among_few r numbers found (rooms_before r rooms) (whole_reach (method_of group r))
  unfolding among_few
  few_held numbers found = rw held_test

-- By the request's own rules

module _ (group : ℕ → Group) (r : Request) (rooms : Directory) (readings : List ℕ) {g : Group} {numbers : Numbers} (found : Found)
    (own : g ≡ group r.event) (f : Follows r (rules_of g r) numbers)
    (q : Looked r numbers.spares (up_to numbers.most (held_days group g r rooms readings)) found) where
  own_days : held_days group g r rooms readings ≡ nearest (relevant group r) r (rooms_of r rooms readings) (rooms_before r rooms)
  own_days i = nearest (λ d. relevant_to_lem group g r d own i) r (rooms_of r rooms readings) (rooms_before r rooms)

  pub request_full : numbers.most ≤ found.eligible.count
      → picked r.event numbers found.eligible.words numbers.most found.oldest ≡ choice_of (method_of group r) (room_history r rooms readings)
  unfolding method_of
  request_full = choose_full group r rooms readings (rw own at f) found (enough (rw own_days at q))

  pub request_few : {before : ℕ} → before ≡ rooms.held - 1 → found.eligible.count < numbers.most
      → among_few r numbers found before (whole_reach (method_of group r)) ≡ choice_of (method_of group r) (room_history r rooms readings)
  unfolding method_of
  request_few held less = rw held (few_held group r rooms numbers found ∙ choose_few group r rooms readings (rw own at f) found (enough (rw own_days at q)) less)

  pub request_shows_full : numbers.most ≤ found.eligible.count
      → Shows (method_of group r) (room_history r rooms readings) r.event numbers found.eligible.words numbers.most false
  unfolding method_of
  request_shows_full = show_full group r rooms readings (rw own at f) found (enough (rw own_days at q))

  pub request_shows_few : {before : ℕ} → before ≡ rooms.held - 1 → found.eligible.count < numbers.most
      → Shows (method_of group r) (room_history r rooms readings) r.event numbers (filled_of numbers found).words (filled_of numbers found).count
      (ltb before (whole_reach (method_of group r)))
  unfolding method_of
  request_shows_few held less = rw (held, held_test group r rooms) (show_few group r rooms readings (rw own at f) found (enough (rw own_days at q)) less)
