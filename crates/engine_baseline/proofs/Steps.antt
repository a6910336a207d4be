-- The steps of the engine, over plain variables: what each asks and gives.
use Prim.Native.Nat.{ℕ, ◌+◌, ◌-◌, ◌*◌, ◌%◌, ◌^◌, ◌≤◌, ◌<◌, min}
use mathlib.Core.Path.{◌≡◌, refl, sym, ap, ap₂, ◌∙◌}
use mathlib.Core.Bool.{Bool, true, false}
use mathlib.Core.List.{List, ◌++◌, map}
use mathlib.Core.Option.{Option, some}
use native.Mathlib.Omega.{arith}
use borrow.Author.Tests.{eq-eqb, ne_eqb}
use lib.ListN.{length, get_or, take, drop, length-take, length-append, length-replicate, length-map}
use lib.IntN.{ℤ, pos}
use Rattle.base_lists.specs.Lists.{places}
use Rattle.base_lists.proofs.Maps.{map-take}
use Rattle.calendar_groups.specs.Holidays.{good_moves, group}
use Rattle.method.specs.declared.Request.{Request}
use Rattle.method.specs.declared.Refusal.{Refusal}
use Rattle.method.specs.declared.Refusal.TheVariants.{NoAdjustmentWindow, BadMoves}
use Rattle.method.specs.Table.{Day, History, size}
use Rattle.method.specs.Ruler.{against}
use Rattle.method.specs.Adjustment.{ruler, adjustment_end, A, B, S, adjustment, adjusting, is_average, adjusting_by, parts_of, unfloored, floored}
use Rattle.method.specs.Adjustment.{baseline_at, baseline}
use Rattle.method.specs.Method.{outcome}
use Rattle.method.specs.Requested.{method_of}
use Rattle.method.specs.Verdict.{Reply, refused, answered, request_refusals, closing, methodology, written}
use Rattle.method.proofs.Tables.{size_is}
use Rattle.method.proofs.Ruler.{start_size, quarter_from}
use Rattle.method_laws.proofs.ByList.{by_good, by_bad}
use Rattle.engine_rooms.specs.declared.Directory.{Directory}
use Rattle.engine_rooms.specs.Rooms.{readings_at, room_day, room_history}
use Rattle.base_lists.proofs.Places.{length_over, over_same, over_shift, over_list}
use Rattle.engine_sums.specs.QuarterSteps.{quarter_sum}
use Rattle.engine_places.specs.declared.Places.{Places}
use Rattle.engine_places.specs.PlaceSteps.{placed_of}
use Rattle.engine_numerators.specs.NumeratorSteps.{window_sums, chosen_at, adjustment_of, numerators_of, Written}
use Rattle.engine_numerators.proofs.Standing.{S_placed, B_placed}
use Rattle.engine_answer.specs.declared.Chosen.{Chosen}
use Rattle.std.specs.Prelude.{Ok, Err}
use Rattle.engine_refusals.specs.Steps.{tested}
use Rattle.engine_refusals.proofs.FirstRefusal.{GoodRequest, good_request_lem, request_passed, first_failed, first_passed}
use Rattle.engine_answer.specs.declared.Answer.{Answer}
use Rattle.engine_answer.specs.Answer.{answer_of, Answers}
use Rattle.engine_baseline.specs.Engine.{with_days, in_words, over_rooms}
use Rattle.engine_baseline.specs.Steps.{start_of, Fit, Ready, reply_of}

-- a refusal has no words
pub words_refused : (r : Request) (h : History Day) {reply : Reply} {w : Refusal} → reply ≡ refused w → in_words r h reply ≡ refused w
unfolding in_words
words_refused r h e = rw e

-- ---- the refusals of the list and of the request
-- what was found of the list holds of it
pub found_so : {found good said : Bool} → found ≡ good → found ≡ said → good ≡ said
found_so e t = sym e ∙ t

module _ (moves : List ℕ) (r : Request) (rooms : Directory) (readings : List ℕ) (room : ℕ) where
  abbrev shown : History Day
  shown = room_history r rooms readings

  abbrev worked : Reply
  worked = closing (outcome (method_of (group moves) r) shown)

  pub over_bad : good_moves moves ≡ false → over_rooms moves r rooms readings room ≡ refused BadMoves
  unfolding over_rooms
  over_bad bad = words_refused r shown (by_bad moves shown r room bad)

  pub over_refused : good_moves moves ≡ true → {w : Refusal} → tested (request_refusals shown r room) ≡ Err w
      → over_rooms moves r rooms readings room ≡ refused w
  unfolding over_rooms methodology
  over_refused good {w} e =
      words_refused r shown (by_good moves shown r room good ∙ first_failed (request_refusals shown r room) w worked e)

  module _ (e : tested (request_refusals shown r room) ≡ Ok tt) where
    pub fit : Fit r shown room
    fit = let f = request_passed shown r room e in record { request = f.request; holds = f.holds; enough = f.enough }

    pub over_passed : good_moves moves ≡ true → in_words r shown worked ≡ over_rooms moves r rooms readings room
    unfolding over_rooms methodology
    over_passed good =
        ap (in_words r shown) (sym (by_good moves shown r room good ∙ first_passed (request_refusals shown r room) worked e))

-- ---- chosen days
module _ (r : Request) (rooms : Directory) (readings : List ℕ) (room : ℕ) (chosen : Chosen) (k : Ready r room chosen) where
  abbrev h : History Day
  h = room_history r rooms readings

  abbrev days : List ℕ
  days = take chosen.count chosen.days

  abbrev start : ℕ → ℕ
  start = start_of rooms r.event

  abbrev at : List ℕ
  at = map start days

  -- how many quarters the chosen days have
  abbrev wide : ℕ
  wide = size (get_or chosen.days 0 0)

  pub ranges : GoodRequest r
  ranges = good_request_lem r k.request

  pub room_enough : r.e - r.s ≤ room
  room_enough = k.enough

  -- the output's first places
  pub room_long : (out : List ℕ) → length out ≡ room → length (take (r.e - r.s) out) ≡ r.e - r.s
  room_long out e = rw length-take (omega (arith, room_enough))

  five_long : length chosen.days ≡ 5
  five_long = ap length k.five ∙ rw (length-take, length-append, length-replicate) (omega arith)

  days_long : length days ≡ chosen.count
  days_long = rw length-take (omega (arith, five_long, k.few))

  -- a day's readings stand where its room says; every day has as many
  day_part : (d : ℕ) → (h.day d).readings ≡ readings_at wide readings (start d)
  unfolding room_history room_day
  day_part d =
      ap (λ n. readings_at n readings (start d)) (size_is (r.event - (r.event - d)) ∙ sym (size_is (get_or chosen.days 0 0)))

  -- the chosen days with what is held of them: how many they are, and their sums
  abbrev known : List (ℕ × Day)
  known = with_days h days

  known_long : length known ≡ chosen.count
  unfolding with_days
  known_long = length-map days (λ d. (d, h.day d)) ∙ days_long

  S_is : (t : ℕ) → S r.event known t ≡ quarter_sum wide readings at (against r.event t)
  unfolding with_days
  S_is t = S_placed r.event wide readings h.day start day_part days t

  abbrev from : ℕ
  from = against r.event r.s

  against_next : (q : ℕ) → against r.event (r.s + q) ≡ from + q
  unfolding against
  against_next q =
      quarter_from r.event (r.s + q) (omega (arith, ranges.from)) ∙
      omega (arith, quarter_from r.event r.s ranges.from, ranges.from)

  -- where they stand
  count_is : min chosen.count 5 ≡ chosen.count
  count_is = omega (arith, k.few)

  placed_is : (end : ℕ) → chosen_at (placed_of r rooms.at chosen.days chosen.count end) ≡ at
  placed_is end = rw (count_is, map-take start chosen.count chosen.days) (ap (take chosen.count) starts)
    where
      starts : map (λ k. start (get_or chosen.days k 0)) (places 5 0) ≡ map start chosen.days
      starts = rw five_long at (over_list start chosen.days)

  -- ---- the answer of an adjustment, whatever the method
  abbrev moved : Option ℤ
  moved = adjusting_by r known (h.day (r.event - 1)) (h.day r.event)

  -- a numerator of a sum, in words
  abbrev in_word : ℤ → ℕ → ℕ
  in_word adj sum = floored (unfloored (parts_of r) (sum % 2 ^ 32) adj) % 2 ^ 32

  -- the numerators, quarter by quarter
  abbrev numbers : ℤ → List ℕ
  numbers adj = map (λ q. in_word adj (quarter_sum wide readings at (from + q))) (places (r.e - r.s) 0)

  module _ {adj : ℤ} (adjusts : moved ≡ some adj) where
    numbers_are : map (λ t. in_word adj (S r.event known t)) (places (r.e - r.s) r.s) ≡ numbers adj
    numbers_are =
        rw zero_s at (over_shift (λ t. in_word adj (S r.event known t)) r.s (r.e - r.s) 0) ∙
        over_same (λ q. in_word adj (S r.event known (r.s + q))) (λ q. in_word adj (quarter_sum wide readings at (from + q))) (r.e - r.s) 0 each
      where
        zero_s : r.s + 0 ≡ r.s
        zero_s = omega arith

        each : (q : ℕ) → 0 ≤ q → q < 0 + (r.e - r.s) → in_word adj (S r.event known (r.s + q)) ≡ in_word adj (quarter_sum wide readings at (from + q))
        each q a b = ap (in_word adj) (S_is (r.s + q) ∙ ap (quarter_sum wide readings at) (against_next q))

    reply_is : in_words r h (reply_of r h chosen) ≡ answered (record {
      days = days;
      reach = chosen.reach;
      denominator = parts_of r * chosen.count;
      adjusted = adj;
      numerators = numbers adj;
    })
    unfolding in_words baseline baseline_at closing
    reply_is = rw (adjusts, known_long, ← numbers_are)

    numbers_long : length (numbers adj) ≡ r.e - r.s
    numbers_long = length_over (λ q. in_word adj (quarter_sum wide readings at (from + q))) (r.e - r.s) 0

    answers : {answer : Answer} {ys out : List ℕ} {over : ℕ} {given : ℤ} → ys ≡ numbers adj → over ≡ parts_of r * chosen.count → given ≡ adj
        → answer ≡ record { chosen = chosen; denominator = over; adjustment = given }
        → Answers (in_words r h (reply_of r h chosen)) (Ok answer) out (ys ++ drop (r.e - r.s) out)
    unfolding answer_of written
    answers {answer} {ys} {out} w o g e =
        record {
          answer = ap Ok e ∙ rw reply_is (λ i. Ok (record {
            chosen = record { days = k.five i; count = sym days_long i; reach = chosen.reach };
            denominator = o i;
            adjustment = g i;
          }));
          output = rw (reply_is, numbers_long) (ap (λ l. l ++ drop (r.e - r.s) out) w);
        }

  -- ---- Average X of Y
  module _ (average : is_average r ≡ true) {placed : Places} (es : placed ≡ placed_of r rooms.at chosen.days chosen.count 0) where
    unadjusted : moved ≡ some (pos 0)
    unfolding adjusting_by
    unadjusted = rw average

    sums_are : {n : ℕ} {ys : List ℕ} → n ≡ r.e - r.s
        → ys ≡ map (λ q. quarter_sum placed.quarters readings (chosen_at placed) (placed.start + q) % 2 ^ 32) (places n 0) → ys ≡ numbers (pos 0)
    sums_are {n} {ys} l e = rw (es, placed_is 0, l) at e ∙ rw average (over_same _ _ (r.e - r.s) 0 each)
      where
        each : (q : ℕ) → 0 ≤ q → q < 0 + (r.e - r.s)
            → quarter_sum wide readings at (from + q) % 2 ^ 32 ≡ floored (unfloored 1 (quarter_sum wide readings at (from + q) % 2 ^ 32) (pos 0)) % 2 ^ 32
        each q a b = omega arith

    pub averages : {n : ℕ} {ys : List ℕ} {answer : Answer} (out : List ℕ) → n ≡ r.e - r.s
        → ys ≡ map (λ q. quarter_sum placed.quarters readings (chosen_at placed) (placed.start + q) % 2 ^ 32) (places n 0)
        → answer ≡ record { chosen = chosen; denominator = chosen.count; adjustment = pos 0 }
        → Answers (in_words r h (reply_of r h chosen)) (Ok answer) out (ys ++ drop (r.e - r.s) out)
    averages out l s e = answers unadjusted (sums_are l s) (rw average (omega arith)) refl e

  -- ---- High X of Y: yesterday's and today's readings, and the ruler
  module _ (high : is_average r ≡ false) {y z : List ℕ} (ey : y ≡ readings_at (size (r.event - 1)) readings (get_or rooms.at 1 0))
      (ez : z ≡ readings_at (size r.event) readings (get_or rooms.at 0 0)) {end : ℕ} (ee : end ≡ adjustment_end r (y ++ z)) where
    abbrev line : List ℕ
    line = ruler (h.day (r.event - 1)) (h.day r.event)

    line_is : y ++ z ≡ line
    unfolding room_history room_day
    line_is =
        let one : r.event - (r.event - 1) ≡ 1 = omega (arith, k.some) in
        let none : r.event - r.event ≡ 0 = omega arith in
        let back : r.event - 0 ≡ r.event = omega arith in
        rw (one, none, back) (ap₂ (λ a b. a ++ b) ey ez)

    end_is : end ≡ adjustment_end r line
    end_is = ee ∙ ap (adjustment_end r) line_is

    pub no_window : end ≡ 0 → in_words r h (reply_of r h chosen) ≡ refused (NoAdjustmentWindow chosen.reach)
    unfolding in_words baseline adjusting_by adjusting closing
    no_window e = rw (high, eq-eqb (adjustment_end r line) 0 (sym end_is ∙ e))

    module _ (n : end ≡ 0 → ⊥) where
      some_end : adjustment_end r line ≡ 0 → ⊥
      some_end e = n (end_is ∙ e)

      abbrev own : ℕ
      own = A (y ++ z) end

      abbrev usual : ℕ
      usual = window_sums wide readings at end

      abbrev adj : ℤ
      adj = adjustment chosen.count own usual

      B_is : B r.event known end ≡ usual
      unfolding with_days
      B_is =
          B_placed r.event wide readings h.day start day_part (size_is (get_or chosen.days 0 0) ∙ sym (size_is (r.event - 1)) ∙
          start_size r.event) days end

      adj_is : adj ≡ adjustment chosen.count (A line (adjustment_end r line)) (B r.event known (adjustment_end r line))
      adj_is = ap₂ (λ a b. adjustment chosen.count a b) (ap₂ A line_is end_is) (sym B_is ∙ ap (B r.event known) end_is)

      adjusts : moved ≡ some adj
      unfolding adjusting_by adjusting
      adjusts = rw (high, ne_eqb (adjustment_end r line) 0 some_end, known_long, ← adj_is)

      -- what is worked out from the places of the days
      module _ {placed : Places} (es : placed ≡ placed_of r rooms.at chosen.days chosen.count end) where
        given_is : adjustment_of readings placed y z ≡ adj
        unfolding adjustment_of
        given_is = rw (es, placed_is end, count_is)

        module _ {length' : ℕ} {given : ℤ} {ys : List ℕ} (w : Written readings placed y z length' given ys) where
          written_is : length' ≡ r.e - r.s → ys ≡ numbers adj
          unfolding numerators_of
          written_is e = w.output ∙ rw (e, given_is, es, placed_is end, high)

          pub adjusted_answers : {answer : Answer} {out : List ℕ} → length' ≡ r.e - r.s
              → answer ≡ record { chosen = chosen; denominator = 12 * chosen.count; adjustment = given }
              → Answers (in_words r h (reply_of r h chosen)) (Ok answer) out (ys ++ drop (r.e - r.s) out)
          adjusted_answers l e = answers adjusts (written_is l) (rw high) (w.adjusted ∙ given_is) e
