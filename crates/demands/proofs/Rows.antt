-- The replies of the calls are those of 01's rows.
use Prim.Native.Nat.{ℕ, ◌+◌, ◌-◌, ◌*◌, ◌/◌}
use mathlib.Core.Path.{◌≡◌, refl, ◌∙◌}
use native.Mathlib.Omega.{arith}
use mathlib.Core.Bool.{Bool, true, false, not, cond, ◌&&◌, ◌||◌}
use mathlib.Core.List.{List, [], ◌∷◌, map}
use mathlib.Core.Option.{none, some}
use lib.ListN.{length}
use lib.IntN.{ℤ, pos}
use lib.Dec.{leb, ltb, eqb}
use Rattle.base_lists.proofs.Bools.{below_not}
use Rattle.base_lists.specs.Lists.{any}
use Rattle.calendar_dates.specs.Days.{last_day}
use Rattle.calendar_groups.specs.Holidays.{group}
use Rattle.method.specs.declared.Request.{Request}
use Rattle.method.specs.declared.Refusal.TheVariants.{BadFile, NoEvent, MarginTooShort, TooFew, NoAdjustmentWindow}
use Rattle.method.specs.Table.{Table, Day, held_days, offset, history, shaped, is_extract, good_mark, good_reading, missing}
use Rattle.method.specs.Ruler.{ruler_start, ruler_end}
use Rattle.method.specs.Relevant.{relevant_days}
use Rattle.method.specs.Method.{short, few, chose, days_of, whole_reach, eligibles, is_short, outcome}
use Rattle.method.specs.Adjustment.{Baseline, S, floored, adjustment, adjusting, is_average, adjusting_by, parts_of, baseline_at, baseline_by, baseline}
use Rattle.method.specs.Rules.{method_by}
use Rattle.method.specs.Requested.{rules_of, method_of}
use Rattle.method.specs.Verdict.{Reply, Answer, refused, answered, table_refusals, good_request, request_refusals, closing, first_of, methodology, by_list, verdict}
use Rattle.engine_baseline.proofs.Laws.{numerators_are}
use Rattle.std.specs.Prelude.{Ok, Err}
use Rattle.file_record.specs.Reader.{is_pf, good_end, events_in, shape_in, read_file, list_in, table_in, request_at, event_at_place}
use Rattle.file_baseline.specs.Reply.{reply_to, file_reply}
use Rattle.demands.specs.Calls.{of_file}
use Rattle.base_lists.proofs.Places.{over_same}
use Rattle.demands.specs.Rows.{chosen_of, window_of, count_of, reach_of, end_of, a_of, b_of, adjusted_of, numerators_of, answer_over}
use Rattle.demands.specs.Rows.{file_rows, table_rows, list_rows, request_rows, day_rows}
use Rattle.demands.proofs.Moves.{list_rows_lem}
use Rattle.demands.proofs.Tests.{from_not, and-not, or-not, none_of_four, any-not, most_is, few_is}

-- 1
bad_table : (t : Table)
    → (eqb (held_days t) 0 || ltb 128 (held_days t) || not (eqb (length t.readings) (offset t.first (held_days t))) ||
    ltb last_day (t.first + held_days t - 1))
    ≡ not (is_extract t)
unfolding is_extract shaped
bad_table t =
    rw (below_not 128 (held_days t), below_not last_day (t.first + held_days t - 1))
    (none_of_four (eqb (held_days t) 0) (leb (held_days t) 128) (eqb (length t.readings) (offset t.first (held_days t))) (leb (t.first + held_days t - 1) last_day))

-- 3
bad_reading : (x : ℕ) → (ltb 10000000 x && not (eqb x missing)) ≡ not (good_reading x)
bad_reading x = rw (below_not 10000000 x) (or-not (leb x 10000000) (eqb x missing))

pub table_rows_lem : (t : Table) → table_rows t ≡ table_refusals t
unfolding table_rows table_refusals
table_rows_lem t =
    rw (
      bad_table t,
      any-not good_mark (λ m. leb 4 m) (λ m. from_not 4 m) t.marks,
      any-not good_reading (λ x. ltb 10000000 x && not (eqb x missing)) bad_reading t.readings,
    )

-- 4
bad_request : (r : Request)
    → (ltb last_day r.participation || (ltb r.s (ruler_start r.event) || leb (ruler_end r.event) r.s) ||
    (ltb r.e (r.s + 1) || ltb (ruler_end r.event) r.e) || ltb r.s r.n || ltb 1 r.method)
    ≡ not (good_request r)
unfolding good_request
bad_request r =
    rw (
      below_not last_day r.participation,
      below_not r.s (ruler_start r.event),
      from_not (ruler_end r.event) r.s,
      below_not r.e (r.s + 1),
      below_not (ruler_end r.event) r.e,
      below_not r.s r.n,
      below_not 1 r.method,
    )
    (simp and-not)

pub request_rows_lem : (t : Table) (r : Request) (w size room : ℕ) → ltb size (w * (r.e - r.s)) ≡ ltb room (r.e - r.s)
    → request_rows t r w size ≡ request_refusals (history t) r room
unfolding request_rows request_refusals
request_rows_lem t r w size room e = rw (bad_request r, e)

-- the answer of what was worked out
abbrev replied : List ℕ → ℕ → Baseline → Answer
replied days reach b =
    record { days = days; reach = reach; denominator = b.denominator; adjusted = b.adjusted; numerators = map floored b.numerators }

-- 8 to 10, or the answer
closing_rows : (s y v z : Bool) (k p q n : ℕ) (days : List ℕ) (r : Request) (chosen : List (ℕ × Day)) (adj : ℤ)
    → closing (cond s (short k) (cond y (few p q) (chose days n (baseline_by r chosen (cond v (some (pos 0)) (cond z none (some adj)))))))
    ≡ first_of ((s, MarginTooShort k) ∷ (y, TooFew p q) ∷ (not v && z, NoAdjustmentWindow n) ∷ []) (answered (replied days n (baseline_at r chosen (cond v (pos 0) adj))))
unfolding closing first_of
closing_rows true y v z k p q n days r chosen adj = refl
closing_rows false true v z k p q n days r chosen adj = refl
closing_rows false false true z k p q n days r chosen adj = refl
closing_rows false false false true k p q n days r chosen adj = refl
closing_rows false false false false k p q n days r chosen adj = refl

-- without adjustment N, A and B count as 0
by_parts : (v : Bool) (s n a b : ℕ) → cond v 1 12 * s + cond v 0 n * cond v 0 a - cond v 0 b ≡ cond v s (12 * s + n * a - b)
by_parts true s n a b = omega arith
by_parts false s n a b = refl

adjusted_by : (v : Bool) (n a b : ℕ) → cond v (pos 0) (adjustment n a b) ≡ adjustment (cond v 0 n) (cond v 0 a) (cond v 0 b)
adjusted_by true n a b = refl
adjusted_by false n a b = refl

module _ (moves : List ℕ) (t : Table) (r : Request) where
  numerators_by : map floored (baseline_at r (chosen_of moves t r) (adjusted_of moves t r)).numerators ≡ numerators_of moves t r
  unfolding numerators_of
  numerators_by =
      rw (adjusted_by v n a b) (numerators_are r (cond v 0 n) (chosen_of moves t r) (cond v 0 a) (cond v 0 b)) ∙
      over_same _ _ (r.e - r.s) r.s (λ q x y. by_parts v (S r.event (chosen_of moves t r) q) n a b)
    where
      v : Bool
      v = is_average r

      n : ℕ
      n = count_of moves t r

      a : ℕ
      a = a_of moves t r

      b : ℕ
      b = b_of moves t r

  worked_is : replied (days_of (chosen_of moves t r)) (reach_of moves t r) (baseline_at r (chosen_of moves t r) (adjusted_of moves t r)) ≡ answer_over moves t r
  unfolding answer_over baseline_at
  worked_is i =
      record {
        days = days_of (chosen_of moves t r);
        reach = reach_of moves t r;
        denominator = parts_of r * count_of moves t r;
        adjusted = adjusted_of moves t r;
        numerators = numerators_by i;
      }

  day_rows_lem : closing (outcome (method_of (group moves) r) (history t)) ≡ first_of (day_rows moves t r) (answered (answer_over moves t r))
  unfolding outcome method_of method_by baseline adjusting_by adjusting is_short whole_reach day_rows
  day_rows_lem =
      closing_rows (is_short (method_of (group moves) r) (history t)) (eqb ((rules_of (group moves r.event) r).taken (length (window_of moves t r))) 0)
      (is_average r) (eqb (end_of moves t r) 0) (whole_reach (method_of (group moves) r)) (length (window_of moves t r)) (reach_of moves t r) (reach_of moves t r)
      (days_of (chosen_of moves t r)) r (chosen_of moves t r) (adjustment (count_of moves t r) (a_of moves t r) (b_of moves t r)) ∙
      (λ i. first_of ((
        ltb (length (eligibles (method_of (group moves) r) (history t))) (most_is (group moves r.event) r i) &&
            any (λ d. ltb d t.first) (relevant_days (group moves) r),
        MarginTooShort (whole_reach (method_of (group moves) r)),
      ) ∷
      (few_is (group moves r.event) r (length (window_of moves t r)) i, TooFew (length (window_of moves t r)) (reach_of moves t r)) ∷
      (not (is_average r) && eqb (end_of moves t r) 0, NoAdjustmentWindow (reach_of moves t r)) ∷ [])
      (answered (worked_is i)))

  pub verdict_rows : (w size room : ℕ) → ltb size (w * (r.e - r.s)) ≡ ltb room (r.e - r.s)
      → verdict moves t r room
      ≡ first_of (table_rows t) (first_of (list_rows moves) (first_of (request_rows t r w size) (first_of (day_rows moves t r) (answered (answer_over moves t r)))))
  unfolding verdict by_list methodology
  verdict_rows w size room e = rw (table_rows_lem t, list_rows_lem moves, request_rows_lem t r w size room e, day_rows_lem)

-- 11 and 12
module _ (file : List ℕ) (place room : ℕ) where
  its : Reply
  its = verdict (list_in file) (table_in file) (request_at file place) (room / 4)

  at_place : (b : Bool) → reply_to (cond b (Ok (request_at file place)) (Err NoEvent)) (list_in file) (table_in file) room ≡ cond (not b) (refused NoEvent) its
  unfolding its
  at_place true = refl
  at_place false = refl

  in_file : (p g : Bool)
      → reply_to (event_at_place (cond p (cond g (Ok (shape_in file)) (Err (BadFile (good_end file)))) (Err (BadFile 0))) file place) (list_in file) (table_in file) room
      ≡ cond (not (p && g)) (refused (BadFile (cond p (good_end file) 0))) (cond (leb (events_in file) place) (refused NoEvent) its)
  unfolding shape_in
  in_file true true = at_place (ltb place (events_in file)) ∙ rw (from_not (events_in file) place)
  in_file true false = refl
  in_file false g = refl

  pub file_rows_lem : file_reply file place room ≡ first_of (file_rows (of_file file place)) (verdict (list_in file) (table_in file) (request_at file place) (room / 4))
  unfolding file_reply read_file file_rows first_of its
  file_rows_lem = in_file (is_pf file) (eqb (good_end file) (length file))
