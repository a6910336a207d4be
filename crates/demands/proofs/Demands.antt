-- The demands, proved for every call.
use Prim.Native.Nat.{ℕ, ◌*◌, ◌≤◌, ◌<◌}
use mathlib.Core.Path.{◌≡◌, refl, sym, ap, ◌∙◌}
use mathlib.Core.Logic.{⊎_elim}
use mathlib.Core.Bool.{true, false}
use mathlib.Core.List.{List, [], ◌∷◌, ◌++◌}
use native.Mathlib.Omega.{arith}
use lib.ListN.{length, take, drop, length-append, length-drop, length-map}
use lib.Seq.{take_at, drop_at}
use borrow.Author.Tests.{eqb-true, eq-eqb}
use Rattle.std.specs.Prelude.{Result, Ok, Err, is_ok, IsOk}
use Rattle.base_lists.specs.Lists.{any, member}
use Rattle.calendar_groups.specs.Holidays.{group}
use Rattle.method.specs.declared.Request.{Request}
use Rattle.method.specs.declared.Refusal.{Refusal}
use Rattle.method.specs.declared.Refusal.TheVariants.{MarginTooShort}
use Rattle.method.specs.Table.{Table, Day, history}
use Rattle.method.specs.Adjustment.{is_average, parts_of}
use Rattle.method.specs.Method.{whole_reach}
use Rattle.method.specs.Requested.{method_of}
use Rattle.method.specs.Verdict.{Reply, Answer as Numbers, refused, answered, by_list, verdict}
use Rattle.method.specs.CutTables.{LongerFormed, held_before, cut_to, Undecided, Parted, is_margin, is_settled, reported as reported_in}
use Rattle.method_laws.proofs.Replies.{none_early}
use Rattle.method_laws.proofs.Settled.{settled_margin}
use Rattle.method_laws.proofs.Extract.{none_of_table, verdict_stable, verdict_margin, reach_within, reach_same, reach_fewest}
use Rattle.method_laws.proofs.NoPart.{no_part}
use Rattle.engine_answer.specs.declared.Answer.{Answer}
use Rattle.engine_answer.specs.Answer.{answer_of}
use Rattle.method.proofs.Replies.{one_outcome}
use Rattle.table_baseline.proofs.Laws.{sound, never_above}
use Rattle.demands.specs.Calls.{Call, moves, extract, request, stand, room, Gets, result, reported}
use Rattle.demands.specs.Rows.{n_of, chosen_of, count_of, adjusted_of, earlier, rows, applies, answer_over, numerators_of}
use Rattle.demands.specs.Demands.{quarters, Demand1, Demand2, Settled, Demand3, NoPart, Demands}
use Rattle.demands.proofs.Rows.{table_rows_lem}
use Rattle.demands.proofs.First.{first_in, first_of_lem, none_first}
use Rattle.demands.proofs.Results.{reply_of, gets_same, Gives, gives_gets, gets_answer, is_refused, is_answered, given_refused, given_answered, given_of, is_given}
use Rattle.demands.proofs.Results.{number_in, result_is, reported_is, settled_is, margin_is, gets_kept, gets_output, stand-length}
use Rattle.demands.proofs.Passing.{Late, over_formed, late, none_earlier, settled_late}
use Rattle.demands.proofs.Answered.{high_count, over_2_or_1, numerators_count, over_60_or_24, quarters_fit}

module _ (c : Call) (a : Result Answer Refusal) (out after : List ℕ) (gives : Gives c a out after) where
  abbrev t : Table
  t = extract c

  abbrev r : Request
  r = request c

  abbrev ms : List ℕ
  ms = moves c

  gets : Gets c (reply_of c out) a out after
  gets = gives_gets c a out after gives

  is : a ≡ answer_of (reply_of c out)
  is = gets_answer c a out after (reply_of c out) gets

  given_is : {x : Reply} → reply_of c out ≡ x → a ≡ answer_of x
  given_is e = is ∙ ap answer_of e

  given_ok : {x : Reply} → reply_of c out ≡ x → IsOk (answer_of x) → IsOk a
  given_ok e k = ap (λ (y : Result Answer Refusal). is_ok y) (given_is e) ∙ k

  number_is : result a ≡ number_in (reply_of c out)
  number_is = ap result is ∙ result_is (reply_of c out)

  -- ---- demand 1
  to_refused : (w : Refusal) → a ≡ Err w → reply_of c out ≡ refused w
  to_refused w e = is_refused (reply_of c out) w (sym (given_is refl) ∙ e)

  none_applies : IsOk a → any applies (rows c (length out)) ≡ false
  none_applies e =
      let n = is_answered (reply_of c out) (sym (ap (λ (y : Result Answer Refusal). is_ok y) is) ∙ e) in
      none_first (rows c (length out)) (answer_over ms t r) n.0 n.1

  to_answered : any applies (rows c (length out)) ≡ false → reply_of c out ≡ answered (answer_over ms t r)
  to_answered n = none_early (rows c (length out)) (answered (answer_over ms t r)) n

  module _ (e : IsOk a) where
    answers : reply_of c out ≡ answered (answer_over ms t r)
    answers = to_answered (none_applies e)

    is_verdict : verdict ms t r (room c out) ≡ answered (answer_over ms t r)
    is_verdict = sym (late c out (none_earlier c out (rw answers (unfold member in refl)))).over.its ∙ answers

    output : after ≡ stand c (numerators_of ms t r) ++ drop (quarters c) out
    unfolding answer_over
    output = gets_output c a out after (answer_over ms t r) (gets_same c a out after answers gets) ∙ rw (numerators_count ms t r)

    stands : length (stand c (numerators_of ms t r)) ≡ quarters c
    stands = stand-length c (numerators_of ms t r) ∙ rw (numerators_count ms t r)

    fits : quarters c ≤ length out
    fits = quarters_fit c out (sound ms t r (room c out) is_verdict).enough

    answered_long : length after ≡ length out
    answered_long = rw (output, length-append, stands, length-drop) (omega (arith, fits))

    rest : drop (quarters c) after ≡ drop (quarters c) out
    rest = rw output (drop_at (stand c (numerators_of ms t r)) (drop (quarters c) out) (quarters c) stands)

    stands_first : take (quarters c) after ≡ stand c (numerators_of ms t r)
    stands_first = rw output (take_at (stand c (numerators_of ms t r)) (drop (quarters c) out) (quarters c) stands)

  long : length after ≡ length out
  long =
      ⊎_elim (λ (x : (w : Refusal) × (reply_of c out ≡ refused w)). ap length (gets_kept c a out after x.0 (gets_same c a out after x.1 gets)))
      (λ (x : (n : Numbers) × (reply_of c out ≡ answered n)). answered_long (given_ok x.1 (given_answered x.0)))
      (one_outcome (reply_of c out))

  demand1 : Demand1 c a out after
  demand1 =
      record {
        one = gets;
        refused_when = λ w. (
          λ e. first_in (rows c (length out)) (answer_over ms t r) w (to_refused w e),
          λ f. given_is (first_of_lem (rows c (length out)) (answered (answer_over ms t r)) w f) ∙ given_refused w,
        );
        answered_when = (none_applies, λ n. given_ok (to_answered n) (given_answered (answer_over ms t r)));
        kept = λ w e. gets_kept c a out after w (gets_same c a out after (to_refused w e) gets);
        long = long;
        rest = rest;
      }

  -- ---- demand 2
  demand2 : (x : Answer) → a ≡ Ok x → Demand2 c x out after
  unfolding answer_of answer_over
  demand2 x k =
      record {
        days = ap (λ (y : Answer). y.chosen.days) its;
        count = count;
        reach = ap (λ (y : Answer). y.chosen.reach) its;
        numerators = stands_first e;
        never_above = never_above ms t r (room c out) (answer_over ms t r) (is_verdict e);
        high = λ v. record {
          count = count ∙ n_days v;
          denominator = rw (divided, v, n_days v);
          adjusted = rw (moved, v, n_days v);
          over = rw (divided, v, n_days v) (over_60_or_24 (group ms r.event));
        };
        average = λ v. record {
          denominator = rw (divided, v, count) (omega arith);
          adjusted = rw (moved, v);
          over = rw (divided, v) (over_2_or_1 c (length out) (none_applies e) v);
        };
      }
    where
      e : IsOk a
      e = rw k

      its : x ≡ given_of (answer_over ms t r)
      its = is_given (answer_over ms t r) (sym k ∙ is ∙ ap answer_of (answers e))

      count : x.chosen.count ≡ count_of ms t r
      count = ap (λ (y : Answer). y.chosen.count) its ∙ length-map (chosen_of ms t r) (λ (p : ℕ × Day). p.0)

      divided : x.denominator ≡ parts_of r * count_of ms t r
      divided = ap (λ (y : Answer). y.denominator) its

      moved : x.adjustment ≡ adjusted_of ms t r
      moved = ap (λ (y : Answer). y.adjustment) its

      n_days : is_average r ≡ false → count_of ms t r ≡ n_of ms r
      n_days v = high_count c (length out) (none_applies e) v

  -- ---- demand 3
  is_late : member (result a) (0 ∷ 8 ∷ 9 ∷ 10 ∷ []) ≡ true → Late c out
  is_late e = late c out (none_earlier c out (rw number_is at e))

  module _ (s : Settled a) where
    l : Late c out
    l = is_late (settled_late (result a) s)

    its : reply_of c out ≡ verdict ms t r (room c out)
    its = l.over.its

    settled : is_settled (verdict ms t r (room c out)) ≡ true
    settled = sym (ap is_settled its) ∙ sym (settled_is (reply_of c out)) ∙ (rw number_is at s)

    reported_as : reported a ≡ reported_in (verdict ms t r (room c out))
    reported_as = ap reported is ∙ reported_is (reply_of c out) ∙ ap reported_in its

    clear : is_margin (verdict ms t r (room c out)) ≡ false
    clear = settled_margin (verdict ms t r (room c out)) settled

    stable : (m : Table) → LongerFormed m t → Gets c (by_list ms (history m) r (room c out)) a out after
    stable m x =
        gets_same c a out after
        (its ∙
        sym (verdict_stable ms t r (room c out) l.over.is_one l.over.well l.holds clear m x))
        gets

    within : reported a ≤ held_before t r
    within = omega (arith, reported_as, reach_within ms t r (room c out) l.over.is_one l.over.well l.holds settled)

    same : Gets c (verdict ms (cut_to t r (reported a)) r (room c out)) a out after
    same =
        gets_same c a out after
        (its ∙ sym (reach_same ms t r (room c out) l.over.is_one l.over.well l.holds settled) ∙
        sym (ap (λ (k : ℕ). verdict ms (cut_to t r k) r (room c out)) reported_as))
        gets

    fewest : (k : ℕ) → k < reported a
        → verdict ms (cut_to t r k) r (room c out) ≡ refused (MarginTooShort (whole_reach (method_of (group ms) r)))
    fewest k less =
        reach_fewest ms t r (room c out) l.over.is_one l.over.well l.holds settled k (omega (arith, less, reported_as))

  given_when : any applies (earlier c (length out)) ≡ false → Undecided (group ms) t r → result a ≡ 8
  given_when n u =
      let x = late c out n in
      let margin = (verdict_margin ms t r (room c out) x.over.is_one x.over.well x.holds x.good x.none).1 u in
      number_is ∙ eqb-true (number_in (reply_of c out)) 8 (sym (margin_is (reply_of c out)) ∙ ap is_margin x.over.its ∙ margin)

  shown : result a ≡ 8 → Parted (group ms) t r
  shown e =
      let x = is_late (rw e (unfold member in refl)) in
      (verdict_margin ms t r (room c out) x.over.is_one x.over.well x.holds x.good x.none).0
      (sym (ap is_margin x.over.its) ∙ margin_is (reply_of c out) ∙ eq-eqb (number_in (reply_of c out)) 8 (sym number_is ∙ e))

  demand3 : Demand3 c a out after
  demand3 =
      record {
        stable = stable;
        exactly = λ n. (λ m. (shown m).two, given_when n);
        shown = shown;
        reach_held = within;
        reach_same = same;
        reach_fewest = λ s k less. fewest s k (omega (arith, less));
      }

  -- ---- what plays no part
  plays_none : NoPart c a out after
  plays_none files tables u x n =
      let f = over_formed c out files tables in
      let other = none_of_table u (rw table_rows_lem at n) in
      gets_same c a out after
      (f.its ∙
      sym (no_part ms t u r (room c out) f.is_one f.well other.0 other.1 x.first x.event (λ d h b. x.days d b h) x.readings))
      gets

pub demands : (c : Call) (a : Result Answer Refusal) (out after : List ℕ) → Gives c a out after → Demands c a out after
demands c a out after gives =
    record {
      first = demand1 c a out after gives;
      second = demand2 c a out after gives;
      third = demand3 c a out after gives;
      no_part = plays_none c a out after gives;
    }
