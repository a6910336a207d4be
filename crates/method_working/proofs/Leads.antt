-- The sheet of an event leads to its answer: by the ranks that it shows to the days chosen, and by its numbers to the baseline. And a day is chosen
-- exactly where its rank is taken.
use Prim.Native.Nat.{ℕ, ◌+◌, ◌-◌, ◌*◌, ◌≤◌, ◌<◌}
use mathlib.Core.Path.{◌≡◌, refl, sym, ap, ◌∙◌}
use mathlib.Core.Bool.{Bool, true, false, not, cond, ◌&&◌, ◌||◌}
use mathlib.Core.List.{List, map, map-map}
use mathlib.Core.Option.{Option, none, some}
use mathlib.Core.Logic.{⊎_elim}
use native.Mathlib.Omega.{arith}
use lib.Dec.{leb, ltb, eqb}
use lib.IntN.{ℤ, pos}
use lib.ListN.{length, get_or}
use borrow.Author.Tests.{le-leb, lt-leb, le-ltb, eq-eqb, ne_eqb}
use Rattle.base_lists.specs.Lists.{leading, member, places}
use Rattle.base_lists.proofs.Bools.{lt-or-le}
use Rattle.calendar_groups.specs.declared.Group.{Group}
use Rattle.method.specs.declared.Request.{Request}
use Rattle.method.specs.Table.{Day, History}
use Rattle.method.specs.Method.{Method, days_of, short, few, chose, outcome, window, chosen, reach, is_short, whole_reach}
use Rattle.method.specs.Adjustment.{S, A, B, adjustment, adjusting, is_average, adjusting_by, parts_of, unfloored, floored}
use Rattle.method.specs.Adjustment.{Baseline, baseline_at, baseline_by, baseline}
use Rattle.method.specs.Rules.{method_by}
use Rattle.method.specs.Requested.{method_of}
use Rattle.method.specs.Verdict.{Answer, answered, request_refusals, closing, methodology}
use Rattle.method.proofs.Replies.{never_both, answered_after}
use Rattle.method_working.specs.Working.{rank_in, by_rank, rank, is_chosen, chooses, along, ends, answers}
use Rattle.method_working.specs.Sheet.{sheet_of, day_of_rank, days_taken, adjustment_shown, numerator_shown, Leads, SheetLeads, ChosenShown}
use Rattle.method_working.proofs.Ranks.{at_member, rank_at, rank_is, member-part, part_by, leading-places}
use Rattle.method_working.proofs.ByRank.{passed, taken, ranked_once, ranked_near, enough, chosen_part, chosen_size}

-- ---- the days by the ranks shown
module _ (group : ℕ → Group) (r : Request) (h : History Day) where
  abbrev days : List ℕ
  days = by_rank group r h

  -- the rank of a day from day 0 on; below it there is none
  rank_back : (back : ℕ) → back ≤ r.event → rank group r h back ≡ rank_in days (r.event - back)
  unfolding rank
  rank_back back o = rw (le-leb back r.event o)

  rank-none : (back : ℕ) → r.event < back → rank group r h back ≡ 0
  unfolding rank
  rank-none back o = rw (lt-leb back r.event o)

  module _ (k : ℕ) (o : k < length days) where
    abbrev day : ℕ
    day = get_or days k 0

    near : (day < r.event) × (r.event ≤ day + 45)
    near = ranked_near group r h day (at_member days k o)

    -- it has that rank, and no other day of the look-back has
    its-rank : rank group r h (r.event - day) ≡ k + 1
    its-rank =
        let i = near.0 in
        let back : r.event - day ≤ r.event = omega arith in
        let same : r.event - (r.event - day) ≡ day = omega arith in
        rank_back (r.event - day) back ∙ ap (rank_in days) same ∙ rank_at days (ranked_once group r h) k o

    one_alone : (back : ℕ) → rank group r h back ≡ k + 1 → back ≡ r.event - day
    one_alone back e =
        ⊎_elim (λ f. absurd (omega (arith, e, rank-none back f))) (λ f. omega (arith, f, (rank_is days (r.event - back) k (sym (rank_back back f) ∙ e)).1))
        (lt-or-le r.event back)

    -- so it is the first that is found
    found : day_of_rank r (sheet_of group r h) (k + 1) ≡ day
    unfolding day_of_rank sheet_of
    found = let i = near.0 in omega (arith, first)
      where
        here : 1 + (r.event - day - 1) ≡ r.event - day
        here = let i = near.0 in omega arith

        first : leading (λ back. not (eqb (rank group r h back) (k + 1))) (places 45 1) ≡ r.event - day - 1
        first =
            leading-places (λ back. not (eqb (rank group r h back) (k + 1))) 45 1 (r.event - day - 1) (let i = near in omega arith)
            (rw here (rw (eq-eqb (rank group r h (r.event - day)) (k + 1) its-rank)))
            (λ j b. rw (ne_eqb (rank group r h (1 + j)) (k + 1) (λ e. omega (arith, b, one_alone (1 + j) e))))

  pub days_shown : days_of (chosen (method_of group r) h) ≡ days_taken r (sheet_of group r h)
  unfolding days_taken sheet_of
  days_shown =
      chosen_part group r h ∙ part_by (day_of_rank r (sheet_of group r h)) days (passed group r h) (taken group r h) (enough group r h)
      (λ k b. found (passed group r h + k) (omega (arith, b, enough group r h)))

  pub chosen_shown : ChosenShown group r h
  unfolding is_chosen sheet_of
  chosen_shown = record { by_rank = λ back. ⊎_elim (after back) (before back) (lt-or-le r.event back) }
    where
      is_one : ℕ → Bool
      is_one back = leb back r.event && member (r.event - back) (days_of (chosen (method_of group r) h))

      taking : ℕ → Bool
      taking k = ltb (passed group r h) k && leb k (passed group r h + taken group r h)

      after : (back : ℕ) → r.event < back → is_one back ≡ taking (rank group r h back)
      after back o = let z : 0 ≤ passed group r h = omega arith in rw (lt-leb back r.event o, rank-none back o, le-ltb (passed group r h) 0 z)

      before : (back : ℕ) → back ≤ r.event → is_one back ≡ taking (rank group r h back)
      before back o =
          rw (le-leb back r.event o, rank_back back o, chosen_part group r h)
          (member-part days (ranked_once group r h) (passed group r h) (taken group r h) (r.event - back))

-- ---- the answer by the numbers shown
-- an answer is of its days, with the adjustment `adj` but for a method that has none
record Closed (r : Request) (its : List (ℕ × Day)) (adj : ℤ) (a : Answer) : Type 0 where
  same_days : a.days ≡ days_of its
  same_over : a.denominator ≡ parts_of r * length its
  same_adjusted : a.adjusted ≡ adj
  same_numerators : a.numerators ≡ map floored (map (λ t. unfloored (parts_of r) (S r.event its t) adj) (places (r.e - r.s) r.s))

module _ (r : Request) (its : List (ℕ × Day)) (adj : ℤ) {a : Answer} where
  closed : (x y b z : Bool) (k p q n : ℕ)
      → closing (cond x (short k) (cond y (few p q) (chose (days_of its) n (baseline_by r its (cond b (some (pos 0)) (cond z none (some adj))))))) ≡ answered a
      → Closed r its (cond b (pos 0) adj) a
  unfolding closing baseline_at
  closed true y b z k p q n e = absurd (never_both refl e)
  closed false true b z k p q n e = absurd (never_both refl e)
  closed false false true z k p q n e = record { same_days = cc; same_over = cc; same_adjusted = cc; same_numerators = cc }
  closed false false false true k p q n e = absurd (never_both refl e)
  closed false false false false k p q n e = record { same_days = cc; same_over = cc; same_adjusted = cc; same_numerators = cc }

  -- and none of the refusals 8 to 10 is given
  none_given : (x y b z : Bool) (k p q n : ℕ)
      → closing (cond x (short k) (cond y (few p q) (chose (days_of its) n (baseline_by r its (cond b (some (pos 0)) (cond z none (some adj))))))) ≡ answered a
      → ((not x && not y) && (b || not z)) ≡ true
  unfolding closing
  none_given true y b z k p q n e = absurd (never_both refl e)
  none_given false true b z k p q n e = absurd (never_both refl e)
  none_given false false true z k p q n e = refl
  none_given false false false true k p q n e = absurd (never_both refl e)
  none_given false false false false k p q n e = refl

module _ (group : ℕ → Group) (h : History Day) (r : Request) (room : ℕ) (a : Answer) (e : methodology group h r room ≡ answered a) where
  abbrev its : List (ℕ × Day)
  its = chosen (method_of group r) h

  -- N·A - B, of the chosen days
  abbrev adj : ℤ
  adj = adjustment (length its) (A (along r h) (ends r h)) (B r.event its (ends r h))

  of_its-days : Closed r its (cond (is_average r) (pos 0) adj) a
  unfolding methodology outcome method_of method_by baseline adjusting_by adjusting ends
  of_its-days =
      closed r its adj (is_short m h) (eqb (m.taken (length (window m h))) 0) (is_average r) (eqb (ends r h) 0) (whole_reach m)
      (length (window m h)) (reach m h) (reach m h) (answered_after (request_refusals h r room) (closing (outcome m h)) e)
    where
      m : Method Day (Option Baseline)
      m = method_of group r

  pub has_baseline : answers group r h ≡ true
  unfolding methodology outcome method_of method_by baseline adjusting_by adjusting ends answers chooses
  has_baseline =
      none_given r its adj (is_short m h) (eqb (m.taken (length (window m h))) 0) (is_average r) (eqb (ends r h) 0) (whole_reach m)
      (length (window m h)) (reach m h) (reach m h) (answered_after (request_refusals h r room) (closing (outcome m h)) e)
    where
      m : Method Day (Option Baseline)
      m = method_of group r

  -- N is as many as are taken
  adj_shown : cond (is_average r) (pos 0) adj ≡ adjustment_shown r (sheet_of group r h)
  unfolding adjustment_shown sheet_of
  adj_shown = rw (chosen_size group r h)

  lead : Leads r (sheet_of group r h) a
  unfolding numerator_shown sheet_of
  lead =
      record {
        days = of_its-days.same_days ∙ days_shown group r h;
        over = of_its-days.same_over ∙ ap (λ n. parts_of r * n) (chosen_size group r h);
        adjusted = of_its-days.same_adjusted ∙ adj_shown;
        numerators =
            of_its-days.same_numerators ∙
            map-map floored (λ t. unfloored (parts_of r) (S r.event its t) (cond (is_average r) (pos 0) adj)) (places (r.e - r.s) r.s) ∙
            ap (λ (z : ℤ). map (λ t. floored (unfloored (parts_of r) (S r.event its t) z)) (places (r.e - r.s) r.s)) adj_shown;
      }

pub leads : SheetLeads
leads = lead
