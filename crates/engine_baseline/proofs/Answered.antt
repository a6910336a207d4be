-- What every answer of the methodology has: its chosen days and their adjustment, a numerator for each of the event's quarters, a good request,
-- and room.
use Prim.Native.Nat.{ℕ, ◌-◌, ◌≤◌}
use mathlib.Core.Path.{◌≡◌, refl, ap, sym, ◌∙◌}
use mathlib.Core.Bool.{Bool, true, false, cond}
use mathlib.Core.List.{List, map}
use mathlib.Core.Option.{Option, none, some}
use mathlib.Core.Logic.{◌⊎◌, inl, inr}
use native.Mathlib.Omega.{arith}
use lib.ListN.{length, length-map}
use lib.IntN.{ℤ, pos}
use lib.Dec.{eqb}
use borrow.Author.Tests.{eqb-false}
use Rattle.calendar_groups.specs.declared.Group.{Group}
use Rattle.method.specs.declared.Request.{Request}
use Rattle.method.specs.Table.{Day, History}
use Rattle.method.specs.Method.{Method, short, few, chose, outcome, window, chosen, reach, is_short, whole_reach, days_of}
use Rattle.method.specs.Adjustment.{ruler, adjustment_end, A, B, S, adjustment, adjusting, is_average, adjusting_by, parts_of, unfloored, floored}
use Rattle.method.specs.Adjustment.{Baseline, baseline_at, baseline_by, baseline}
use Rattle.method.specs.Rules.{method_by}
use Rattle.method.specs.Requested.{method_of}
use Rattle.method.specs.Verdict.{Answer, answered, request_refusals, closing, methodology}
use Rattle.base_lists.proofs.Places.{length_over}
use Rattle.std.specs.Prelude.{Ok}
use Rattle.engine_refusals.specs.Steps.{tested}
use Rattle.engine_refusals.proofs.FirstRefusal.{GoodRequest, good_request_lem, Fits, request_passed}
use Rattle.method.proofs.Replies.{never_both}
use Rattle.engine_refusals.proofs.Replies.{answered_past}
use Rattle.engine_choice.proofs.Requested.{chosen_five}
use Rattle.base_lists.specs.Lists.{places}

-- an answer is of chosen days and of what was worked out of them
record Closed (a : Answer) (too_few : Bool) (days : List ℕ) (worked : Option Baseline) : Type 0 where
  its : Baseline
  found : worked ≡ some its
  enough : too_few ≡ false
  same_days : a.days ≡ days
  same_adjusted : a.adjusted ≡ its.adjusted
  same_numerators : a.numerators ≡ map floored its.numerators

closed : {a : Answer} (x y : Bool) (k p q : ℕ) (days : List ℕ) (n : ℕ) (worked : Option Baseline)
    → closing (cond x (short k) (cond y (few p q) (chose days n worked))) ≡ answered a → Closed a y days worked
unfolding closing
closed true y k p q days n worked e = absurd (never_both refl e)
closed false true k p q days n worked e = absurd (never_both refl e)
closed false false k p q days n none e = absurd (never_both refl e)
closed false false k p q days n (some b) e =
    record { its = b; found = refl; enough = refl; same_days = cc; same_adjusted = cc; same_numerators = cc }

-- what is worked out of days is so with their adjustment
record Worked (r : Request) (days : List (ℕ × Day)) (moved : Option ℤ) (its : Baseline) : Type 0 where
  found : moved ≡ some its.adjusted
  numerators : its.numerators ≡ map (λ t. unfloored (parts_of r) (S r.event days t) its.adjusted) (places (r.e - r.s) r.s)

worked : (r : Request) (days : List (ℕ × Day)) (moved : Option ℤ) (its : Baseline) → baseline_by r days moved ≡ some its → Worked r days moved its
unfolding baseline_at
worked r days none its e = let z : ◌≡◌ {A = ℕ} 0 1 = cc in absurd (omega arith)
worked r days (some adj) its e =
    let same : baseline_at r days adj ≡ its = cc in
    rw (← same) (record { found = refl; numerators = refl })

-- an adjustment is 0, where the method has none, or that of an adjustment window
module _ (r : Request) (days : List (ℕ × Day)) (yesterday today : Day) where
  abbrev line : List ℕ
  line = ruler yesterday today

  abbrev end : ℕ
  end = adjustment_end r line

  pub record InWindow (adj : ℤ) : Type 0 where
    pub some_end : end ≡ 0 → ⊥
    pub adjusted_is : adj ≡ adjustment (length days) (A line end) (B r.event days end)

  pub adjustments : {adj : ℤ} → adjusting_by r days yesterday today ≡ some adj → (adj ≡ pos 0) ⊎ InWindow adj
  unfolding adjusting_by adjusting
  adjustments {adj} e = go (is_average r) (eqb end 0) refl refl
    where
      go : (b x : Bool) → is_average r ≡ b → eqb end 0 ≡ x → (adj ≡ pos 0) ⊎ InWindow adj
      go true x p q = inl (let z = rw p at e in cc)
      go false true p q = let f = rw (p, q) at e in let z : ◌≡◌ {A = ℕ} 0 1 = cc in absurd (omega arith)
      go false false p q = inr (let f = rw (p, q) at e in record { some_end = eqb-false end 0 q; adjusted_is = cc })

module _ (group : ℕ → Group) (h : History Day) (r : Request) where
  abbrev pub how : Method Day (Option Baseline)
  how = method_of group r

  abbrev pub ch : List (ℕ × Day)
  ch = chosen how h

  abbrev moved : Option ℤ
  moved = adjusting_by r ch (h.day (r.event - 1)) (h.day r.event)

  module _ (room : ℕ) {a : Answer} (e : methodology group h r room ≡ answered a) where
    past : (tested (request_refusals h r room) ≡ Ok tt) × (closing (outcome how h) ≡ answered a)
    unfolding methodology
    past = answered_past (request_refusals h r room) (closing (outcome how h)) e

    pub fits : Fits h r room
    fits = request_passed h r room past.0

    its_days : Closed a (eqb (how.taken (length (window how h))) 0) (days_of ch) (baseline r ch (h.day (r.event - 1)) (h.day r.event))
    unfolding outcome method_of method_by
    its_days =
        closed (is_short how h) (eqb (how.taken (length (window how h))) 0) (whole_reach how) (length (window how h)) (reach how h) (days_of ch)
        (reach how h) (baseline r ch (h.day (r.event - 1)) (h.day r.event)) past.1

    -- days are chosen
    pub enough : eqb (how.taken (length (window how h))) 0 ≡ false
    enough = its_days.enough

    pub days_are : a.days ≡ days_of ch
    days_are = its_days.same_days

    -- and the adjustment is theirs
    its_worked : Worked r ch moved its_days.its
    unfolding baseline
    its_worked = worked r ch moved its_days.its its_days.found

    pub adjusts : adjusting_by r ch (h.day (r.event - 1)) (h.day r.event) ≡ some a.adjusted
    adjusts = its_worked.found ∙ ap (λ (z : ℤ). some z) (sym its_days.same_adjusted)

    pub numerators_are : a.numerators ≡ map floored (map (λ t. unfloored (parts_of r) (S r.event ch t) a.adjusted) (places (r.e - r.s) r.s))
    numerators_are = rw its_days.same_adjusted (its_days.same_numerators ∙ ap (map floored) its_worked.numerators)

-- what callers ask of an answer
pub record Sound (r : Request) (room : ℕ) (a : Answer) : Type 0 where
  pub few : length a.days ≤ 5
  pub quarters : length a.numerators ≡ r.e - r.s
  pub ranges : GoodRequest r
  pub enough : r.e - r.s ≤ room

pub sound : (group : ℕ → Group) (h : History Day) (r : Request) (room : ℕ) {a : Answer} → methodology group h r room ≡ answered a
    → Sound r room a
sound group h r room e =
    record {
      few = rw (days_are group h r room e, length-map) (chosen_five group r h);
      quarters = rw (numerators_are group h r room e, length-map) (length_over _ (r.e - r.s) r.s);
      ranges = good_request_lem r (fits group h r room e).request;
      enough = (fits group h r room e).enough;
    }
