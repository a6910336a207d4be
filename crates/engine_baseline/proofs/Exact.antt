-- Over good readings no sum and no numerator wraps: each stays below 1,200,000,001.
use Prim.Native.Nat.{ℕ, ◌-◌, ◌*◌, ◌%◌, ◌^◌, ◌≤◌}
use mathlib.Core.Path.{◌≡◌, refl, sym, ◌∙◌}
use mathlib.Core.Bool.{Bool, true, false, cond}
use mathlib.Core.List.{List, [], ◌∷◌, map, map-map}
use mathlib.Core.Logic.{⊎_elim}
use native.Mathlib.Nat.{mul-suc, mul-le-mul_right}
use native.Mathlib.Omega.{arith}
use borrow.Author.Tests.{leb-true, le-leb}
use lib.Dec.{leb}
use lib.ListN.{length, get_or}
use Rattle.base_lists.specs.Lists.{all, sum_of, places}
use Rattle.base_lists.proofs.All.{all_at, all-append}
use Rattle.calendar_groups.specs.declared.Group.{Group}
use Rattle.method.specs.declared.Request.{Request}
use Rattle.method.specs.Table.{Day, History, good_reading}
use Rattle.method.specs.Ruler.{against}
use Rattle.method.specs.Adjustment.{ruler, adjustment_end, S, A, B, adjustment, is_average, parts_of, unfloored, floored}
use Rattle.method.specs.Eligible.{complete}
use Rattle.method.specs.Rules.{method_by}
use Rattle.method.specs.Requested.{method_of}
use Rattle.method.specs.Verdict.{Answer, Reply, refused, answered, methodology}
use Rattle.method_laws.proofs.Requested.{lawful}
use Rattle.method_laws.proofs.Stable.{yesterday_held}
use Rattle.base_lists.proofs.Places.{over_same}
use Rattle.engine_adjustment.proofs.Laws.{all_in_range, window_most, adjustment_holds}
use Rattle.engine_numerators.proofs.Signed.{numerator_is}
use Rattle.engine_choice.proofs.Requested.{chosen_five}
use Rattle.engine_baseline.specs.Engine.{with_days, in_words}
use Rattle.engine_baseline.specs.Store.{GoodDays}
use Rattle.engine_baseline.proofs.Choosing.{Every, Whole, chosen_whole, chosen_again}
use Rattle.engine_baseline.proofs.Answered.{adjustments, ch, fits, enough, days_are, adjusts, numerators_are}

-- a rule of every value
all-map : {A : Type 0} (p : ℕ → Bool) (f : A → ℕ) → ((x : A) → p (f x) ≡ true) → (xs : List A) → all p (map f xs) ≡ true
unfolding all
all-map p f h [] = refl
all-map p f h (x ∷ xs) = rw (h x) (all-map p f h xs)

-- the parts are 1 or 12
parts_most : (b : Bool) → cond b 1 12 ≤ 12
parts_most true = omega arith
parts_most false = omega arith

module _ (h : History Day) (good : GoodDays h) where
  -- a whole day's readings are in range
  whole_range : (p : ℕ × Day) → Whole h p → all (λ x. leb x 10000000) p.1.readings ≡ true
  unfolding complete
  whole_range p w = all_in_range p.1.readings (rw w.0.0 (good p.0 w.0.1)) w.1

  -- S is at most 10,000,000 a day
  S_most : (event t : ℕ) (l : List (ℕ × Day)) → Every (Whole h) l → S event l t ≤ 10000000 * length l
  unfolding S sum_of
  S_most event t [] e = omega arith
  S_most event t (p ∷ ps) e =
      let x = leb-true (get_or p.1.readings (against event t) 0) 10000000
      (all_at (λ x. leb x 10000000) 0 refl p.1.readings (whole_range p e.0) (against event t)) in
      omega (arith, x, S_most event t ps e.1, mul-suc 10000000 (length ps))

  module _ (group : ℕ → Group) (r : Request) (room : ℕ) {a : Answer} (e : methodology group h r room ≡ answered a) where
    abbrev days : List (ℕ × Day)
    days = ch group h r

    abbrev line : List ℕ
    line = ruler (h.day (r.event - 1)) (h.day r.event)

    abbrev end : ℕ
    end = adjustment_end r line

    sum_most : (t : ℕ) → S r.event days t ≤ 50000000
    sum_most t = omega (arith, S_most r.event t days (chosen_whole group r h), chosen_five group r h)

    -- an adjustment n·a - b takes it no further than n·a
    adjusted_most : (n own usual : ℕ) → n * own ≤ 600000000 → a.adjusted ≡ adjustment n own usual
        → (t : ℕ) → floored (unfloored (parts_of r) (S r.event days t) a.adjusted) ≤ 1200000000
    adjusted_most n own usual most is t =
        let parts : parts_of r * S r.event days t ≤ 12 * S r.event days t = mul-le-mul_right (S r.event days t) (parts_most (is_average r)) in
        rw (is, numerator_is (parts_of r) (S r.event days t) n own usual) (omega (arith, sum_most t, parts, most))

    -- that of a window has N·A at most 600,000,000
    line_good : all good_reading line ≡ true
    unfolding method_of method_by
    line_good =
        rw (
          all-append good_reading (h.day (r.event - 1)).readings (h.day r.event).readings,
          good (r.event - 1) (yesterday_held (method_of group r) (lawful group r) h (fits group h r room e).holds (enough group h r room e)).1,
          good r.event (fits group h r room e).holds,
        )

    own_most : (end ≡ 0 → ⊥) → length days * A line end ≤ 600000000
    own_most some =
        let scaled : length days * A line end ≤ 5 * A line end = mul-le-mul_right (A line end) (chosen_five group r h) in
        omega (arith, scaled, window_most line end line_good (adjustment_holds line r some))

    numerator : (t : ℕ) → floored (unfloored (parts_of r) (S r.event days t) a.adjusted) ≤ 1200000000
    numerator =
        ⊎_elim (adjusted_most 0 0 0 (omega arith))
        (λ w. adjusted_most (length days) (A line end) (B r.event days end) (own_most w.some_end) w.adjusted_is)
        (adjustments r days (h.day (r.event - 1)) (h.day r.event) (adjusts group h r room e))

    pub numerators_most : all (λ x. leb x 1200000000) a.numerators ≡ true
    numerators_most =
        rw (numerators_are group h r room e, map-map floored (λ t. unfloored (parts_of r) (S r.event days t) a.adjusted) (places (r.e - r.s) r.s))
        (all-map (λ x. leb x 1200000000) (λ t. floored (unfloored (parts_of r) (S r.event days t) a.adjusted))
        (λ t. le-leb (floored (unfloored (parts_of r) (S r.event days t) a.adjusted)) 1200000000 (numerator t)) (places (r.e - r.s) r.s))

    -- nothing wraps
    exact_at : (t : ℕ) → floored (unfloored (parts_of r) (S r.event days t % 2 ^ 32) a.adjusted) % 2 ^ 32 ≡ floored (unfloored (parts_of r) (S r.event days t) a.adjusted)
    exact_at t =
        let s : S r.event days t % 2 ^ 32 ≡ S r.event days t = omega (arith, sum_most t) in
        rw s (omega (arith, numerator t))

    same : map (λ t. floored (unfloored (parts_of r) (S r.event (with_days h a.days) t % 2 ^ 32) a.adjusted) % 2 ^ 32) (places (r.e - r.s) r.s)
        ≡ a.numerators
    same =
        rw (days_are group h r room e, chosen_again group r h, numerators_are group h r room e)
        (over_same _ _ (r.e - r.s) r.s (λ t a b. exact_at t) ∙
        sym (map-map floored (λ t. unfloored (parts_of r) (S r.event days t) a.adjusted) (places (r.e - r.s) r.s)))

    pub exact_answer : in_words r h (answered a) ≡ answered a
    unfolding in_words
    exact_answer = λ i. answered (record {
      days = a.days;
      reach = a.reach;
      denominator = a.denominator;
      adjusted = a.adjusted;
      numerators = same i;
    })

  pub exact : (group : ℕ → Group) (r : Request) (room : ℕ) → in_words r h (methodology group h r room) ≡ methodology group h r room
  exact group r room = go (methodology group h r room) refl
    where
      go : (x : Reply) → methodology group h r room ≡ x → in_words r h x ≡ x
      go (refused w) e = unfold in_words in refl
      go (answered a) e = exact_answer group r room e
