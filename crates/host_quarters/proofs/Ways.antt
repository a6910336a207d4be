-- What is told of the adjustment and of a quarter, one law for each way out of the code.
use Prim.Native.Nat.{ℕ, zero, suc, ◌≤◌, ◌<◌}
use mathlib.Core.Path.{◌≡◌, refl, sym, ap}
use mathlib.Core.Bool.{Bool, true, false, not, cond, ◌&&◌, ◌||◌, and-true, true≢false}
use mathlib.Core.List.{List}
use mathlib.Core.Logic.{⊎_elim}
use native.Mathlib.Omega.{arith}
use borrow.Author.Tests.{ne_eqb, lt-ltb, le-ltb, le-leb, lt-leb}
use lib.ListN.{length}
use lib.IntN.{ℤ, pos}
use lib.Dec.{leb, ltb, eqb}
use Rattle.base_lists.proofs.Bools.{lt-or-le}
use Rattle.calendar_groups.specs.declared.Group.{Group}
use Rattle.method.specs.declared.Request.{Request}
use Rattle.method.specs.Table.{Day, History}
use Rattle.method.specs.Ruler.{ruler_end}
use Rattle.method.specs.Method.{chosen}
use Rattle.method.specs.Adjustment.{adjustment_end, S, A, B, is_average, unfloored}
use Rattle.method.specs.Requested.{method_of}
use Rattle.method_working.specs.Working.{chooses, along, ends, adjusts, answers}
use Rattle.method_working.specs.Sheet.{sheet_of, adjustment_shown, numerator_shown}
use Rattle.method_working.proofs.ByRank.{chosen_size}
use Rattle.std.specs.Prelude.{Option, Some, None}
use Rattle.engine_adjustment.specs.Steps.{found}
use Rattle.engine_adjustment.proofs.Windows.{found_none, found_some, found_past}
use Rattle.engine_baseline.specs.Engine.{with_days}
use Rattle.host_answer.specs.Names.{told, by_name, told_if}
use Rattle.host_answer.proofs.Telling.{past}
use Rattle.host_working.specs.Told.{adjustment_numbers, quarter_numbers}
use Rattle.host_quarters.specs.Steps.{numerator_of}

-- by either method: S(t), or 12 times it and an adjustment that is told where there is one
by_method : (b there : Bool) (s : ℕ) (adj : ℤ)
    → cond b (told s) (told_if there (Some (unfloored 12 s adj))) ≡ told_if (b || there) (Some (unfloored (cond b 1 12) s (cond b (pos 0) adj)))
by_method true there s adj = ap told (omega arith)
by_method false there s adj = refl

module _ (group : ℕ → Group) (r : Request) (h : History Day) where
  -- where no adjustment is made none of its three numbers is told
  none_of_three : adjusts group r h ≡ false → (place : ℕ) → None ≡ by_name (adjustment_numbers group r h) place
  unfolding adjustment_numbers by_name
  none_of_three e zero = rw e
  none_of_three e (suc zero) = rw e
  none_of_three e (suc (suc zero)) = rw e
  none_of_three e (suc (suc (suc place))) = refl

  pub none_chosen : chooses group r h ≡ false → (place : ℕ) → None ≡ by_name (adjustment_numbers group r h) place
  none_chosen e = none_of_three (unfold adjusts in rw e)

  module _ (some : chooses group r h ≡ true) where
    pub of_average : is_average r ≡ true → (place : ℕ) → None ≡ by_name (adjustment_numbers group r h) place
    of_average e = none_of_three (unfold adjusts in rw (some, e))

    module _ (high : is_average r ≡ false) where
      pub no_window : found (adjustment_end r (along r h)) ≡ None → (place : ℕ) → None ≡ by_name (adjustment_numbers group r h) place
      no_window e = none_of_three (unfold adjusts ends in rw (some, high, found_none (adjustment_end r (along r h)) (sym e)))

      module _ {end : ℕ} (f : found (adjustment_end r (along r h)) ≡ Some end) where
        is : end ≡ ends r h
        is = unfold ends in found_some (adjustment_end r (along r h)) end (sym f)

        adjusted : adjusts group r h ≡ true
        unfolding adjusts
        adjusted = rw (some, high, ← is, ne_eqb end 0 (found_past (adjustment_end r (along r h)) end (sym f)))

        pub end_told : {place : ℕ} → place ≡ 0 → told end ≡ by_name (adjustment_numbers group r h) place
        unfolding adjustment_numbers by_name
        end_told e = rw (e, adjusted, is)

        pub own_told : {place own : ℕ} → place ≡ 1 → own ≡ A (along r h) end → told own ≡ by_name (adjustment_numbers group r h) place
        unfolding adjustment_numbers by_name
        own_told e o = rw (e, adjusted, o, is)

        pub usual_told : {place usual : ℕ} {days : List (ℕ × Day)} → place ≡ 2 → usual ≡ B r.event days end → days ≡ chosen (method_of group r) h
            → told usual ≡ by_name (adjustment_numbers group r h) place
        unfolding adjustment_numbers by_name
        usual_told e u d = rw (e, adjusted, u, d, is)

  pub no_other : (place : ℕ) → (place ≡ 0 → ⊥) → (place ≡ 1 → ⊥) → (place ≡ 2 → ⊥) → None ≡ by_name (adjustment_numbers group r h) place
  unfolding adjustment_numbers
  no_other place a b c = past _ place (omega arith)

  -- ---- a quarter
  pub quarter_none : chooses group r h ≡ false → (t place : ℕ) → None ≡ by_name (quarter_numbers group r h t) place
  unfolding quarter_numbers by_name answers
  quarter_none e t zero = rw e
  quarter_none e t (suc zero) = rw e
  quarter_none e t (suc (suc place)) = refl

  module _ (some : chooses group r h ≡ true) (t : ℕ) where
    pub sum_told : {place sum end : ℕ} {days : List (ℕ × Day)} → place ≡ 0 → end ≡ ruler_end r.event → t < end → sum ≡ S r.event days t
        → days ≡ chosen (method_of group r) h → told sum ≡ by_name (quarter_numbers group r h t) place
    unfolding quarter_numbers by_name
    sum_told {place} {sum} {end} e is l s d = rw (e, some, ← is, lt-ltb t end l, s, d)

    pub past_ruler : {place end : ℕ} → place ≡ 0 → end ≡ ruler_end r.event → end ≤ t → None ≡ by_name (quarter_numbers group r h t) place
    unfolding quarter_numbers by_name
    past_ruler {place} {end} e is l = rw (e, some, ← is, le-ltb t end l)

    -- the numerator of the chosen days is told where the event has a baseline
    module _ (days : List ℕ) {count sum : ℕ} (s : sum ≡ S r.event (with_days h days) t) (d : with_days h days ≡ chosen (method_of group r) h)
        (n : count ≡ length (chosen (method_of group r) h)) where
      numerator_is : numerator_of r h days count sum ≡ told_if (is_average r || not (eqb (ends r h) 0)) (Some (numerator_shown r (sheet_of group r h) t))
      unfolding numerator_of numerator_shown adjustment_shown sheet_of ends
      numerator_is = rw (s, d, n, chosen_size group r h) (by_method (is_average r) _ _ _)

      pub numerator_told : {place : ℕ} → place ≡ 1 → r.s ≤ t → t < r.e
          → numerator_of r h days count sum ≡ by_name (quarter_numbers group r h t) place
      unfolding quarter_numbers by_name answers
      numerator_told e from to = rw (e, some, le-leb r.s t from, lt-ltb t r.e to, and-true, and-true) numerator_is

    pub outside_event : {place : ℕ} → place ≡ 1 → (r.s ≤ t → r.e ≤ t) → None ≡ by_name (quarter_numbers group r h t) place
    unfolding quarter_numbers by_name
    outside_event e over =
        rw e
        (⊎_elim (λ l. rw (lt-leb r.s t l) (none (answers group r h) false (ltb t r.e) _ refl))
        (λ l. rw (le-ltb t r.e (over l)) (none (answers group r h) (leb r.s t) false _ (and-false (leb r.s t)))) (lt-or-le t r.s))
      where
        and-false : (b : Bool) → (b && false) ≡ false
        and-false true = refl
        and-false false = refl

        none : (b c d : Bool) (x : Option ℤ) → (c && d) ≡ false → None ≡ told_if ((b && c) && d) x
        none true true true x e = absurd (true≢false e)
        none true true false x e = refl
        none true false d x e = refl
        none false c d x e = refl

    pub past_quarter : (place : ℕ) → (place ≡ 0 → ⊥) → (place ≡ 1 → ⊥) → None ≡ by_name (quarter_numbers group r h t) place
    unfolding quarter_numbers
    past_quarter place a b = past _ place (omega arith)
