-- What is told of a day of the look-back, one law for each way out of the code.
use Prim.Native.Nat.{ℕ, zero, suc, ◌≤◌}
use mathlib.Core.Path.{◌≡◌, refl, sym, ap, ◌∙◌}
use mathlib.Core.Bool.{true, false, ◌&&◌}
use mathlib.Core.List.{List, [], ◌∷◌}
use mathlib.Core.Option.{Option as Maybe, none, some}
use Rattle.std.specs.Prelude.{Option, None}
use native.Mathlib.Omega.{arith}
use lib.Dec.{leb}
use lib.IntN.{ℤ}
use lib.ListN.{get_or, get_or-eq_default}
use Rattle.calendar_groups.specs.declared.Group.{Group}
use Rattle.method.specs.declared.Request.{Request}
use Rattle.method.specs.Table.{Day, History}
use Rattle.method_working.specs.declared.Reason.{Reason}
use Rattle.method_working.specs.Working.{reason, summed}
use Rattle.engine_reasons.specs.Steps.{sum_found}
use Rattle.host_answer.specs.Names.{told, by_name}
use Rattle.host_working.specs.Told.{reason_number, told_of, day_numbers}
use Rattle.host_look_back.specs.Steps.{number_told, group_told, sum_told, rank_told, chosen_told}

-- the sum that is found is the one that is told
sum_is : (sum : Maybe ℕ) → sum_told (sum_found sum) ≡ told_of sum
unfolding sum_found
sum_is none = refl
sum_is (some x) = refl

-- the row, place by place
module _ (group : ℕ → Group) (r : Request) (h : History Day) (back place : ℕ) where
  abbrev row : List (Option ℤ)
  row = day_numbers group r h back

  pub outside : (leb 1 back && leb back 45) ≡ false → None ≡ by_name row place
  unfolding by_name day_numbers
  outside f = six place ∙ ap (λ (l : List (Option ℤ)). get_or l place None) (sym nothing)
    where
      nothing : row ≡ None ∷ None ∷ None ∷ None ∷ None ∷ None ∷ []
      nothing = rw f

      six : (k : ℕ) → ◌≡◌ {A = Option ℤ} None (get_or (None ∷ None ∷ None ∷ None ∷ None ∷ None ∷ []) k None)
      six zero = refl
      six (suc zero) = refl
      six (suc (suc zero)) = refl
      six (suc (suc (suc zero))) = refl
      six (suc (suc (suc (suc zero)))) = refl
      six (suc (suc (suc (suc (suc zero))))) = refl
      six (suc (suc (suc (suc (suc (suc k)))))) = refl

  pub past_row : 6 ≤ place → None ≡ by_name row place
  unfolding by_name day_numbers
  past_row o = sym (get_or-eq_default row None {n = place} (omega arith))

  module _ (t : (leb 1 back && leb back 45) ≡ true) {x : Option ℤ} where
    pub at_day : place ≡ 0 → x ≡ number_told r.event back → x ≡ by_name row place
    unfolding by_name day_numbers
    at_day k e = rw (k, t) e

    pub at_group : place ≡ 1 → x ≡ group_told group r.event back → x ≡ by_name row place
    unfolding by_name day_numbers
    at_group k e = rw (k, t) e

    pub at_reason : {why : Reason} → place ≡ 2 → why ≡ reason group r h back → x ≡ told (reason_number why) → x ≡ by_name row place
    unfolding by_name day_numbers
    at_reason k w e = rw (k, t) (e ∙ ap (λ (w : Reason). told (reason_number w)) w)

    pub at_sum : {sum : Option ℕ} → place ≡ 3 → sum ≡ sum_found (summed r h back) → x ≡ sum_told sum → x ≡ by_name row place
    unfolding by_name day_numbers
    at_sum k s e = rw (k, t) (e ∙ ap sum_told s ∙ sum_is (summed r h back))

    pub at_rank : place ≡ 4 → x ≡ rank_told group r h back → x ≡ by_name row place
    unfolding by_name day_numbers
    at_rank k e = rw (k, t) e

    pub at_chosen : place ≡ 5 → x ≡ chosen_told group r h back → x ≡ by_name row place
    unfolding by_name day_numbers
    at_chosen k e = rw (k, t) e
