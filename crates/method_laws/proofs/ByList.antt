-- The reply by a list of moves: refusal 14, or that of the methodology by the groups of the list.
use Prim.Native.Nat.{ℕ}
use mathlib.Core.Path.{◌≡◌, refl, sym, ap, ◌∙◌}
use mathlib.Core.Logic.{⊎_elim}
use mathlib.Core.Bool.{Bool, true, false, not, ◌||◌}
use mathlib.Core.List.{List}
use Rattle.base_lists.specs.Lists.{any}
use Rattle.base_lists.proofs.Bools.{clash, bool_cases}
use Rattle.calendar_groups.specs.Holidays.{good_moves, group}
use Rattle.method.specs.declared.Request.{Request}
use Rattle.method.specs.declared.Refusal.{Refusal}
use Rattle.method.specs.declared.Refusal.TheVariants.{BadMoves}
use Rattle.method.specs.Table.{Day, History}
use Rattle.method.specs.Verdict.{Reply, Answer, refused, answered, first_of, methodology, list_refusals, by_list}

-- where 14 does not apply, the list is good
pub none_of_list : (moves : List ℕ) → any (λ (p : Bool × Refusal). p.0) (list_refusals moves) ≡ false → good_moves moves ≡ true
unfolding list_refusals any
none_of_list moves e = go (good_moves moves) e
  where
    go : (b : Bool) → (not b || false) ≡ false → b ≡ true
    go true e = refl
    go false e = absurd (clash refl e)

is_answer : Reply → Bool
is_answer (refused w) = false
is_answer (answered a) = true

module _ (moves : List ℕ) (h : History Day) (r : Request) (room : ℕ) where
  pub by_good : good_moves moves ≡ true → by_list moves h r room ≡ methodology (group moves) h r room
  unfolding by_list list_refusals first_of
  by_good e = rw e

  pub by_bad : good_moves moves ≡ false → by_list moves h r room ≡ refused BadMoves
  unfolding by_list list_refusals first_of
  by_bad e = rw e

  -- a reply of another kind than 14 is given by good lists alone
  pub good_by : (q : Reply → Bool) → q (refused BadMoves) ≡ false → q (by_list moves h r room) ≡ true → good_moves moves ≡ true
  good_by q o e =
      ⊎_elim (λ (g : good_moves moves ≡ true). g) (λ (b : good_moves moves ≡ false). absurd (clash e (ap q (by_bad b) ∙ o)))
      (bool_cases (good_moves moves))

  -- so an answer is the methodology's
  pub by_answered : {a : Answer} → by_list moves h r room ≡ answered a → methodology (group moves) h r room ≡ answered a
  unfolding is_answer
  by_answered e = sym (by_good (good_by is_answer refl (ap is_answer e))) ∙ e
