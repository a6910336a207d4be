-- The rank of a day among days by rank, by the place where it is found.
use Prim.Native.Nat.{ℕ, suc, ◌+◌}
use mathlib.Core.Path.{◌≡◌, refl, sym, ap, ◌∙◌}
use mathlib.Core.Bool.{Bool, true, false, not, cond, ◌||◌, true≢false}
use mathlib.Core.List.{List, [], ◌∷◌}
use mathlib.Core.Logic.{⊎_elim}
use native.Mathlib.Omega.{arith}
use borrow.Author.Tests.{eqb-true, eq-eqb, ne_eqb, lt-ltb, le-ltb}
use lib.Dec.{eqb, ltb}
use lib.ListN.{length}
use Rattle.std.specs.Prelude.{Option, Some, None}
use Rattle.std.specs.List.{position, position_or_len}
use Rattle.base_lists.specs.Lists.{leading, member}
use Rattle.base_lists.proofs.Bools.{bool_cases, lt-or-le}
use Rattle.method_working.specs.Working.{rank_in}

module _ (day : ℕ) where
  abbrev is_it : ℕ → Bool
  is_it x = eqb x day

  -- how many stand before it
  before : (l : List ℕ) → leading (λ x. not (is_it x)) l ≡ position_or_len is_it l
  unfolding leading
  before [] = refl
  before (x ∷ l) = rw (before l) (go (is_it x) (position_or_len is_it l))
    where
      go : (b : Bool) (n : ℕ) → cond (not b) (suc n) 0 ≡ cond (not b) (1 + n) 0
      go true n = refl
      go false n = omega arith

  next : (a b : ℕ) → ltb (1 + a) (suc b) ≡ ltb a b
  next a b =
      ⊎_elim (λ h. rw (lt-ltb a b h) (lt-ltb (1 + a) (suc b) (omega arith))) (λ h. rw (le-ltb a b h) (le-ltb (1 + a) (suc b) (omega arith))) (lt-or-le a b)

  there : (l : List ℕ) → member day l ≡ ltb (position_or_len is_it l) (length l)
  unfolding member
  there [] = refl
  there (x ∷ l) = ⊎_elim same (other (there l)) (bool_cases (is_it x))
    where
      same : is_it x ≡ true → (eqb day x || member day l) ≡ ltb (position_or_len is_it (x ∷ l)) (suc (length l))
      same e = rw (e, eq-eqb day x (sym (eqb-true x day e))) (sym (lt-ltb 0 (suc (length l)) (omega arith)))

      other : member day l ≡ ltb (position_or_len is_it l) (length l) → is_it x ≡ false → (eqb day x || member day l) ≡ ltb (position_or_len is_it (x ∷ l)) (suc (length l))
      other h e = rw (e, ne_eqb day x (λ s. true≢false (sym (eq-eqb x day (sym s)) ∙ e))) (h ∙ sym (next (position_or_len is_it l) (length l)))

  rank_is : (l : List ℕ) → rank_in l day ≡ cond (ltb (position_or_len is_it l) (length l)) (position_or_len is_it l + 1) 0
  unfolding rank_in
  rank_is l = rw (there l, before l) refl

  pub rank_here : (l : List ℕ) {place : ℕ} → position is_it l ≡ Some place → place + 1 ≡ rank_in l day
  rank_here l {place} e = go (ltb (position_or_len is_it l) (length l)) (position_or_len is_it l) e ∙ sym (rank_is l)
    where
      go : (b : Bool) (n : ℕ) → ◌≡◌ {A = Option ℕ} (cond b (Some n) None) (Some place) → place + 1 ≡ cond b (n + 1) 0
      go true n e = ap (λ k. k + 1) (cc)
      go false n e = absurd (let z : ◌≡◌ {A = ℕ} 0 1 = cc in omega arith)

  pub rank_none : (l : List ℕ) → position is_it l ≡ None → 0 ≡ rank_in l day
  rank_none l e = go (ltb (position_or_len is_it l) (length l)) (position_or_len is_it l) e ∙ sym (rank_is l)
    where
      go : (b : Bool) (n : ℕ) → ◌≡◌ {A = Option ℕ} (cond b (Some n) None) None → 0 ≡ cond b (n + 1) 0
      go true n e = absurd (let z : ◌≡◌ {A = ℕ} 0 1 = cc in omega arith)
      go false n e = refl
