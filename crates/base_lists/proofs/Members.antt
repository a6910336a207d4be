-- Membership: of two lists joined, and a rule that holds of each element of a list holds of its members.
use Prim.Native.Nat.{ℕ}
use mathlib.Core.Path.{◌≡◌, refl, subst, sym}
use mathlib.Core.Bool.{true, ◌||◌, or_assoc, false≢true}
use mathlib.Core.List.{List, [], ◌∷◌, ◌++◌}
use mathlib.Core.Logic.{⊎_elim}
use lib.Dec.{eqb}
use borrow.Author.Tests.{eqb-true}
use Rattle.base_lists.specs.Lists.{member}
use Rattle.base_lists.proofs.Bools.{either}

pub member-append : (n : ℕ) (xs ys : List ℕ) → member n (xs ++ ys) ≡ (member n xs || member n ys)
unfolding member
member-append n [] ys = refl
member-append n (x ∷ xs) ys = rw (member-append n xs ys) (sym (or_assoc (eqb n x) (member n xs) (member n ys)))

module _ (P : ℕ → Type 0) where
  abbrev pub Each : List ℕ → Type 0
  Each [] = Unit {0}
  Each (x ∷ xs) = P x × Each xs

  pub each_member : (n : ℕ) (xs : List ℕ) → Each xs → member n xs ≡ true → P n
  unfolding member
  each_member n [] e m = absurd (false≢true m)
  each_member n (x ∷ xs) e m =
      ⊎_elim (λ t. subst P (sym (eqb-true n x t)) e.0) (each_member n xs e.1) (either (eqb n x) (member n xs) m)
