-- Sorting by insertion, for any test: what does not depend on the order of a list is the same of the sorted list.
use Prim.Native.Nat.{ℕ, suc}
use mathlib.Core.Path.{◌≡◌, refl, sym, ap, ◌∙◌}
use mathlib.Core.Bool.{Bool, true, false, ◌&&◌, ◌||◌, cond}
use mathlib.Core.List.{List, [], ◌∷◌, map}
use lib.ListN.{length}
use lib.Dec.{eqb}
use Rattle.base_lists.specs.Lists.{all, member}
use Rattle.method.specs.Eligible.{insert_by, sort_by}

-- `g` folds a list by a step `f`, and the order of two steps does not matter
module _ {A C : Type 0} (before : A → A → Bool) (g : List A → C) (f : A → C → C)
    (step : (x : A) (xs : List A) → g (x ∷ xs) ≡ f x (g xs)) (swap : (x y : A) (c : C) → f x (f y c) ≡ f y (f x c)) where
  insert_same : (x : A) (l : List A) → g (insert_by before x l) ≡ f x (g l)
  unfolding insert_by
  insert_same x [] = step x []
  insert_same x (y ∷ ys) = go (before x y) (insert_same x ys)
    where
      go : (t : Bool) → g (insert_by before x ys) ≡ f x (g ys) → g (cond t (x ∷ y ∷ ys) (y ∷ insert_by before x ys)) ≡ f x (g (y ∷ ys))
      go true later = step x (y ∷ ys)
      go false later = step y (insert_by before x ys) ∙ ap (f y) later ∙ swap y x (g ys) ∙ ap (f x) (sym (step y ys))

  pub same_sorted : (l : List A) → g (sort_by before l) ≡ g l
  unfolding sort_by
  same_sorted [] = refl
  same_sorted (x ∷ xs) = insert_same x (sort_by before xs) ∙ ap (f x) (same_sorted xs) ∙ sym (step x xs)

and_swap : (a b c : Bool) → (a && (b && c)) ≡ (b && (a && c))
and_swap true b c = refl
and_swap false true c = refl
and_swap false false c = refl

or_swap : (a b c : Bool) → (a || (b || c)) ≡ (b || (a || c))
or_swap true true c = refl
or_swap true false c = refl
or_swap false b c = refl

module _ {A : Type 0} (before : A → A → Bool) where
  pub length_sorted : (l : List A) → length (sort_by before l) ≡ length l
  length_sorted = same_sorted before length (λ x. suc) (λ x xs. refl) (λ x y c. refl)

  pub all_inserted : (p : A → Bool) (x : A) (l : List A) → all p (insert_by before x l) ≡ (p x && all p l)
  unfolding all
  all_inserted p = insert_same before (all p) (λ x c. p x && c) (λ x xs. refl) (λ x y c. and_swap (p x) (p y) c)

  pub all_sorted : (p : A → Bool) (l : List A) → all p (sort_by before l) ≡ all p l
  unfolding all
  all_sorted p = same_sorted before (all p) (λ x c. p x && c) (λ x xs. refl) (λ x y c. and_swap (p x) (p y) c)

  -- the numbers that `f` gives of the elements
  pub member_sorted : (f : A → ℕ) (n : ℕ) (l : List A) → member n (map f (sort_by before l)) ≡ member n (map f l)
  unfolding member
  member_sorted f n =
      same_sorted before (λ (l : List A). member n (map f l)) (λ x c. eqb n (f x) || c) (λ x xs. refl)
      (λ x y c. or_swap (eqb n (f x)) (eqb n (f y)) c)
