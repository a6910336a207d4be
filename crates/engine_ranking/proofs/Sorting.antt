-- A map that keeps a test carries one sorted list to the other.
use mathlib.Core.Path.{◌≡◌, refl, ap, ◌∙◌}
use mathlib.Core.Bool.{Bool, true, false, cond}
use mathlib.Core.List.{List, [], ◌∷◌, map}
use Rattle.base_lists.specs.Lists.{all}
use Rattle.base_lists.proofs.Bools.{both}
use Rattle.method.specs.Eligible.{insert_by, sort_by}
use Rattle.method_laws.proofs.Sort.{all_sorted}

-- where `f` keeps the tests of the days of which `p` holds
module _ {A B : Type 0} (before : A → A → Bool) (before' : B → B → Bool) (p : A → Bool) (f : A → B)
    (keeps : (x y : A) → p x ≡ true → p y ≡ true → before x y ≡ before' (f x) (f y)) where
  map_insert : (x : A) (l : List A) → p x ≡ true → all p l ≡ true → map f (insert_by before x l) ≡ insert_by before' (f x) (map f l)
  unfolding insert_by all
  map_insert x [] px pl = refl
  map_insert x (y ∷ ys) px pl =
      rw (← keeps x y px (both (p y) (all p ys) pl).0) (go (before x y) (map_insert x ys px (both (p y) (all p ys) pl).1))
    where
      go : (t : Bool) → map f (insert_by before x ys) ≡ insert_by before' (f x) (map f ys)
          → map f (cond t (x ∷ y ∷ ys) (y ∷ insert_by before x ys))
          ≡ cond t (f x ∷ f y ∷ map f ys) (f y ∷ insert_by before' (f x) (map f ys))
      go true later = refl
      go false later = ap (λ (l : List B). f y ∷ l) later

  pub map_sorted : (l : List A) → all p l ≡ true → map f (sort_by before l) ≡ sort_by before' (map f l)
  unfolding sort_by all
  map_sorted [] pl = refl
  map_sorted (x ∷ xs) pl =
      map_insert x (sort_by before xs) (both (p x) (all p xs) pl).0 (all_sorted before p xs ∙ (both (p x) (all p xs) pl).1)
      ∙ ap (insert_by before' (f x)) (map_sorted xs (both (p x) (all p xs) pl).1)
