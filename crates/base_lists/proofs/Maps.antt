-- `map` of the first elements of a list.
use Prim.Native.Nat.{ℕ, zero, suc}
use mathlib.Core.Path.{◌≡◌, refl, ap}
use mathlib.Core.List.{List, [], ◌∷◌, map}
use lib.ListN.{take, drop}

module _ {A B : Type 0} (f : A → B) where
  pub map-take : (k : ℕ) (l : List A) → map f (take k l) ≡ take k (map f l)
  map-take zero l = refl
  map-take (suc k) [] = refl
  map-take (suc k) (x ∷ l) = ap (λ (r : List B). f x ∷ r) (map-take k l)

  pub map-drop : (k : ℕ) (l : List A) → map f (drop k l) ≡ drop k (map f l)
  map-drop zero l = refl
  map-drop (suc k) [] = refl
  map-drop (suc k) (x ∷ l) = map-drop k l
