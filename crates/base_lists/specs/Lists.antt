-- Words about lists that the definitions use. Each is what its name says; the kit has `length`, `take`, `drop`, `get_or`, `map` and `◌++◌`.
use Rattle.std.specs.Prelude.{ℕ, zero, suc, ◌+◌, min, Bool, true, false, cond, ◌&&◌, ◌||◌, List, [], ◌∷◌, eqb}

module _ {A : Type 0} where
  -- the elements of which `p` holds, in their order
  unfoldable pub keep : (A → Bool) → List A → List A
  keep p [] = []
  keep p (x ∷ xs) = let rest = keep p xs in cond (p x) (x ∷ rest) rest

  -- `p` holds of every element
  unfoldable pub all : (A → Bool) → List A → Bool
  all p [] = true
  all p (x ∷ xs) = p x && all p xs

  -- `p` holds of some element
  unfoldable pub any : (A → Bool) → List A → Bool
  any p [] = false
  any p (x ∷ xs) = p x || any p xs

  -- how many elements stand before the first of which `p` does not hold; the length where there is none
  unfoldable pub leading : (A → Bool) → List A → ℕ
  leading p [] = 0
  leading p (x ∷ xs) = let rest = leading p xs in cond (p x) (suc rest) 0

-- `n` is one of the numbers
unfoldable pub member : ℕ → List ℕ → Bool
member n [] = false
member n (x ∷ xs) = eqb n x || member n xs

unfoldable pub sum_of : List ℕ → ℕ
sum_of [] = 0
sum_of (x ∷ xs) = x + sum_of xs

-- the least of `top` and the numbers
unfoldable pub least_of : ℕ → List ℕ → ℕ
least_of top [] = top
least_of top (x ∷ xs) = min x (least_of top xs)

-- the `k` places from `t` on
unfoldable pub places : ℕ → ℕ → List ℕ
places zero t = []
places (suc k) t = t ∷ places k (suc t)
