-- Sums of lists: of the first numbers, put together, bounded, and in two orders.
use Prim.Native.Nat.{ℕ, zero, suc, ◌+◌, ◌-◌, ◌*◌, ◌≤◌, ◌<◌}
use mathlib.Core.Path.{◌≡◌, refl, sym}
use mathlib.Core.Bool.{true}
use mathlib.Core.List.{List, [], ◌∷◌, ◌++◌, map}
use native.Mathlib.Nat.{le_refl, not-suc-le-zero, mul-suc, mul-le-mul_left}
use native.Mathlib.Numerals.{add-one}
use native.Mathlib.Omega.{arith}
use borrow.Author.Tests.{leb-true}
use lib.Dec.{leb}
use lib.ListN.{length, take, drop, get_or, length-take}
use lib.Seq.{drop-cons}
use Rattle.base_lists.specs.Lists.{all, sum_of}
use Rattle.base_lists.proofs.All.{all-take, all-drop}
use Rattle.base_lists.proofs.Bools.{both}

pub sum_take-suc : (ls : List ℕ) (k : ℕ) → sum_of (take (suc k) ls) ≡ sum_of (take k ls) + get_or ls k 0
unfolding sum_of
sum_take-suc [] zero = refl
sum_take-suc [] (suc k) = refl
sum_take-suc (l ∷ ls) zero = omega arith
sum_take-suc (l ∷ ls) (suc k) = omega (arith, sum_take-suc ls k)

pub sum_take-le : (ls : List ℕ) (k : ℕ) → sum_of (take k ls) ≤ sum_of ls
unfolding sum_of
sum_take-le [] zero = omega arith
sum_take-le [] (suc k) = omega arith
sum_take-le (l ∷ ls) zero = omega arith
sum_take-le (l ∷ ls) (suc k) = omega (arith, sum_take-le ls k)

-- a number that is not 0 stands within the list
pub held_below : (ls : List ℕ) (k : ℕ) → 0 < get_or ls k 0 → k < length ls
held_below [] zero h = absurd (not-suc-le-zero h)
held_below [] (suc k) h = absurd (not-suc-le-zero h)
held_below (l ∷ ls) zero h = omega arith
held_below (l ∷ ls) (suc k) h = omega (arith, held_below ls k h)

pub sum_before : (ls : List ℕ) (k : ℕ) → sum_of (take (k - 1) ls) ≤ sum_of (take k ls)
sum_before ls zero = le_refl (sum_of (take zero ls))
sum_before ls (suc k) = rw same (omega (arith, sum_take-suc ls k))
  where
    same : suc k - 1 ≡ k
    same = omega arith

pub sum_append : (xs ys : List ℕ) → sum_of (xs ++ ys) ≡ sum_of xs + sum_of ys
unfolding sum_of
sum_append [] ys = omega arith
sum_append (x ∷ xs) ys = rw (sum_append xs ys) (omega arith)

pub sum_bounded : (b : ℕ) (xs : List ℕ) → all (λ x. leb x b) xs ≡ true → sum_of xs ≤ b * length xs
unfolding sum_of all
sum_bounded b [] t = omega arith
sum_bounded b (x ∷ xs) t =
    let w = both (leb x b) (all (λ x. leb x b) xs) t in
    omega (arith, leb-true x b w.0, sum_bounded b xs w.1, mul-suc b (length xs))

-- at most `n` numbers, and any part of `n` of them
pub sum_most : (b : ℕ) (xs : List ℕ) (n : ℕ) → length xs ≤ n → all (λ x. leb x b) xs ≡ true → sum_of xs ≤ b * n
sum_most b xs n h t = omega (arith, sum_bounded b xs t, mul-le-mul_left b h)

pub part_most : (b : ℕ) (xs : List ℕ) (a n : ℕ) → all (λ x. leb x b) xs ≡ true → sum_of (take n (drop a xs)) ≤ b * n
part_most b xs a n t =
    let few : length (take n (drop a xs)) ≤ n = omega (arith, length-take n (drop a xs)) in
    sum_most b (take n (drop a xs)) n few (all-take (λ x. leb x b) n (drop a xs) (all-drop (λ x. leb x b) a xs t))

-- a sum of sums
pub sum_map-add : {A : Type 0} (f g : A → ℕ) (xs : List A) → sum_of (map (λ x. f x + g x) xs) ≡ sum_of (map f xs) + sum_of (map g xs)
unfolding sum_of
sum_map-add f g [] = refl
sum_map-add f g (x ∷ xs) = omega (arith, sum_map-add f g xs)

sum_map-zero : {A : Type 0} (xs : List A) → sum_of (map (λ x. 0) xs) ≡ 0
unfolding sum_of
sum_map-zero [] = refl
sum_map-zero (x ∷ xs) = omega (arith, sum_map-zero xs)

pub sum_swap : {A B : Type 0} (f : A → B → ℕ) (xs : List A) (ys : List B)
    → sum_of (map (λ x. sum_of (map (f x) ys)) xs) ≡ sum_of (map (λ y. sum_of (map (λ x. f x y) xs)) ys)
unfolding sum_of
sum_swap f [] ys = sym (sum_map-zero ys)
sum_swap f (x ∷ xs) ys = omega (arith, sum_swap f xs ys, sum_map-add (f x) (λ y. sum_of (map (λ x. f x y) xs)) ys)

-- one step of a loop that has the sum from `i` on to add
pub sum_step : (xs : List ℕ) (i : ℕ) → i < length xs → sum_of (drop i xs) ≡ get_or xs i 0 + sum_of (drop (i + 1) xs)
unfolding sum_of
sum_step xs i h = rw (add-one, drop-cons xs i 0)
