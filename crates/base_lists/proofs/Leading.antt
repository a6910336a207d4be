-- `all` by the number of leading elements, and the leading elements of a list before another.
use Prim.Native.Nat.{suc, ◌+◌, ◌≤◌, ◌<◌}
use mathlib.Core.Path.{◌≡◌, refl, sym, ap, ◌∙◌}
use mathlib.Core.Bool.{Bool, true, false, cond, ◌&&◌}
use mathlib.Core.List.{List, [], ◌∷◌, ◌++◌}
use native.Mathlib.Omega.{arith}
use lib.Dec.{eqb, eqb-zero-suc, eqb-suc-suc}
use lib.ListN.{length}
use Rattle.base_lists.specs.Lists.{all, leading}

module _ {A : Type 0} (p : A → Bool) where
  pub all-leading : (xs : List A) → all p xs ≡ eqb (leading p xs) (length xs)
  unfolding all leading
  all-leading [] = refl
  all-leading (x ∷ xs) = go (p x) (all-leading xs)
    where
      go : (b : Bool) → all p xs ≡ eqb (leading p xs) (length xs) → (b && all p xs) ≡ eqb (cond b (suc (leading p xs)) 0) (suc (length xs))
      go true e = e ∙ sym (eqb-suc-suc (leading p xs) (length xs))
      go false e = sym (eqb-zero-suc (length xs))

  pub leading_most : (xs : List A) → leading p xs ≤ length xs
  unfolding leading
  leading_most [] = omega arith
  leading_most (x ∷ xs) = go (p x) (leading_most xs)
    where
      go : (b : Bool) → leading p xs ≤ length xs → cond b (suc (leading p xs)) 0 ≤ suc (length xs)
      go true h = omega arith
      go false h = omega arith

  -- of a list before another: where an element stops it what follows is not looked at, and else what follows goes on
  pub leading_stops : (xs ys : List A) → leading p xs < length xs → leading p (xs ++ ys) ≡ leading p xs
  unfolding leading
  leading_stops [] ys h = absurd (omega arith)
  leading_stops (x ∷ xs) ys h = go (p x) (leading_stops xs ys) h
    where
      go : (b : Bool) → (leading p xs < length xs → leading p (xs ++ ys) ≡ leading p xs) → cond b (suc (leading p xs)) 0 < suc (length xs) → cond b (suc (leading p (xs ++ ys))) 0 ≡ cond b (suc (leading p xs)) 0
      go true more k = ap suc (more (omega arith))
      go false more k = refl

  pub leading_goes_on : (xs ys : List A) → length xs ≤ leading p xs → leading p (xs ++ ys) ≡ length xs + leading p ys
  unfolding leading
  leading_goes_on [] ys h = omega arith
  leading_goes_on (x ∷ xs) ys h = go (p x) (leading_goes_on xs ys) h
    where
      go : (b : Bool) → (length xs ≤ leading p xs → leading p (xs ++ ys) ≡ length xs + leading p ys) → suc (length xs) ≤ cond b (suc (leading p xs)) 0 → cond b (suc (leading p (xs ++ ys))) 0 ≡ suc (length xs) + leading p ys
      go true more k = omega (arith, more (omega arith))
      go false more k = absurd (omega arith)
