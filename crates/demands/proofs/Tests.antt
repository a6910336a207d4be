-- The tests of 01's rows are those of the definitions: a test and its contrary, of numbers, of two tests and of lists.
use Prim.Native.Nat.{ℕ, ◌-◌, ◌≤◌, ◌<◌}
use mathlib.Core.Path.{◌≡◌, refl}
use mathlib.Core.Bool.{Bool, true, false, not, cond, ◌&&◌, ◌||◌}
use mathlib.Core.List.{List, [], ◌∷◌}
use mathlib.Core.Logic.{⊎_elim}
use native.Mathlib.Omega.{arith}
use lib.Dec.{leb, ltb, eqb}
use borrow.Author.Tests.{lt-ltb, le-ltb, leb-true, le-leb, lt-leb, ne_eqb}
use Rattle.base_lists.specs.Lists.{all, any}
use Rattle.base_lists.proofs.Bools.{lt-or-le, below_not}
use Rattle.calendar_groups.specs.declared.Group.{Group}
use Rattle.calendar_groups.specs.declared.Group.TheVariants.{Weekday, Saturday, HolidayGroup}
use Rattle.method.specs.declared.Request.{Request}
use Rattle.method.specs.Adjustment.{is_average}
use Rattle.method.specs.HighXofY.{Y, N, high_x_of_y}
use Rattle.method.specs.AverageXofY.{average_y, seven_days, of_others, averaged, average_x_of_y}
use Rattle.method.specs.Requested.{rules_of}
use Rattle.demands.specs.Rows.{none_left}

pub from_not : (a b : ℕ) → leb a b ≡ not (ltb b a)
from_not a b = ⊎_elim (λ h. rw (lt-leb a b h, lt-ltb b a h)) (λ h. rw (le-leb a b h, le-ltb b a h)) (lt-or-le b a)

pub and-not : (a b : Bool) → (not a || not b) ≡ not (a && b)
and-not true b = refl
and-not false b = refl

pub or-not : (a b : Bool) → (not a && not b) ≡ not (a || b)
or-not true b = refl
or-not false b = refl

-- the contrary of refusal 1's four tests
pub none_of_four : (a b c d : Bool) → (a || not b || not c || not d) ≡ not (b && (not a && c && d))
none_of_four true true c d = refl
none_of_four true false c d = refl
none_of_four false false c d = refl
none_of_four false true false d = refl
none_of_four false true true d = refl

-- one of a list fails a test exactly where not all pass it
pub any-not : {A : Type 0} (p q : A → Bool) → ((x : A) → q x ≡ not (p x)) → (xs : List A) → any q xs ≡ not (all p xs)
unfolding any all
any-not p q e [] = refl
any-not p q e (x ∷ xs) = rw (e x, any-not p q e xs) (and-not (p x) (all p xs))

-- none is chosen exactly where the window is below N
one_least : (g : Group) → 0 < N g
one_least Weekday = omega arith
one_least Saturday = omega arith
one_least HolidayGroup = omega arith

taken_none : (n : ℕ) (b : Bool) → 0 < n → eqb (cond b 0 n) 0 ≡ b
taken_none n true e = refl
taken_none n false e = ne_eqb n 0 (λ z. omega arith)

none_chosen : (g : Group) (k : ℕ) → eqb (cond (ltb k (N g)) 0 (N g)) 0 ≡ ltb k (N g)
none_chosen g k = taken_none (N g) (ltb k (N g)) (one_least g)

-- none is averaged exactly where 001's rules leave none: so many days are enough, or fewer after seven days
left_none : (a b c : Bool) (some : ℕ) → 0 < some → (a ≡ true → b ≡ true) → eqb (cond a 2 (cond (b && c) some 0)) 0 ≡ (not b || (not a && not c))
left_none true b c some o e = rw (e refl)
left_none false false c some o e = refl
left_none false true true some o e = ne_eqb some 0 (λ z. omega arith)
left_none false true false some o e = refl

either : (a b : Bool) (n : ℕ) → cond (a || b) n 0 ≡ cond a n (cond b n 0)
either true b n = refl
either false b n = refl

from_more : (a b size : ℕ) → b ≤ a → leb a size ≡ true → leb b size ≡ true
from_more a b size less e = le-leb b size (omega (arith, leb-true a size e))

module _ (r : Request) (size : ℕ) where
  of_others_lem : eqb (of_others r size) 0 ≡ (ltb size 1 || (ltb size 2 && ltb (r.event - r.participation) 7))
  of_others_lem =
      rw (below_not size 1, below_not size 2, below_not (r.event - r.participation) 7)
      (left_none (leb 2 size) (leb 1 size) (leb 7 (r.event - r.participation)) 1 (omega arith) (from_more 2 1 size (omega arith)))

  none_averaged : (g : Group) → eqb (averaged g r size) 0 ≡ none_left g (r.event - r.participation) size
  none_averaged Weekday =
      rw (either (leb 4 size) (leb 2 size && seven_days r) 2, below_not size 2, below_not size 4, below_not (r.event - r.participation) 7)
      (left_none (leb 4 size) (leb 2 size) (leb 7 (r.event - r.participation)) 2 (omega arith) (from_more 4 2 size (omega arith)))
  none_averaged Saturday = of_others_lem
  none_averaged HolidayGroup = of_others_lem

-- the rules of a request, by its method
module _ (g : Group) (r : Request) where
  pub most_is : (rules_of g r).most ≡ cond (is_average r) (average_y g) (Y g)
  unfolding rules_of high_x_of_y average_x_of_y
  most_is = go (is_average r)
    where
      go : (v : Bool) → (cond v (average_x_of_y g r) (high_x_of_y g r)).most ≡ cond v (average_y g) (Y g)
      go true = refl
      go false = refl

  pub few_is : (size : ℕ) → eqb ((rules_of g r).taken size) 0 ≡ cond (is_average r) (none_left g (r.event - r.participation) size) (ltb size (N g))
  unfolding rules_of high_x_of_y average_x_of_y
  few_is size = go (is_average r)
    where
      go : (v : Bool) → eqb ((cond v (average_x_of_y g r) (high_x_of_y g r)).taken size) 0 ≡ cond v (none_left g (r.event - r.participation) size) (ltb size (N g))
      go true = none_averaged r size g
      go false = none_chosen g size
