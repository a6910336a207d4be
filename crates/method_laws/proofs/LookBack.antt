-- The look-back: which days lie in it, and that they stand nearest first. General over the number of days.
use mathlib.Core.Path.{◌≡◌, refl, sym, ap, ◌∙◌}
use mathlib.Core.Logic.{◌↔◌, ⊎_elim}
use mathlib.Core.Bool.{true}
use mathlib.Core.List.{List, [], ◌∷◌, ◌++◌}
use Prim.Native.Nat.{ℕ, zero, suc, ◌+◌, ◌-◌, ◌≤◌, ◌<◌, min}
use native.Mathlib.Nat.{zero-add, sub-zero, suc-sub-suc, zero-sub, suc-add}
use native.Mathlib.Omega.{arith}
use lib.Dec.{eqb}
use borrow.Author.Tests.{eqb-false}
use Rattle.base_lists.specs.Lists.{member}
use Rattle.base_lists.proofs.Bools.{bool_cases, clash}
use Rattle.base_lists.proofs.Keep.{member_cases}
use Rattle.method.specs.Relevant.{days_before, look_back}
use Rattle.method.specs.Lawful.{Falling, none, next}

inside : (k event d : ℕ) → member d (days_before k event) ≡ true → (d < event) × (event ≤ d + k)
unfolding days_before
inside zero event d m = absurd (clash m (unfold member in refl))
inside (suc k) zero d m = absurd (clash m (unfold member in refl))
inside (suc k) (suc event) d m =
    ⊎_elim (λ e. omega arith) (λ n. let i = inside k event d n in omega arith) (member_cases d event (days_before k event) m)

outside : (k event d : ℕ) → d < event → event ≤ d + k → member d (days_before k event) ≡ true
unfolding days_before member
outside zero event d a b = absurd (omega arith)
outside (suc k) zero d a b = absurd (omega arith)
outside (suc k) (suc event) d a b =
    ⊎_elim (λ t. rw t) (λ t. rw t (outside k event d (omega (arith, eqb-false d event t)) (omega arith))) (bool_cases (eqb d event))

pub days_before_is : (k event d : ℕ) → (member d (days_before k event) ≡ true) ↔ ((d < event) × (event ≤ d + k))
days_before_is k event d = (inside k event d, λ i. outside k event d i.0 i.1)

-- "the 45 days D-45 to D-1"
pub look_back_is : (event d : ℕ) → (member d (look_back event) ≡ true) ↔ ((d < event) × (event ≤ d + 45))
look_back_is event d = days_before_is _ event d

pub days_before_fall : (k event : ℕ) → Falling (days_before k event)
unfolding days_before
days_before_fall zero event = none
days_before_fall (suc k) zero = none
days_before_fall (suc k) (suc event) = next (λ x m. (inside k event x m).0) (days_before_fall k event)

pub look_back_fall : (event : ℕ) → Falling (look_back event)
look_back_fall event = days_before_fall _ event

pub none_before : (k : ℕ) → days_before k 0 ≡ []
unfolding days_before
none_before zero = refl
none_before (suc k) = refl

-- so many days, and then the days before those
pub days_then : (i k d : ℕ) → days_before (i + k) d ≡ days_before i d ++ days_before k (d - i)
unfolding days_before
days_then zero k d = rw (zero-add, sub-zero)
days_then (suc i) k zero = none_before (suc i + k) ∙ sym (ap (days_before k) (zero-sub (suc i)) ∙ none_before k)
days_then (suc i) k (suc d) = rw (suc-add, suc-sub-suc) (ap (λ (l : List ℕ). d ∷ l) (days_then i k d))

-- there are no more days than the event day's number
pub days_least : (k d : ℕ) → days_before k d ≡ days_before (min k d) d
unfolding days_before
days_least zero d = let e : min 0 d ≡ 0 = omega arith in rw e
days_least (suc k) zero = sym (none_before (min (suc k) 0))
days_least (suc k) (suc d) = let e : min (suc k) (suc d) ≡ suc (min k d) = omega arith in rw e (ap (λ (l : List ℕ). d ∷ l) (days_least k d))

pub one_before : (d : ℕ) → days_before 1 (suc d) ≡ d ∷ []
unfolding days_before
one_before d = refl
