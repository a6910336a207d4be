-- What was found as the window needs it, and that the contract of `look` has one result.
use Prim.Native.Nat.{ℕ, zero, suc, ◌<◌, min}
use mathlib.Core.Path.{◌≡◌, refl, ap, ◌∙◌}
use mathlib.Core.Bool.{Bool, true, false, cond}
use mathlib.Core.List.{List, [], ◌∷◌}
use native.Mathlib.Omega.{arith}
use lib.ListN.{length, take, length-take}
use Rattle.base_lists.specs.Lists.{keep}
use Rattle.base_lists.proofs.Unique.{unique}
use Rattle.method.specs.declared.Request.{Request}
use Rattle.method.specs.Table.{Day}
use Rattle.method.specs.Eligible.{eligible}
use Rattle.engine_rules.specs.declared.SpareOrder.{SpareOrder}
use Rattle.engine_look_back.specs.declared.Found.{Found}
use Rattle.engine_look_back.specs.Steps.{up_to, eligible_of, spare_of, row_of, spare_row, spares_of, oldest_of, Looked}

-- no two results meet the contract of `look`
pub looked_unique : {r : Request} {order : SpareOrder} {days : List (ℕ × Day)} {found found' : Found}
    → Looked r order days found → Looked r order days found' → found ≡ found'
looked_unique p q i =
    record {
      eligible = record { words = unique p.row q.row i; count = unique p.count q.count i };
      oldest = unique p.oldest q.oldest i;
      spare = record { words = unique p.sparing q.sparing i; count = unique p.spares q.spares i };
    }

-- the eligible days up to the `n`th are the first `n`
eligible-up_to : (n : ℕ) (days : List (ℕ × Day)) → eligible_of (up_to n days) ≡ take n (eligible_of days)
unfolding up_to eligible_of keep
eligible-up_to zero [] = refl
eligible-up_to (suc n) [] = refl
eligible-up_to zero (p ∷ days) = refl
eligible-up_to (suc n) (p ∷ days) = go (eligible p.1) (eligible-up_to n days) (eligible-up_to (suc n) days)
  where
    go : (b : Bool) → eligible_of (up_to n days) ≡ take n (eligible_of days) → eligible_of (up_to (suc n) days) ≡ take (suc n) (eligible_of days)
        → cond b (p ∷ eligible_of (cond b (up_to n days) (up_to (suc n) days))) (eligible_of (cond b (up_to n days) (up_to (suc n) days)))
        ≡ take (suc n) (cond b (p ∷ eligible_of days) (eligible_of days))
    go true here later = ap (λ (l : List (ℕ × Day)). p ∷ l) here
    go false here later = later

-- where fewer are eligible, they are all days
all_days : (n : ℕ) (days : List (ℕ × Day)) → length (eligible_of days) < n → up_to n days ≡ days
unfolding up_to eligible_of keep
all_days n [] h = refl
all_days zero (p ∷ days) h = absurd (omega arith)
all_days (suc n) (p ∷ days) h = go (eligible p.1) (all_days n days) (all_days (suc n) days) h
  where
    go : (b : Bool) → (length (eligible_of days) < n → up_to n days ≡ days) → (length (eligible_of days) < suc n → up_to (suc n) days ≡ days)
        → length (cond b (p ∷ eligible_of days) (eligible_of days)) < suc n → p ∷ cond b (up_to n days) (up_to (suc n) days) ≡ p ∷ days
    go true here later h = ap (λ (l : List (ℕ × Day)). p ∷ l) (here (omega arith))
    go false here later h = ap (λ (l : List (ℕ × Day)). p ∷ l) (later h)

-- the most recent eligible days up to `most`, and the spare days where there are fewer
pub record Enough (r : Request) (most : ℕ) (order : SpareOrder) (days : List (ℕ × Day)) (found : Found) : Type 0 where
  pub row : found.eligible.words ≡ row_of r (take most (eligible_of days))
  pub count : found.eligible.count ≡ min most (length (eligible_of days))
  pub oldest : found.oldest ≡ oldest_of r (take most (eligible_of days))
  pub sparing : length (eligible_of days) < most → found.spare.words ≡ spare_row r order (spare_of days)
  pub spares : length (eligible_of days) < most → found.spare.count ≡ spares_of order (length (spare_of days))

pub enough : {r : Request} {most : ℕ} {order : SpareOrder} {days : List (ℕ × Day)} {found : Found} → Looked r order (up_to most days) found
    → Enough r most order days found
enough {r} {most} {order} {days} q =
    let e = eligible-up_to most days in
    record {
      row = q.row ∙ ap (row_of r) e;
      count = q.count ∙ rw (e, length-take) refl;
      oldest = q.oldest ∙ ap (oldest_of r) e;
      sparing = λ few. q.sparing ∙ ap (λ (l : List (ℕ × Day)). spare_row r order (spare_of l)) (all_days most days few);
      spares = λ few. q.spares ∙ ap (λ (l : List (ℕ × Day)). spares_of order (length (spare_of l))) (all_days most days few);
    }
