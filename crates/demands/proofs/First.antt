-- The first of the rows of which the test holds, place by place.
use Prim.Native.Nat.{ℕ, zero, suc}
use mathlib.Core.Path.{◌≡◌, refl, ap}
use mathlib.Core.Bool.{Bool, true, false, cond, ◌||◌, false≢true}
use mathlib.Core.List.{List, [], ◌∷◌}
use mathlib.Core.Logic.{⊎_elim}
use lib.ListN.{get_or, take}
use Rattle.base_lists.specs.Lists.{any}
use Rattle.base_lists.proofs.Bools.{bool_cases, or_none_left, or_none_right}
use Rattle.method.specs.declared.Refusal.{Refusal}
use Rattle.method.specs.Verdict.{Reply, Answer, refused, answered, first_of}
use Rattle.method.proofs.Replies.{never_both}
use Rattle.demands.specs.Rows.{applies, FirstIn}

pub first_in : (rs : List (Bool × Refusal)) (x : Answer) (w : Refusal) → first_of rs (answered x) ≡ refused w → FirstIn rs w
unfolding first_of any
first_in [] x w e = absurd (never_both e refl)
first_in (row ∷ rs) x w e = ⊎_elim here (later (first_in rs x w)) (bool_cases row.0)
  where
    here : row.0 ≡ true → FirstIn (row ∷ rs) w
    here t =
        let first : refused row.1 ≡ refused w = rw t at e in
        let its : row.1 ≡ w = cc in
        record { place = 0; its = λ i. (t i, its i); none_before = refl }

    later : (first_of rs (answered x) ≡ refused w → FirstIn rs w) → row.0 ≡ false → FirstIn (row ∷ rs) w
    later ih f =
        let rest = ih (rw f at e) in
        record { place = suc rest.place; its = rest.its; none_before = rw f rest.none_before }

placed : (rs : List (Bool × Refusal)) (x : Reply) (w : Refusal) (k : ℕ) → get_or rs k (false, w) ≡ (true, w) → any applies (take k rs) ≡ false
    → first_of rs x ≡ refused w
unfolding first_of any
placed [] x w zero e n = absurd (false≢true (ap (λ (p : Bool × Refusal). p.0) e))
placed [] x w (suc k) e n = absurd (false≢true (ap (λ (p : Bool × Refusal). p.0) e))
placed (row ∷ rs) x w zero e n = rw (ap (λ (p : Bool × Refusal). p.0) e, ap (λ (p : Bool × Refusal). p.1) e)
placed (row ∷ rs) x w (suc k) e n =
    rw (or_none_left row.0 (any applies (take k rs)) n) (placed rs x w k e (or_none_right row.0 (any applies (take k rs)) n))

pub first_of_lem : (rs : List (Bool × Refusal)) (x : Reply) (w : Refusal) → FirstIn rs w → first_of rs x ≡ refused w
first_of_lem rs x w f = placed rs x w f.place f.its f.none_before

-- where the reply is an answer, no test holds
pub none_first : (rs : List (Bool × Refusal)) (x y : Answer) → first_of rs (answered x) ≡ answered y → any applies rs ≡ false
unfolding first_of any
none_first [] x y e = refl
none_first (row ∷ rs) x y e = go row.0 e (none_first rs x y)
  where
    go : (b : Bool) → cond b (refused row.1) (first_of rs (answered x)) ≡ answered y
        → (first_of rs (answered x) ≡ answered y → any applies rs ≡ false) → (b || any applies rs) ≡ false
    go true e ih = absurd (never_both refl e)
    go false e ih = ih e
