-- Insertion into a row of words: its steps, two insertions change places, and a word goes before noughts.
use Prim.Native.Nat.{ℕ, zero, suc, ◌<◌, ◌≤◌}
use mathlib.Core.Path.{◌≡◌, refl}
use mathlib.Core.Bool.{true}
use mathlib.Core.List.{List, [], ◌∷◌, ◌++◌}
use mathlib.Core.Logic.{⊎_elim}
use native.Mathlib.Omega.{arith}
use lib.ListN.{replicate}
use lib.Dec.{leb}
use borrow.Author.Tests.{lt-ltb, le-ltb, leb-true, le-leb}
use Rattle.base_lists.specs.Lists.{all}
use Rattle.method.specs.Eligible.{insert_by}
use Rattle.engine_ranking.specs.Steps.{insert_down}
use Rattle.base_lists.proofs.Bools.{both, lt-or-le}

pub goes_here : (x y : ℕ) (ys : List ℕ) → y < x → insert_down x (y ∷ ys) ≡ x ∷ y ∷ ys
unfolding insert_by
goes_here x y ys h = rw (lt-ltb y x h)

pub goes_later : (x y : ℕ) (ys : List ℕ) → x ≤ y → insert_down x (y ∷ ys) ≡ y ∷ insert_down x ys
unfolding insert_by
goes_later x y ys h = rw (le-ltb y x h)

pub into_none : (x : ℕ) → insert_down x [] ≡ x ∷ []
unfolding insert_by
into_none x = refl

pub smaller_first : (x y : ℕ) (l : List ℕ) → y < x → insert_down x (insert_down y l) ≡ insert_down y (insert_down x l)
smaller_first x y [] h = let o : y ≤ x = omega arith in simp (into_none, goes_here, goes_later)
smaller_first x y (a ∷ l) h =
    ⊎_elim
    (λ (p : a < y). let o : y ≤ x = omega arith in let q : a < x = omega arith in simp (goes_here, goes_later))
    (λ (p : y ≤ a). ⊎_elim
    (λ (q : a < x). let o : y ≤ x = omega arith in simp (goes_here, goes_later))
    (λ (q : x ≤ a). simp (goes_later, smaller_first x y l h))
    (lt-or-le a x))
    (lt-or-le a y)

into_noughts : (m x : ℕ) → insert_down x (replicate m 0) ≡ x ∷ replicate m 0
into_noughts zero x = into_none x
into_noughts (suc m) x =
    ⊎_elim (λ (h : 0 < x). simp goes_here)
    (λ (h : x ≤ 0). let e : x ≡ 0 = omega arith in simp (goes_later, into_noughts m x) (rw e))
    (lt-or-le 0 x)

pub before_noughts : (m x : ℕ) (l : List ℕ) → insert_down x (l ++ replicate m 0) ≡ insert_down x l ++ replicate m 0
before_noughts m x [] = rw (into_noughts m x, into_none x)
before_noughts m x (a ∷ l) =
    ⊎_elim (λ (h : a < x). simp goes_here)
    (λ (h : x ≤ a). simp (goes_later, before_noughts m x l))
    (lt-or-le a x)

pub none_above : (a x : ℕ) (l : List ℕ) → a ≤ x → all (λ y. leb y a) l ≡ true → all (λ y. leb y x) l ≡ true
unfolding all
none_above a x [] h t = refl
none_above a x (y ∷ l) h t =
    let o : y ≤ a = leb-true y a (both (leb y a) (all (λ z. leb z a) l) t).0 in
    let p : y ≤ x = omega arith in
    rw (le-leb y x p) (none_above a x l h (both (leb y a) (all (λ z. leb z a) l) t).1)
