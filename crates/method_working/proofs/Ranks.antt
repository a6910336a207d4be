-- Ranks in any list of numbers that has none twice: the k-th has rank k + 1, no other number has it, and a part is the numbers of its ranks.
use Prim.Native.Nat.{ℕ, zero, suc, ◌+◌, ◌-◌, ◌≤◌, ◌<◌}
use mathlib.Core.Path.{◌≡◌, refl, sym, ap, ◌∙◌, subst}
use mathlib.Core.Bool.{Bool, true, false, not, cond, ◌&&◌}
use mathlib.Core.List.{List, [], ◌∷◌, ◌++◌, map}
use mathlib.Core.Logic.{⊎_elim}
use native.Mathlib.Nat.{add-zero}
use native.Mathlib.Omega.{arith}
use lib.Dec.{ltb, leb, eqb}
use lib.ListN.{length, get_or, take, drop, length-take, length-drop}
use lib.Seq.{ext_get_or, get_or-take, get_or-drop}
use borrow.Author.Tests.{ltb-true, leb-true, lt-ltb, le-leb, eqb-true, eqb-false, eq-eqb, ne_eqb}
use Rattle.base_lists.specs.Lists.{keep, leading, member, places}
use Rattle.base_lists.proofs.Bools.{bool_cases, both, clash}
use Rattle.base_lists.proofs.Keep.{member_head, member_tail, member_cases}
use Rattle.base_lists.proofs.Places.{at_place, length_over}
use Rattle.method.specs.Eligible.{sort_by}
use Rattle.method.specs.Lawful.{Falling, none, next}
use Rattle.method_laws.proofs.Sort.{same_sorted}
use Rattle.method_working.specs.Working.{rank_in}

-- ---- how many times `n` stands in a list
abbrev one_more : Bool → ℕ → ℕ
one_more b k = cond b (suc k) k

unfoldable pub times : ℕ → List ℕ → ℕ
times n [] = 0
times n (x ∷ xs) = one_more (eqb n x) (times n xs)

-- no number twice
abbrev pub Distinct : List ℕ → Type 0
Distinct xs = (n : ℕ) → times n xs ≤ 1

times_head : (x : ℕ) (xs : List ℕ) → times x (x ∷ xs) ≡ suc (times x xs)
unfolding times
times_head x xs = rw (eq-eqb x x refl)

times_tail : (n x : ℕ) (xs : List ℕ) → times n xs ≤ times n (x ∷ xs)
unfolding times
times_tail n x xs = go (eqb n x)
  where
    go : (b : Bool) → times n xs ≤ one_more b (times n xs)
    go true = omega arith
    go false = omega arith

times-member : (n : ℕ) (xs : List ℕ) → member n xs ≡ true → 0 < times n xs
times-member n [] m = absurd (clash m (unfold member in refl))
times-member n (x ∷ xs) m =
    ⊎_elim (λ e. subst (λ k. 0 < times k (x ∷ xs)) (sym e) (omega (arith, times_head x xs)))
    (λ t. omega (arith, times-member n xs t, times_tail n x xs)) (member_cases n x xs m)

times-none : (n : ℕ) (xs : List ℕ) → (member n xs ≡ true → ⊥) → times n xs ≡ 0
unfolding times
times-none n [] w = refl
times-none n (x ∷ xs) w =
    rw (ne_eqb n x (λ e. w (subst (λ k. member k (x ∷ xs) ≡ true) (sym e) (member_head x xs))))
    (times-none n xs (λ t. w (member_tail n x xs t)))

pub times-append : (n : ℕ) (xs ys : List ℕ) → times n (xs ++ ys) ≡ times n xs + times n ys
unfolding times
times-append n [] ys = omega arith
times-append n (x ∷ xs) ys = go (eqb n x) (times-append n xs ys)
  where
    go : (b : Bool) → times n (xs ++ ys) ≡ times n xs + times n ys → one_more b (times n (xs ++ ys)) ≡ one_more b (times n xs) + times n ys
    go true e = omega arith
    go false e = e

pub times-take : (n k : ℕ) (xs : List ℕ) → times n (take k xs) ≤ times n xs
unfolding times
times-take n zero xs = omega arith
times-take n (suc k) [] = omega arith
times-take n (suc k) (x ∷ xs) = go (eqb n x) (times-take n k xs)
  where
    go : (b : Bool) → times n (take k xs) ≤ times n xs → one_more b (times n (take k xs)) ≤ one_more b (times n xs)
    go true e = omega arith
    go false e = e

pub times-keep : (p : ℕ → Bool) (n : ℕ) (xs : List ℕ) → times n (keep p xs) ≡ cond (p n) (times n xs) 0
unfolding times keep
times-keep p n [] = go (p n)
  where
    go : (b : Bool) → ◌≡◌ {A = ℕ} 0 (cond b 0 0)
    go true = refl
    go false = refl
times-keep p n (x ∷ xs) = go (eqb n x) (p x) (p n) (λ t. ap p (eqb-true n x t)) refl (times-keep p n xs)
  where
    go : (c b a : Bool) → (c ≡ true → a ≡ b) → eqb n x ≡ c → times n (keep p xs) ≡ cond a (times n xs) 0
        → times n (cond b (x ∷ keep p xs) (keep p xs)) ≡ cond a (one_more c (times n xs)) 0
    go true true a s e ih = rw (s refl) (rw e (ap suc (ih ∙ rw (s refl))))
    go true false a s e ih = ih ∙ rw (s refl)
    go false true a s e ih = rw e ih
    go false false a s e ih = ih

-- sorting keeps it
pub times_sorted : {A : Type 0} (before : A → A → Bool) (f : A → ℕ) (n : ℕ) (l : List A) → times n (map f (sort_by before l)) ≡ times n (map f l)
unfolding times
times_sorted {A} before f n =
    same_sorted before (λ (l : List A). times n (map f l)) (λ x. one_more (eqb n (f x))) (λ x xs. refl) (λ x y c. swap (eqb n (f x)) (eqb n (f y)) c)
  where
    swap : (a b : Bool) (c : ℕ) → one_more a (one_more b c) ≡ one_more b (one_more a c)
    swap true true c = refl
    swap true false c = refl
    swap false true c = refl
    swap false false c = refl

pub falling_distinct : {xs : List ℕ} → Falling xs → Distinct xs
unfolding times
falling_distinct none n = omega arith
falling_distinct (next {d} {ds} below rest) n = go (eqb n d) refl (falling_distinct rest n)
  where
    go : (b : Bool) → eqb n d ≡ b → times n ds ≤ 1 → one_more b (times n ds) ≤ 1
    go true e later = let same = eqb-true n d e in omega (arith, times-none n ds (λ m. omega (arith, below n m)))
    go false e later = later

-- ---- the place of a number, and its rank
abbrev place : ℕ → List ℕ → ℕ
place d l = leading (λ x. not (eqb x d)) l

placed : (d : ℕ) (l : List ℕ) → member d l ≡ true → (place d l < length l) × (get_or l (place d l) 0 ≡ d)
unfolding leading
placed d [] m = absurd (clash m (unfold member in refl))
placed d (x ∷ xs) m = go (eqb x d) refl (placed d xs)
  where
    go : (b : Bool) → eqb x d ≡ b → (member d xs ≡ true → (place d xs < length xs) × (get_or xs (place d xs) 0 ≡ d))
        → (cond (not b) (suc (place d xs)) 0 < suc (length xs)) × (get_or (x ∷ xs) (cond (not b) (suc (place d xs)) 0) 0 ≡ d)
    go true e later = (omega arith, eqb-true x d e)
    go false e later =
        let rest = later (⊎_elim (λ t. absurd (eqb-false x d e (sym t))) (λ t. t) (member_cases d x xs m)) in
        (omega (arith, rest.0), rest.1)

pub at_member : (l : List ℕ) (k : ℕ) → k < length l → member (get_or l k 0) l ≡ true
at_member [] k h = absurd (omega arith)
at_member (x ∷ xs) zero h = member_head x xs
at_member (x ∷ xs) (suc k) h = member_tail (get_or xs k 0) x xs (at_member xs k (omega arith))

place_at : (l : List ℕ) → Distinct l → (k : ℕ) → k < length l → place (get_or l k 0) l ≡ k
unfolding leading
place_at [] u k h = absurd (omega arith)
place_at (x ∷ xs) u zero h = rw (eq-eqb x x refl)
place_at (x ∷ xs) u (suc k) h = rw (ne_eqb x (get_or xs k 0) other) (ap suc (place_at xs (λ n. omega (arith, u n, times_tail n x xs)) k (omega arith)))
  where
    other : x ≡ get_or xs k 0 → ⊥
    other e =
        let again : member x xs ≡ true = subst (λ y. member y xs ≡ true) (sym e) (at_member xs k (omega arith)) in
        omega (arith, u x, times_head x xs, times-member x xs again)

-- the k-th has rank k + 1
pub rank_at : (l : List ℕ) → Distinct l → (k : ℕ) → k < length l → rank_in l (get_or l k 0) ≡ k + 1
unfolding rank_in
rank_at l u k h = rw (at_member l k h, place_at l u k h)

-- and no other number has it
pub rank_is : (l : List ℕ) (d k : ℕ) → rank_in l d ≡ k + 1 → (k < length l) × (get_or l k 0 ≡ d)
unfolding rank_in
rank_is l d k = go (member d l) refl
  where
    go : (b : Bool) → member d l ≡ b → cond b (place d l + 1) 0 ≡ k + 1 → (k < length l) × (get_or l k 0 ≡ d)
    go true m e =
        let same : place d l ≡ k = omega arith in
        let w = placed d l m in
        (omega (arith, w.0), ap (λ i. get_or l i 0) (sym same) ∙ w.1)
    go false m e = absurd (omega arith)

-- `n` numbers from the place `a` on: those with the ranks a + 1 to a + n
module _ (l : List ℕ) (u : Distinct l) (a n d : ℕ) where
  abbrev part : List ℕ
  part = take n (drop a l)

  ranked_in : member d part ≡ true → (ltb a (rank_in l d) && leb (rank_in l d) (a + n)) ≡ true
  ranked_in m = rw (lt-ltb a (rank_in l d) above, le-leb (rank_in l d) (a + n) below)
    where
      j : ℕ
      j = place d part

      short : length part ≤ n
      short = omega (arith, length-take n (drop a l))

      few : length part ≤ length l - a
      few = omega (arith, length-take n (drop a l), length-drop a l)

      its : get_or l (a + j) 0 ≡ d
      its =
          let o : j < n = omega (arith, (placed d part m).0, short) in
          sym (get_or-drop a l j 0) ∙ sym (get_or-take n (drop a l) j 0 o) ∙ (placed d part m).1

      rank : rank_in l d ≡ a + j + 1
      rank =
          let o : a + j < length l = omega (arith, (placed d part m).0, few) in
          ap (rank_in l) (sym its) ∙ rank_at l u (a + j) o

      above : a < rank_in l d
      above = omega (arith, rank)

      below : rank_in l d ≤ a + n
      below = omega (arith, rank, (placed d part m).0, short)

  in_ranked : (ltb a (rank_in l d) && leb (rank_in l d) (a + n)) ≡ true → member d part ≡ true
  in_ranked e = subst (λ x. member x part ≡ true) its (at_member part j within)
    where
      above : a < rank_in l d
      above = ltb-true a (rank_in l d) (both (ltb a (rank_in l d)) (leb (rank_in l d) (a + n)) e).0

      below : rank_in l d ≤ a + n
      below = leb-true (rank_in l d) (a + n) (both (ltb a (rank_in l d)) (leb (rank_in l d) (a + n)) e).1

      j : ℕ
      j = rank_in l d - 1 - a

      found : (a + j < length l) × (get_or l (a + j) 0 ≡ d)
      found = rank_is l d (a + j) (omega (arith, above, below))

      within : j < length part
      within = omega (arith, found.0, above, below, length-take n (drop a l), length-drop a l)

      its : get_or part j 0 ≡ d
      its = let o : j < n = omega (arith, above, below) in get_or-take n (drop a l) j 0 o ∙ get_or-drop a l j 0 ∙ found.1

  pub member-part : member d part ≡ (ltb a (rank_in l d) && leb (rank_in l d) (a + n))
  member-part =
      ⊎_elim (λ t. t ∙ sym (ranked_in t))
      (λ f. f ∙ ⊎_elim (λ t. absurd (clash (in_ranked t) f)) (λ g. sym g) (bool_cases (ltb a (rank_in l d) && leb (rank_in l d) (a + n))))
      (bool_cases (member d part))

-- a part by its ranks
pub part_by : (f : ℕ → ℕ) (l : List ℕ) (a n : ℕ) → a + n ≤ length l → ((k : ℕ) → k < n → f (a + k + 1) ≡ get_or l (a + k) 0)
    → take n (drop a l) ≡ map f (places n (a + 1))
part_by f l a n h w = ext_get_or 0 (take n (drop a l)) (map f (places n (a + 1))) (size ∙ sym (length_over f n (a + 1))) at
  where
    size : length (take n (drop a l)) ≡ n
    size = omega (arith, length-take n (drop a l), length-drop a l)

    at : (k : ℕ) → k < length (take n (drop a l)) → get_or (take n (drop a l)) k 0 ≡ get_or (map f (places n (a + 1))) k 0
    at k b =
        let o : k < n = omega (arith, size, b) in
        let e : a + k + 1 ≡ a + 1 + k = omega arith in
        get_or-take n (drop a l) k 0 o ∙ get_or-drop a l k 0 ∙ sym (w k o) ∙ ap f e ∙ sym (at_place f 0 n (a + 1) k o)

-- the first of some places where `p` does not hold
pub leading-places : (p : ℕ → Bool) (n t i : ℕ) → i < n → p (t + i) ≡ false → ((j : ℕ) → j < i → p (t + j) ≡ true) → leading p (places n t) ≡ i
unfolding leading places
leading-places p zero t i h f w = absurd (omega arith)
leading-places p (suc n) t zero h f w = rw (ap p (sym (add-zero t)) ∙ f)
leading-places p (suc n) t (suc i) h f w =
    rw (ap p (sym (add-zero t)) ∙ w 0 (omega arith))
    (ap suc (leading-places p n (suc t) i (omega arith) (ap p (next_place t i) ∙ f) (λ j b. ap p (next_place t j) ∙ w (suc j) (omega arith))))
  where
    next_place : (t j : ℕ) → suc t + j ≡ t + suc j
    next_place t j = omega arith
