-- Laws of `keep`, `member`, `any` and `least_of`, and of `all` over what is kept, each by induction on the list.
use mathlib.Core.Path.{◌≡◌, refl, sym, ap, ◌∙◌}
use mathlib.Core.Logic.{◌⊎◌, inl, inr, ⊎_elim}
use mathlib.Core.Bool.{Bool, true, false, cond, ◌&&◌, ◌||◌, or-true, and-false}
use mathlib.Core.List.{List, [], ◌∷◌, ◌++◌, map, map-append}
use Prim.Native.Nat.{ℕ, zero, suc, ◌≤◌, ◌<◌}
use native.Mathlib.Omega.{arith}
use lib.ListN.{length, take}
use lib.Dec.{eqb}
use borrow.Author.Tests.{eq-eqb, eqb-true}
use Rattle.base_lists.specs.Lists.{keep, all, any, member, least_of}
use Rattle.base_lists.proofs.Bools.{both, clash, and_left, and_right, either, or_none_left, or_none_right}
use Rattle.base_lists.proofs.Members.{member-append}

-- member

pub member_head : (x : ℕ) (xs : List ℕ) → member x (x ∷ xs) ≡ true
unfolding member
member_head x xs = rw (eq-eqb x x refl)

pub member_tail : (x y : ℕ) (xs : List ℕ) → member x xs ≡ true → member x (y ∷ xs) ≡ true
unfolding member
member_tail x y xs h = rw h (or-true (eqb x y))

pub member_cases : (x y : ℕ) (xs : List ℕ) → member x (y ∷ xs) ≡ true → (x ≡ y) ⊎ (member x xs ≡ true)
unfolding member
member_cases x y xs h = ⊎_elim (λ e. inl (eqb-true x y e)) inr (either (eqb x y) (member x xs) h)

-- one element before both
pub member-cons : (n x : ℕ) (xs ys : List ℕ) → (member n xs ≡ true → member n ys ≡ true)
    → member n (x ∷ xs) ≡ true → member n (x ∷ ys) ≡ true
unfolding member
member-cons n x xs ys f m = go (eqb n x) m
  where
    go : (b : Bool) → (b || member n xs) ≡ true → (b || member n ys) ≡ true
    go true e = refl
    go false e = f e

-- keep

module _ {A : Type 0} (p : A → Bool) where
  pub keep_yes : (x : A) (xs : List A) → p x ≡ true → keep p (x ∷ xs) ≡ x ∷ keep p xs
  unfolding keep
  keep_yes x xs e = rw e

  pub keep_no : (x : A) (xs : List A) → p x ≡ false → keep p (x ∷ xs) ≡ keep p xs
  unfolding keep
  keep_no x xs e = rw e

  pub keep-append : (xs ys : List A) → keep p (xs ++ ys) ≡ keep p xs ++ keep p ys
  unfolding keep
  keep-append [] ys = refl
  keep-append (x ∷ xs) ys = rw (keep-append xs ys) (go (p x))
    where
      go : (b : Bool)
          → cond b (x ∷ keep p xs ++ keep p ys) (keep p xs ++ keep p ys) ≡ cond b (x ∷ keep p xs) (keep p xs) ++ keep p ys
      go true = refl
      go false = refl

  pub keep-map : {B : Type 0} (f : B → A) (xs : List B) → keep p (map f xs) ≡ map f (keep (λ x. p (f x)) xs)
  unfolding keep
  keep-map f [] = refl
  keep-map {B} f (x ∷ xs) = rw (keep-map f xs) (go (p (f x)))
    where
      rest : List B
      rest = keep (λ x. p (f x)) xs

      go : (b : Bool) → cond b (f x ∷ map f rest) (map f rest) ≡ map f (cond b (x ∷ rest) rest)
      go true = refl
      go false = refl

  -- what is kept was there
  pub member-map-keep : (f : A → ℕ) (xs : List A) (n : ℕ) → member n (map f (keep p xs)) ≡ true → member n (map f xs) ≡ true
  unfolding keep
  member-map-keep f [] n h = h
  member-map-keep f (x ∷ xs) n h = go (p x) h (member-map-keep f xs n)
    where
      go : (b : Bool) → member n (map f (cond b (x ∷ keep p xs) (keep p xs))) ≡ true
          → (member n (map f (keep p xs)) ≡ true → member n (map f xs) ≡ true) → member n (map f (x ∷ xs)) ≡ true
      go true m ih = member-cons n (f x) (map f (keep p xs)) (map f xs) ih m
      go false m ih = member_tail n (f x) (map f xs) (ih m)

pub member-map-take : {A : Type 0} (f : A → ℕ) (k : ℕ) (xs : List A) (n : ℕ)
    → member n (map f (take k xs)) ≡ true → member n (map f xs) ≡ true
member-map-take f zero xs n h = absurd (clash h (unfold member in refl))
member-map-take f (suc k) [] n h = h
member-map-take f (suc k) (x ∷ xs) n h =
    member-cons n (f x) (map f (take k xs)) (map f xs) (member-map-take f k xs n) h

module _ {A : Type 0} (f : A → ℕ) (n : ℕ) where
  pub member-map-append : (xs ys : List A) → member n (map f (xs ++ ys)) ≡ (member n (map f xs) || member n (map f ys))
  member-map-append xs ys = rw map-append (member-append n (map f xs) (map f ys))

  -- what follows fewer than `k` others is among the first `k`
  pub member-map_reach : (k : ℕ) (xs : List A) (y : A) (ys : List A) → length xs < k → f y ≡ n
      → member n (map f (take k (xs ++ y ∷ ys))) ≡ true
  member-map_reach zero xs y ys h e = absurd (omega arith)
  member-map_reach (suc k) [] y ys h e = rw e (member_head n (map f (take k ys)))
  member-map_reach (suc k) (x ∷ xs) y ys h e =
      member_tail n (f x) (map f (take k (xs ++ y ∷ ys))) (member-map_reach k xs y ys (omega arith) e)

-- over numbers: `p` and `q` are asked of the members alone

module _ (p : ℕ → Bool) where
  pub member-keep : (xs : List ℕ) (n : ℕ) → member n (keep p xs) ≡ (member n xs && p n)
  unfolding keep member
  member-keep [] n = refl
  member-keep (x ∷ xs) n = go (p x) (λ t. ap p (eqb-true n x t)) (member-keep xs n)
    where
      yes_here : (c : Bool) → (c ≡ true → p n ≡ true) → member n (keep p xs) ≡ (member n xs && p n)
          → (c || member n (keep p xs)) ≡ ((c || member n xs) && p n)
      yes_here true t ih = sym (t refl)
      yes_here false t ih = ih

      no_here : (c : Bool) → (c ≡ true → p n ≡ false) → member n (keep p xs) ≡ (member n xs && p n)
          → member n (keep p xs) ≡ ((c || member n xs) && p n)
      no_here true t ih = ih ∙ rw (t refl) (and-false (member n xs))
      no_here false t ih = ih

      go : (b : Bool) → (eqb n x ≡ true → p n ≡ b) → member n (keep p xs) ≡ (member n xs && p n)
          → member n (cond b (x ∷ keep p xs) (keep p xs)) ≡ ((eqb n x || member n xs) && p n)
      go true t ih = yes_here (eqb n x) t ih
      go false t ih = no_here (eqb n x) t ih

  pub kept_member : (xs : List ℕ) (n : ℕ) → member n (keep p xs) ≡ true → member n xs ≡ true
  kept_member xs n e = and_left (member n xs) (p n) (sym (member-keep xs n) ∙ e)

  pub kept_holds : (xs : List ℕ) (n : ℕ) → member n (keep p xs) ≡ true → p n ≡ true
  kept_holds xs n e = and_right (member n xs) (p n) (sym (member-keep xs n) ∙ e)

  pub keep_none : (xs : List ℕ) → ((x : ℕ) → member x xs ≡ true → p x ≡ false) → keep p xs ≡ []
  keep_none [] h = unfold keep in refl
  keep_none (x ∷ xs) h =
      keep_no p x xs (h x (member_head x xs)) ∙ keep_none xs (λ y m. h y (member_tail y x xs m))

  pub keep_every : (xs : List ℕ) → ((x : ℕ) → member x xs ≡ true → p x ≡ true) → keep p xs ≡ xs
  keep_every [] h = unfold keep in refl
  keep_every (x ∷ xs) h =
      keep_yes p x xs (h x (member_head x xs)) ∙ ap (λ l. x ∷ l) (keep_every xs (λ y m. h y (member_tail y x xs m)))

  pub keep_same : (q : ℕ → Bool) (xs : List ℕ) → ((x : ℕ) → member x xs ≡ true → p x ≡ q x) → keep p xs ≡ keep q xs
  unfolding keep
  keep_same q [] h = refl
  keep_same q (x ∷ xs) h = rw (h x (member_head x xs), keep_same q xs (λ y m. h y (member_tail y x xs m)))

  -- any

  pub any-member : (xs : List ℕ) → any p xs ≡ true → (x : ℕ) × (member x xs ≡ true) × (p x ≡ true)
  unfolding any
  any-member [] h = absurd (clash h refl)
  any-member (x ∷ xs) h = ⊎_elim (λ e. (x, member_head x xs, e)) (λ e. go (any-member xs e)) (either (p x) (any p xs) h)
    where
      go : (y : ℕ) × (member y xs ≡ true) × (p y ≡ true) → (y : ℕ) × (member y (x ∷ xs) ≡ true) × (p y ≡ true)
      go w = (w.0, member_tail w.0 x xs w.1, w.2)

  pub any_none : (xs : List ℕ) → any p xs ≡ false → (x : ℕ) → member x xs ≡ true → p x ≡ false
  unfolding any member
  any_none [] h x m = absurd (clash m refl)
  any_none (y ∷ xs) h x m =
      ⊎_elim (λ e. ap p e ∙ or_none_left (p y) (any p xs) h) (any_none xs (or_none_right (p y) (any p xs) h) x) (member_cases x y xs m)

  pub any-false : (xs : List ℕ) → ((x : ℕ) → member x xs ≡ true → p x ≡ false) → any p xs ≡ false
  unfolding any
  any-false [] h = refl
  any-false (x ∷ xs) h = rw (h x (member_head x xs)) (any-false xs (λ y m. h y (member_tail y x xs m)))

-- the least

pub least_of_top : (top : ℕ) (xs : List ℕ) → least_of top xs ≤ top
unfolding least_of
least_of_top top [] = omega arith
least_of_top top (x ∷ xs) = omega (arith, least_of_top top xs)

pub least_of-member : (top : ℕ) (xs : List ℕ) (x : ℕ) → member x xs ≡ true → least_of top xs ≤ x
unfolding least_of
least_of-member top [] x m = absurd (clash m (unfold member in refl))
least_of-member top (y ∷ xs) x m = ⊎_elim (λ e. omega arith) (λ n. omega (arith, least_of-member top xs x n)) (member_cases x y xs m)

pub least_of_from : (top : ℕ) (xs : List ℕ) (f : ℕ) → f ≤ top → ((x : ℕ) → member x xs ≡ true → f ≤ x) → f ≤ least_of top xs
unfolding least_of
least_of_from top [] f t h = t
least_of_from top (x ∷ xs) f t h =
    omega (arith, h x (member_head x xs), least_of_from top xs f t (λ y m. h y (member_tail y x xs m)))

-- map

pub map_same : {B : Type 0} (f g : ℕ → B) (xs : List ℕ) → ((x : ℕ) → member x xs ≡ true → f x ≡ g x) → map f xs ≡ map g xs
map_same f g [] h = refl
map_same f g (x ∷ xs) h = rw (h x (member_head x xs), map_same f g xs (λ y m. h y (member_tail y x xs m)))

-- all, of what is kept and of what is made of members
module _ {A : Type 0} (q : A → Bool) where
  pub all-keep : (p : A → Bool) (l : List A) → all q l ≡ true → all q (keep p l) ≡ true
  unfolding all keep
  all-keep p [] t = refl
  all-keep p (x ∷ l) t = go (p x) (all-keep p l (both (q x) (all q l) t).1)
    where
      go : (b : Bool) → all q (keep p l) ≡ true → all q (cond b (x ∷ keep p l) (keep p l)) ≡ true
      go true later = rw (both (q x) (all q l) t).0 later
      go false later = later

  pub all_mapped : (f : ℕ → A) (ds : List ℕ) → ((d : ℕ) → member d ds ≡ true → q (f d) ≡ true) → all q (map f ds) ≡ true
  unfolding all
  all_mapped f [] w = refl
  all_mapped f (d ∷ ds) w = rw (w d (member_head d ds)) (all_mapped f ds (λ x m. w x (member_tail x d ds m)))
