-- `all` and `leading` of lists put together and taken apart.
use Prim.Native.Nat.{ℕ, zero, suc, ◌+◌, ◌-◌, ◌≤◌, ◌<◌}
use mathlib.Core.Path.{◌≡◌, refl, sym, ap, ap₂, ◌∙◌}
use mathlib.Core.Bool.{Bool, true, false, ◌&&◌, false≢true, and_assoc, and-true}
use mathlib.Core.List.{List, [], ◌∷◌, ◌++◌, map}
use mathlib.Core.Logic.{⊎_elim}
use native.Mathlib.Numerals.{add-one}
use native.Mathlib.Omega.{arith}
use lib.ListN.{length, take, drop, get_or, replicate, length-drop, drop_of_length-le}
use lib.Seq.{drop-cons, drop-nil, drop-drop, get_or-take, get_or-drop}
use Rattle.std.specs.Prelude.{fold}
use Rattle.std.specs.List.{list_all}
use Rattle.base_lists.specs.Lists.{all, leading}
use Rattle.base_lists.proofs.Bools.{bool_cases, both}

module _ {A : Type 0} (p : A → Bool) where
  -- what `all` of std says is what ours does, and what a `fold` that asks every element says
  pub all_is : (xs : List A) → list_all p xs ≡ all p xs
  unfolding all
  all_is [] = refl
  all_is (x ∷ xs) = ap (λ (b : Bool). p x && b) (all_is xs)

  pub all_folded : (xs : List A) → fold (λ holds x. holds && p x) true xs ≡ list_all p xs
  all_folded xs = go xs true
    where
      go : (l : List A) (b : Bool) → fold (λ holds x. holds && p x) b l ≡ (b && list_all p l)
      go [] b = sym (and-true b)
      go (x ∷ l) b = rw (go l (b && p x)) (and_assoc b (p x) (list_all p l))

  pub all-append : (xs ys : List A) → all p (xs ++ ys) ≡ (all p xs && all p ys)
  unfolding all
  all-append [] ys = refl
  all-append (x ∷ xs) ys = rw (all-append xs ys) (sym (and_assoc (p x) (all p xs) (all p ys)))

  pub all-replicate : (n : ℕ) (x : A) → p x ≡ true → all p (replicate n x) ≡ true
  unfolding all
  all-replicate zero x e = refl
  all-replicate (suc n) x e = rw e (all-replicate n x e)

  pub all-take : (n : ℕ) (xs : List A) → all p xs ≡ true → all p (take n xs) ≡ true
  unfolding all
  all-take zero xs t = refl
  all-take (suc n) [] t = refl
  all-take (suc n) (x ∷ xs) t = let w = both (p x) (all p xs) t in rw w.0 (all-take n xs w.1)

  pub all-drop : (n : ℕ) (xs : List A) → all p xs ≡ true → all p (drop n xs) ≡ true
  unfolding all
  all-drop zero xs t = t
  all-drop (suc n) [] t = refl
  all-drop (suc n) (x ∷ xs) t = all-drop n xs (both (p x) (all p xs) t).1

  -- at every place, and past the end where it holds of the default
  pub all_at : (d : A) → p d ≡ true → (xs : List A) → all p xs ≡ true → (i : ℕ) → p (get_or xs i d) ≡ true
  unfolding all
  all_at d e [] t i = e
  all_at d e (x ∷ xs) t zero = (both (p x) (all p xs) t).0
  all_at d e (x ∷ xs) t (suc i) = all_at d e xs (both (p x) (all p xs) t).1 i

  -- one element of which `p` does not hold is enough
  pub all_of : (d : A) (xs : List A) → ((i : ℕ) → p (get_or xs i d) ≡ true) → all p xs ≡ true
  unfolding all
  all_of d [] w = refl
  all_of d (x ∷ xs) w = rw (w 0) (all_of d xs (λ i. w (suc i)))

  pub all_lacks : (d : A) → p d ≡ true → (xs : List A) (a n j : ℕ) → a ≤ j → j < a + n → p (get_or xs j d) ≡ false
      → all p (take n (drop a xs)) ≡ false
  all_lacks d e xs a n j low high f =
      let part = take n (drop a xs) in
      ⊎_elim (λ t. absurd (false≢true (sym f ∙ sym same ∙ all_at d e part t (j - a)))) (λ t. t) (bool_cases (all p part))
    where
      same : p (get_or (take n (drop a xs)) (j - a) d) ≡ p (get_or xs j d)
      same =
          let o : j - a < n = omega arith in
          let k : a + (j - a) ≡ j = omega arith in
          rw (get_or-take, get_or-drop, k)

  -- all of `n` from `a` on hold where the first of them and the others do
  pub all_before : (d : A) (xs : List A) (a n : ℕ) → p (get_or xs a d) ≡ true → all p (take n (drop (suc a) xs)) ≡ true
      → all p (take (suc n) (drop a xs)) ≡ true
  unfolding all
  all_before d [] a n e t = rw (drop-nil {A = A} a)
  all_before d (x ∷ xs) zero n e t = rw e t
  all_before d (x ∷ xs) (suc a) n e t = all_before d xs a n e t

  pub leading_pass : (xs : List A) (n : ℕ) → n ≤ length xs → all p (take n xs) ≡ true → n + leading p (drop n xs) ≡ leading p xs
  unfolding all leading
  leading_pass xs zero h t = omega arith
  leading_pass [] (suc n) h t = omega arith
  leading_pass (x ∷ xs) (suc n) h t =
      let w = both (p x) (all p (take n xs)) t in
      rw w.0 (omega (arith, leading_pass xs n (omega arith) w.1))

  -- one step of a loop that asks all from `i` on, and its end
  pub all_step : (b : Bool) (xs : List A) (i : ℕ) (d : A) → i < length xs
      → ((b && p (get_or xs i d)) && all p (drop (i + 1) xs)) ≡ (b && all p (drop i xs))
  unfolding all
  all_step b xs i d h = rw (add-one, drop-cons xs i d) (and_assoc b (p (get_or xs i d)) (all p (drop (suc i) xs)))

  pub all_end : (b : Bool) (xs : List A) (i : ℕ) → length xs ≤ i → (b && all p (drop i xs)) ≡ b
  unfolding all
  all_end b xs i h = rw (drop_of_length-le xs h) (and-true b)

  -- one step of a loop that passes what `p` holds of, and its two ends
  pub leading_step : (xs : List A) (i : ℕ) (d : A) → i < length xs → p (get_or xs i d) ≡ true
      → i + 1 + leading p (drop (i + 1) xs) ≡ i + leading p (drop i xs)
  unfolding leading
  leading_step xs i d h t = rw (add-one, drop-cons xs i d, t) (omega arith)

  pub leading_stop : (xs : List A) (i : ℕ) (d : A) → i < length xs → p (get_or xs i d) ≡ false → i + leading p (drop i xs) ≡ i
  unfolding leading
  leading_stop xs i d h f = rw (drop-cons xs i d, f) (omega arith)

  pub leading_end : (xs : List A) (i : ℕ) → length xs ≤ i → i + leading p (drop i xs) ≡ i
  unfolding leading
  leading_end xs i h = rw (drop_of_length-le xs h) (omega arith)

  -- the part from `i` up to `e` is passed whole
  pub leading_part : (xs : List A) (i e : ℕ) → i ≤ e → e ≤ length xs → all p (take (e - i) (drop i xs)) ≡ true
      → e + leading p (drop e xs) ≡ i + leading p (drop i xs)
  leading_part xs i e h h' t =
      let k : i + (e - i) ≡ e = omega arith in
      let rest = ap (leading p) (drop-drop (e - i) i xs ∙ ap (λ (n : ℕ). drop n xs) k) in
      omega (arith, leading_pass (drop i xs) (e - i) (rw length-drop (omega arith)) t, rest)

-- what two tests imply at each element, they imply of all
pub all_both : {A : Type 0} (p q r : A → Bool) → ((x : A) → p x ≡ true → q x ≡ true → r x ≡ true) → (xs : List A)
    → all p xs ≡ true → all q xs ≡ true → all r xs ≡ true
unfolding all
all_both p q r h [] t u = refl
all_both p q r h (x ∷ xs) t u =
    let v = both (p x) (all p xs) t in
    let w = both (q x) (all q xs) u in
    rw (h x v.0 w.0) (all_both p q r h xs v.1 w.1)

-- two functions that agree where `p` holds
pub map-all : {A B : Type 0} (p : A → Bool) (f g : A → B) → ((x : A) → p x ≡ true → f x ≡ g x) → (xs : List A) → all p xs ≡ true
    → map f xs ≡ map g xs
unfolding all
map-all p f g h [] t = refl
map-all p f g h (x ∷ xs) t = let w = both (p x) (all p xs) t in ap₂ (λ y ys. y ∷ ys) (h x w.0) (map-all p f g h xs w.1)
