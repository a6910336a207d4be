-- Lists over places, `map f (places n t)`: their elements, and a buffer that a loop fills from the front.
use Prim.Native.Nat.{ℕ, zero, suc, ◌+◌, ◌≤◌, ◌<◌}
use mathlib.Core.Path.{◌≡◌, refl, ap, sym, ◌∙◌}
use mathlib.Core.Bool.{true, false, cond}
use mathlib.Core.List.{List, [], ◌∷◌, ◌++◌, map, append-nil}
use mathlib.Core.Logic.{⊎_elim}
use native.Mathlib.Nat.{add-zero, add-suc}
use native.Mathlib.Numerals.{add-one}
use native.Mathlib.Omega.{arith}
use borrow.Author.Tests.{lt-ltb, le-ltb, eqb-true, eqb-false}
use lib.Dec.{ltb, eqb}
use lib.ListN.{length, get_or, set, drop, length-set, length-map, length-append, length-drop}
use lib.Seq.{ext_get_or, get_or-set_same, get_or-set_other, get_or-drop, get_or-append-add, drop-cons, drop-length, set_at, append_snoc}
use Rattle.base_lists.proofs.Bools.{bool_cases, lt-or-le}
use Rattle.base_lists.specs.Lists.{places}

pub length-places : (n t : ℕ) → length (places n t) ≡ n
unfolding places
length-places zero t = refl
length-places (suc n) t = ap suc (length-places n (suc t))

module _ {A : Type 0} (f : ℕ → A) where
  pub length_over : (n t : ℕ) → length (map f (places n t)) ≡ n
  length_over n t = length-map (places n t) f ∙ length-places n t

  pub at_place : (d : A) (n t k : ℕ) → k < n → get_or (map f (places n t)) k d ≡ f (t + k)
  unfolding places
  at_place d zero t k h = absurd (omega arith)
  at_place d (suc n) t zero h = rw (add-zero t)
  at_place d (suc n) t (suc k) h = at_place d n (suc t) k (omega arith) ∙ ap f (omega arith)

pub over_same : {A : Type 0} (f g : ℕ → A) (n t : ℕ) → ((k : ℕ) → t ≤ k → k < t + n → f k ≡ g k) → map f (places n t) ≡ map g (places n t)
unfolding places
over_same f g zero t e = refl
over_same f g (suc n) t e =
    rw (e t (omega arith) (omega arith), over_same f g n (suc t) (λ k a b. e k (omega arith) (omega arith)))

-- `n` places of which the first `i` hold `f`, and the rest nought
unfoldable pub filled : (ℕ → ℕ) → ℕ → ℕ → List ℕ
filled f n i = map (λ j. cond (ltb j i) (f j) 0) (places n 0)

module _ (f : ℕ → ℕ) (n : ℕ) where
  pub length-filled : (i : ℕ) → length (filled f n i) ≡ n
  unfolding filled
  length-filled i = length_over (λ j. cond (ltb j i) (f j) 0) n 0

  filled_at : (i k : ℕ) → k < n → get_or (filled f n i) k 0 ≡ cond (ltb k i) (f k) 0
  unfolding filled
  filled_at i k h = at_place (λ j. cond (ltb j i) (f j) 0) 0 n 0 k h ∙ ap (λ j. cond (ltb j i) (f j) 0) (omega arith)

  -- the next place is filled
  pub filled_more : (i v : ℕ) → i < n → v ≡ f i → set (filled f n i) i v ≡ filled f n (i + 1)
  filled_more i v h e = ext_get_or 0 (set (filled f n i) i v) (filled f n (i + 1))
      (length-set (filled f n i) i v ∙ length-filled i ∙ sym (length-filled (i + 1))) at
    where
      at : (k : ℕ) → k < length (set (filled f n i) i v) → get_or (set (filled f n i) i v) k 0 ≡ get_or (filled f n (i + 1)) k 0
      at k b = ⊎_elim here there (bool_cases (eqb k i))
        where
          inside : k < n
          inside = rw (length-set, length-filled i) at b

          here : eqb k i ≡ true → get_or (set (filled f n i) i v) k 0 ≡ get_or (filled f n (i + 1)) k 0
          here t =
              let o : i < length (filled f n i) = rw (length-filled i) h in
              let l : i < i + 1 = omega arith in
              rw (eqb-true k i t, get_or-set_same (filled f n i) i v 0 o, filled_at (i + 1) i h, lt-ltb i (i + 1) l) e

          there : eqb k i ≡ false → get_or (set (filled f n i) i v) k 0 ≡ get_or (filled f n (i + 1)) k 0
          there t =
              rw (get_or-set_other (filled f n i) i k v 0 (eqb-false k i t), filled_at i k inside, filled_at (i + 1) k inside)
              (⊎_elim (λ l. let l' : k < i + 1 = omega arith in rw (lt-ltb k i l, lt-ltb k (i + 1) l'))
              (λ l. let l' : i + 1 ≤ k = omega (arith, eqb-false k i t) in rw (le-ltb k i l, le-ltb k (i + 1) l')) (lt-or-le k i))

  -- every place is filled
  pub filled_all : (i : ℕ) → n ≤ i → filled f n i ≡ map f (places n 0)
  unfolding filled
  filled_all i h =
      over_same (λ j. cond (ltb j i) (f j) 0) f n 0 (λ k a b. let l : k < i = omega arith in rw (lt-ltb k i l))

-- one place more, at the end
pub over_snoc : {A : Type 0} (f : ℕ → A) (n t : ℕ) → map f (places (suc n) t) ≡ map f (places n t) ++ (f (t + n) ∷ [])
unfolding places
over_snoc f zero t = rw (add-zero t)
over_snoc f (suc n) t = let e : suc t + n ≡ t + suc n = omega arith in ap (λ l. f t ∷ l) (over_snoc f n (suc t) ∙ rw e)

-- places counted from `s`
pub over_shift : {A : Type 0} (f : ℕ → A) (s n t : ℕ) → map f (places n (s + t)) ≡ map (λ q. f (s + q)) (places n t)
unfolding places
over_shift f s zero t = refl
over_shift f s (suc n) t = ap (λ l. f (s + t) ∷ l) (rw (← add-suc s t) (over_shift f s n (suc t)))

-- a list by its places
pub over_list : {A : Type 0} (f : ℕ → A) (l : List ℕ) → map (λ k. f (get_or l k 0)) (places (length l) 0) ≡ map f l
unfolding places
over_list f [] = refl
over_list f (x ∷ xs) =
    ap (λ l. f x ∷ l) (over_shift (λ k. f (get_or (x ∷ xs) k 0)) 1 (length xs) 0 ∙
    over_same (λ k. f (get_or (x ∷ xs) (1 + k) 0)) (λ k. f (get_or xs k 0)) (length xs) 0
    (λ k a b. let e : 1 + k ≡ suc k = omega arith in ap (λ n. f (get_or (x ∷ xs) n 0)) e) ∙ over_list f xs)

-- a buffer of which a loop has set the first `i` places to `f`
unfoldable stored : (ℕ → ℕ) → List ℕ → ℕ → List ℕ
stored f l i = map f (places i 0) ++ drop i l

module _ (f : ℕ → ℕ) (l : List ℕ) where
  stored_none : l ≡ stored f l 0
  unfolding stored places
  stored_none = refl

  length-stored : (i : ℕ) → i ≤ length l → length (stored f l i) ≡ length l
  unfolding stored
  length-stored i h = rw (length-append, length_over f i 0, length-drop) (omega arith)

  -- what the next place still holds
  stored_ahead : (i : ℕ) → get_or (stored f l i) i 0 ≡ get_or l i 0
  unfolding stored
  stored_ahead i =
      let e : length (map f (places i 0)) + 0 ≡ i = omega (arith, length_over f i 0) in
      let o : i + 0 ≡ i = omega arith in
      ap (λ n. get_or (map f (places i 0) ++ drop i l) n 0) (sym e) ∙ get_or-append-add (map f (places i 0)) (drop i l) 0 0 ∙
      get_or-drop i l 0 0 ∙ ap (λ n. get_or l n 0) o

  stored_more : (i v : ℕ) → i < length l → v ≡ f i → set (stored f l i) i v ≡ stored f l (i + 1)
  unfolding stored
  stored_more i v h e =
      let z : 0 + i ≡ i = omega arith in
      rw (
        drop-cons l i 0 h,
        set_at (map f (places i 0)) (get_or l i 0) (drop (suc i) l) v i
            (length_over f i 0),
        add-one i,
        over_snoc f i 0,
        z,
        e,
      )
      (sym (append_snoc (map f (places i 0)) (f i) (drop (suc i) l)))

  stored_all : (i : ℕ) → i ≡ length l → stored f l i ≡ map f (places (length l) 0)
  unfolding stored
  stored_all i e = rw (e, drop-length l) (append-nil (map f (places (length l) 0)))

-- the invariant of a loop that goes over a buffer and sets each place to `f` of it
pub record Storing (f : ℕ → ℕ) (l now : List ℕ) (i : ℕ) : Type 0 where
  pub within : i ≤ length l
  pub size : length now ≡ length l
  pub done : now ≡ map f (places i 0) ++ drop i l

pub storing_begin : (f : ℕ → ℕ) (l : List ℕ) → Storing f l l 0
unfolding places
storing_begin f l = record { within = omega arith; size = refl; done = refl }

module _ {f : ℕ → ℕ} {l now : List ℕ} {i : ℕ} (w : Storing f l now i) where
  pub storing_here : get_or now i 0 ≡ get_or l i 0
  unfolding stored
  storing_here = rw w.done (stored_ahead f l i)

  pub storing_next : {v : ℕ} → i < length now → v ≡ f i → Storing f l (set now i v) (i + 1)
  unfolding stored
  storing_next {v} h e =
      let k = w.size in
      record {
        within = omega arith;
        size = length-set now i v ∙ w.size;
        done = rw w.done (stored_more f l i v (omega arith) e);
      }

  pub storing_end : length now ≤ i → now ≡ map f (places (length l) 0)
  unfolding stored
  storing_end h = let k = w.size in let b = w.within in w.done ∙ stored_all f l i (omega arith)
