-- Parts of lists: `take` and `drop` past an end, and over two lists put together.
use Prim.Native.Nat.{ℕ, zero, suc, ◌+◌, ◌-◌, ◌≤◌, min}
use mathlib.Core.Path.{◌≡◌, refl, ap, sym, ◌∙◌}
use mathlib.Core.List.{List, [], ◌∷◌, ◌++◌}
use native.Mathlib.Nat.{sub-zero, zero-sub, suc-sub-suc}
use native.Mathlib.Omega.{arith}
use lib.ListN.{length, get_or, take, drop, length-drop}
use lib.Seq.{take-nil, drop-nil, take-take, get_or-append-add}

module _ {A : Type 0} where
  pub take-append : (n : ℕ) (xs ys : List A) → take n (xs ++ ys) ≡ take n xs ++ take (n - length xs) ys
  take-append zero xs ys = rw (zero-sub (length xs))
  take-append (suc n) [] ys = rw (sub-zero (suc n))
  take-append (suc n) (x ∷ xs) ys = rw (suc-sub-suc n (length xs)) (ap (λ (l : List A). x ∷ l) (take-append n xs ys))

  pub drop-append : (n : ℕ) (xs ys : List A) → drop n (xs ++ ys) ≡ drop n xs ++ drop (n - length xs) ys
  drop-append zero xs ys = rw (zero-sub (length xs))
  drop-append (suc n) [] ys = rw (sub-zero (suc n))
  drop-append (suc n) (x ∷ xs) ys = rw (suc-sub-suc n (length xs)) (drop-append n xs ys)

  -- the part from `a` up to `e` of two lists
  pub part_append : (a e : ℕ) (xs ys : List A)
      → take (e - a) (drop a (xs ++ ys)) ≡ take (e - a) (drop a xs) ++ take (e - length xs - (a - length xs)) (drop (a - length xs) ys)
  part_append a e xs ys =
      let k : e - a - (length xs - a) ≡ e - length xs - (a - length xs) = omega arith in
      rw (drop-append a xs ys, take-append (e - a) (drop a xs) (drop (a - length xs) ys), length-drop a xs, k)

  -- past the first list
  pub get_or-append_past : (xs ys : List A) (i : ℕ) (d : A) → length xs ≤ i → get_or (xs ++ ys) i d ≡ get_or ys (i - length xs) d
  get_or-append_past xs ys i d h =
      let k : length xs + (i - length xs) ≡ i = omega arith in
      ap (λ (n : ℕ). get_or (xs ++ ys) n d) (sym k) ∙ get_or-append-add xs ys (i - length xs) d

  -- a part ends where the list does
  pub take_within : (n : ℕ) (xs : List A) → take (min n (length xs)) xs ≡ take n xs
  take_within n [] = rw (take-nil {A = A} n, take-nil {A = A} (min n 0))
  take_within zero (x ∷ xs) = let k : min 0 (suc (length xs)) ≡ 0 = omega arith in rw k
  take_within (suc n) (x ∷ xs) =
      let k : min (suc n) (suc (length xs)) ≡ suc (min n (length xs)) = omega arith in
      rw k (ap (λ (l : List A). x ∷ l) (take_within n xs))

  -- and starts there at the latest
  pub drop_within : (n : ℕ) (xs : List A) → drop (min n (length xs)) xs ≡ drop n xs
  drop_within n [] = rw (drop-nil {A = A} n, drop-nil {A = A} (min n 0))
  drop_within zero (x ∷ xs) = let k : min 0 (suc (length xs)) ≡ 0 = omega arith in rw k
  drop_within (suc n) (x ∷ xs) = let k : min (suc n) (suc (length xs)) ≡ suc (min n (length xs)) = omega arith in rw k (drop_within n xs)

  pub part_within : (a e : ℕ) (xs : List A) → take (min e (length xs) - a) (drop a xs) ≡ take (e - a) (drop a xs)
  part_within a e xs =
      let k : min e (length xs) - a ≡ min (e - a) (length xs - a) = omega arith in
      rw (k, ← length-drop a xs) (take_within (e - a) (drop a xs))

  pub no_part : (a e : ℕ) (xs : List A) → min e (length xs) ≤ a → take (e - a) (drop a xs) ≡ []
  no_part a e xs h = let k : min e (length xs) - a ≡ 0 = omega arith in rw (← part_within a e xs, k)

-- what lies within the first `s` is seen in them
pub take-drop-take : {A : Type 0} (n k s : ℕ) (xs : List A) → k + n ≤ s → take n (drop k (take s xs)) ≡ take n (drop k xs)
take-drop-take n zero s xs h = take-take n s xs (omega arith)
take-drop-take n (suc k) zero xs h = absurd (omega arith)
take-drop-take n (suc k) (suc s) [] h = refl
take-drop-take n (suc k) (suc s) (x ∷ xs) h = take-drop-take n k s xs (omega arith)
