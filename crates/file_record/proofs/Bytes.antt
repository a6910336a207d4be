-- Numbers and their bytes, both ways, for any width.
use Prim.Native.Nat.{ℕ, zero, suc, ◌+◌, ◌*◌, ◌/◌, ◌%◌, ◌^◌, ◌<◌, ◌≤◌}
use mathlib.Core.Path.{◌≡◌, refl, sym, ap}
use mathlib.Core.List.{List, [], ◌∷◌, ◌++◌, append_assoc}
use native.Mathlib.Omega.{arith}
use native.Mathlib.Nat.{not-suc-le-zero, pow-suc}
use lib.ListN.{length, take, drop, length-drop}
use lib.Seq.{get_or-drop, drop-drop}
use Rattle.file_record.specs.Layout.{Below}
use Rattle.file_record.specs.Reader.{number_at, numbers}
use Rattle.file_record.proofs.Numbers.{number_drop}
use Rattle.base_bytes.specs.Bytes.{bytes, reading_bytes}

-- bounds of the numbers of a list
pub below_drop : {n : ℕ} (k : ℕ) (l : List ℕ) → Below n l → Below n (drop k l)
below_drop k l h i = rw (get_or-drop k l i 0) (h (k + i))

pub below_take : {n : ℕ} (k : ℕ) (l : List ℕ) → Below n l → Below n (take k l)
below_take zero l h i = omega (arith, h 0)
below_take (suc k) [] h i = h 0
below_take (suc k) (x ∷ l) h zero = h 0
below_take (suc k) (x ∷ l) h (suc i) = below_take k l (λ j. h (suc j)) i

pub below_append : {n : ℕ} (l r : List ℕ) → Below n l → Below n r → Below n (l ++ r)
below_append [] r h g i = g i
below_append (x ∷ l) r h g zero = h 0
below_append (x ∷ l) r h g (suc i) = below_append l r (λ j. h (suc j)) g i

pub below_cons : {n : ℕ} (x : ℕ) (l : List ℕ) → x < n → Below n l → Below n (x ∷ l)
below_cons x l h g zero = h
below_cons x l h g (suc i) = g i

pub below_none : {n : ℕ} → 0 < n → Below n []
below_none h i = h

shifted : (width : ℕ) (x : ℕ) (l : List ℕ) → number_at width 1 (x ∷ l) ≡ number_at width 0 l
shifted width x l = sym (number_drop width 1 0 (x ∷ l))

high : (width n : ℕ) → n < 256 ^ suc width → n / 256 < 256 ^ width
high width n h = omega (arith, (rw pow-suc at h))

-- what is written reads back
pub number_bytes : (width n : ℕ) (rest : List ℕ) → n < 256 ^ width → number_at width 0 (bytes width n ++ rest) ≡ n
unfolding number_at bytes
number_bytes zero n rest h = let o : n < 1 = h in omega arith
number_bytes (suc width) n rest h =
    rw (shifted width (n % 256) (bytes width (n / 256) ++ rest), number_bytes width (n / 256) rest (high width n h)) (omega arith)

-- what is read is written again
pub bytes_number : (width : ℕ) (left : List ℕ) → width ≤ length left → Below 256 left → bytes width (number_at width 0 left) ++ drop width left ≡ left
unfolding number_at bytes
bytes_number zero left h b = refl
bytes_number (suc width) [] h b = absurd (not-suc-le-zero h)
bytes_number (suc width) (x ∷ left) h b =
    let low : x < 256 = b 0 in
    let m : (x + 256 * number_at width 0 left) % 256 ≡ x = omega arith in
    let d : (x + 256 * number_at width 0 left) / 256 ≡ number_at width 0 left = omega arith in
    let o : width ≤ length left = omega arith in
    rw (shifted width x left, m, d) (ap (λ (l : List ℕ). x ∷ l) (bytes_number width left o (λ i. b (suc i))))

-- readings of four bytes, both ways
pub numbers-bytes : (count : ℕ) (xs rest : List ℕ) → length xs ≡ count → Below (256 ^ 4) xs
    → numbers count (reading_bytes xs ++ rest) ≡ xs
unfolding numbers reading_bytes bytes
numbers-bytes zero [] rest e h = refl
numbers-bytes zero (x ∷ xs) rest e h = let z : ◌≡◌ {A = ℕ} 0 1 = omega arith in absurd (omega arith)
numbers-bytes (suc count) [] rest e h = let z : ◌≡◌ {A = ℕ} 0 1 = omega arith in absurd (omega arith)
numbers-bytes (suc count) (x ∷ xs) rest e h =
    let o : length xs ≡ count = omega arith in
    rw (number_bytes 4 x (reading_bytes xs ++ rest) (h 0), numbers-bytes count xs rest o (λ i. h (suc i)))

pub bytes-numbers : (count : ℕ) (left : List ℕ) → 4 * count ≤ length left → Below 256 left
    → reading_bytes (numbers count left) ++ drop (4 * count) left ≡ left
unfolding numbers reading_bytes
bytes-numbers zero left h b = refl
bytes-numbers (suc count) left h b =
    let far : 4 * suc count ≡ 4 + 4 * count = omega arith in
    let four : 4 ≤ length left = omega arith in
    let o : 4 * count ≤ length (drop 4 left) = omega (arith, length-drop 4 left) in
    rw (
      append_assoc (bytes 4 (number_at 4 0 left)) (reading_bytes (numbers count (drop 4 left))) (drop (4 * suc count) left),
      far,
      ← drop-drop (4 * count) 4 left,
      bytes-numbers count (drop 4 left) o (below_drop 4 left b),
    ) (bytes_number 4 left four b)

-- the bytes of a number are bytes, and a number of bytes is below its bound
pub bytes_below : (width n : ℕ) → Below 256 (bytes width n)
unfolding bytes
bytes_below zero n = below_none (omega arith)
bytes_below (suc width) n = below_cons (n % 256) (bytes width (n / 256)) (omega arith) (bytes_below width (n / 256))

pub number_below : (width at : ℕ) (left : List ℕ) → Below 256 left → number_at width at left < 256 ^ width
unfolding number_at
number_below zero at left b = omega arith
number_below (suc width) at left b = rw pow-suc (omega (arith, b at, number_below width (suc at) left b))

pub reading_bytes_below : (xs : List ℕ) → Below 256 (reading_bytes xs)
unfolding reading_bytes
reading_bytes_below [] = below_none (omega arith)
reading_bytes_below (x ∷ xs) = below_append (bytes 4 x) (reading_bytes xs) (bytes_below 4 x) (reading_bytes_below xs)

pub numbers_below : (count : ℕ) (left : List ℕ) → Below 256 left → Below (256 ^ 4) (numbers count left)
unfolding numbers
numbers_below zero left b = below_none (omega arith)
numbers_below (suc count) left b =
    below_cons (number_at 4 0 left) (numbers count (drop 4 left)) (number_below 4 0 left b) (numbers_below count (drop 4 left) (below_drop 4 left b))
