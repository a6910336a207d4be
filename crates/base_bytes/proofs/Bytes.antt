-- Numbers put as bytes: the four of a number, and one number after the other.
use Prim.Native.Nat.{ℕ, ◌*◌, ◌/◌, ◌≤◌, ◌<◌}
use mathlib.Core.Path.{◌≡◌, refl, ap, ◌∙◌}
use mathlib.Core.List.{List, [], ◌∷◌, ◌++◌}
use native.Mathlib.Omega.{arith}
use lib.ListN.{length, take, drop, set}
use borrow.Rule.Slice.PartMut.{put_mid}
use Rattle.std.specs.Int.{w32, to_le_bytes}
use Rattle.std.specs.List.{flat_map}
use Rattle.byteorder.specs.Endian.{little_bytes}
use Rattle.base_bytes.specs.PutFirst.{put_first}
use Rattle.base_bytes.proofs.Told.{tells_none, tells_whole}
use Rattle.base_bytes.specs.Bytes.{bytes, reading_bytes}

pub reading_length : (xs : List ℕ) → length (reading_bytes xs) ≡ 4 * length xs
unfolding reading_bytes bytes
reading_length [] = refl
reading_length (x ∷ xs) = omega (arith, reading_length xs)

-- four elements take the place of the first four
pub four_set : (l : List ℕ) (a b c d : ℕ) → 4 ≤ length l → set (set (set (set l 0 a) 1 b) 2 c) 3 d ≡ a ∷ b ∷ c ∷ d ∷ drop 4 l
four_set [] a b c d h = absurd (omega arith)
four_set (p ∷ []) a b c d h = absurd (omega arith)
four_set (p ∷ q ∷ []) a b c d h = absurd (omega arith)
four_set (p ∷ q ∷ r ∷ []) a b c d h = absurd (omega arith)
four_set (p ∷ q ∷ r ∷ s ∷ l) a b c d h = refl

-- what std makes of a number
pub le_two : (n : ℕ) → take 2 (to_le_bytes w32 n) ≡ bytes 2 n
unfolding bytes
le_two n = refl

pub le_four : (n : ℕ) → to_le_bytes w32 n ≡ bytes 4 n
unfolding bytes
le_four n =
    let third : n / 65536 ≡ n / 256 / 256 = omega arith in
    let fourth : n / 16777216 ≡ n / 256 / 256 / 256 = omega arith in
    rw (third, fourth) refl

-- and `byteorder` of numbers
numbers_are : (xs : List ℕ) → flat_map (little_bytes 4) xs ≡ reading_bytes xs
unfolding reading_bytes
numbers_are [] = refl
numbers_are (x ∷ xs) =
    ap (λ (l : List ℕ). l ++ flat_map (little_bytes 4) xs) (le_four x) ∙ ap (λ (l : List ℕ). bytes 4 x ++ l) (numbers_are xs)

-- all are put
pub numbers_put : (numbers before : List ℕ) {part : List ℕ} → part ≡ flat_map (little_bytes 4) numbers → length numbers ≤ length before / 4
    → put_mid 0 (4 * length numbers) before part ≡ put_first (reading_bytes numbers) before
numbers_put numbers before {part} p room =
    let long = reading_length numbers in
    tells_whole (reading_bytes numbers) before (omega arith) (rw (p ∙ numbers_are numbers, long) refl)

-- they do not fit
pub numbers_kept : (numbers before : List ℕ) → length before / 4 < length numbers → before ≡ put_first (reading_bytes numbers) before
numbers_kept numbers before h =
    let long = reading_length numbers in
    let over : length before < length (reading_bytes numbers) = omega arith in
    tells_none (reading_bytes numbers) before over
