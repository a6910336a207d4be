-- What the masks say of a mark byte.
use Prim.Native.Nat.{ℕ, zero, suc, ◌+◌, ◌*◌, ◌/◌, ◌%◌, ◌<◌, ◌≤◌}
use mathlib.Core.Path.{◌≡◌, refl, ap, ◌∙◌}
use mathlib.Core.Bool.{Bool, not, true, false}
use mathlib.Core.List.{List, [], ◌∷◌}
use mathlib.Core.Logic.{⊎_elim}
use native.Mathlib.Omega.{arith}
use native.Mathlib.Nat.{zero-add}
use borrow.Author.Tests.{lt-ltb, le-ltb, eqb-true, eqb-false}
use lib.Bits.{bit_and, and_mask, and_high}
use lib.Dec.{eqb}
use lib.ListN.{length, get_or}
use Rattle.std.specs.Prelude.{unwrap_or}
use Rattle.std.specs.List.{position_from}
use Rattle.base_lists.specs.Lists.{leading}
use Rattle.base_lists.proofs.Bools.{bool_cases}
use Rattle.method.specs.Table.{event_bit, outage_bit, good_mark}

-- of a bit and of its double, not 0 is 1
bit : (b : ℕ) → b < 2 → not (eqb b 0) ≡ eqb b 1
bit zero h = refl
bit (suc zero) h = refl
bit (suc (suc b)) h = absurd (omega arith)

double_bit : (b : ℕ) → b < 2 → not (eqb (b * 2) 0) ≡ eqb b 1
double_bit zero h = refl
double_bit (suc zero) h = refl
double_bit (suc (suc b)) h = absurd (omega arith)

pub event_mask : (m : ℕ) → not (eqb (bit_and m 1) 0) ≡ event_bit m
event_mask m = ap (λ (x : ℕ). not (eqb x 0)) (and_mask m 1) ∙ bit (m % 2) (omega arith)

pub outage_mask : (m : ℕ) → not (eqb (bit_and m 2) 0) ≡ outage_bit m
outage_mask m = ap (λ (x : ℕ). not (eqb x 0)) (and_high m 1 1) ∙ double_bit (m / 2 % 2) (omega arith)

-- the bits of a byte above the two
other_bits : (m : ℕ) → m < 256 → bit_and m 252 ≡ m / 4 * 4
other_bits m h = and_high m 6 2 ∙ omega arith

pub clear_mask : (m : ℕ) → m < 256 → bit_and m 252 ≡ 0 → good_mark m ≡ true
clear_mask m h e = let o : m < 4 = omega (arith, other_bits m h) in lt-ltb m 4 o

pub set_mask : (m : ℕ) → m < 256 → (bit_and m 252 ≡ 0 → ⊥) → good_mark m ≡ false
set_mask m h e = let o : 4 ≤ m = omega (arith, other_bits m h) in le-ltb m 4 o

-- ---- the place of the first mark of a list that is not good
abbrev bad : ℕ → Bool
bad mark = not (eqb (bit_and mark 252) 0)

pub first_bad : (xs : List ℕ) → ((k : ℕ) → get_or xs k 0 < 256) → unwrap_or (position_from bad 0 xs) (length xs) ≡ leading good_mark xs
unfolding leading
first_bad xs fits = let e = go xs 0 fits in rw (zero-add, zero-add) at e
  where
    go : (l : List ℕ) (i : ℕ) → ((k : ℕ) → get_or l k 0 < 256) → unwrap_or (position_from bad i l) (i + length l) ≡ i + leading good_mark l
    go [] i f = refl
    go (x ∷ l) i f = ⊎_elim (clear (go l (i + 1) (λ k. f (suc k)))) foul (bool_cases (eqb (bit_and x 252) 0))
      where
        clear : unwrap_or (position_from bad (i + 1) l) (i + 1 + length l) ≡ i + 1 + leading good_mark l → eqb (bit_and x 252) 0 ≡ true
            → unwrap_or (position_from bad i (x ∷ l)) (i + length (x ∷ l)) ≡ i + leading good_mark (x ∷ l)
        clear later e =
            let one : i + suc (length l) ≡ i + 1 + length l = omega arith in
            let two : i + suc (leading good_mark l) ≡ i + 1 + leading good_mark l = omega arith in
            rw (e, clear_mask x (f 0) (eqb-true (bit_and x 252) 0 e), one, two) later

        foul : eqb (bit_and x 252) 0 ≡ false → unwrap_or (position_from bad i (x ∷ l)) (i + length (x ∷ l)) ≡ i + leading good_mark (x ∷ l)
        foul e = rw (e, set_mask x (f 0) (eqb-false (bit_and x 252) 0 e)) (omega arith)
