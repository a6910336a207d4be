-- The numerator in signed arithmetic of 64 bits: nothing wraps, and the floor.
use Prim.Native.Nat.{ℕ, zero, suc, ◌≤◌, ◌+◌, ◌-◌, ◌*◌, ◌^◌, ◌<◌}
use mathlib.Core.Path.{◌≡◌, refl, ◌∙◌}
use mathlib.Core.Bool.{Bool, true, false, cond, true≢false}
use mathlib.Core.Logic.{⊎_elim}
use native.Mathlib.Omega.{arith}
use Rattle.base_lists.proofs.Bools.{lt-or-le}
use borrow.Author.Rules.{sfits_of}
use borrow.Author.Tests.{ltb-true, lt-ltb, le-ltb}
use lib.Dec.{T, ltb}
use lib.IntN.{ℤ, pos, negsuc, sub_ℕ, ◌+ℤ◌, ◌-ℤ◌, ◌*ℤ◌, nat_abs}
use lib.Signed.{mag, non_neg, lt_z}
use mir.Syntax.{w64}
use mir.Val.{to_z, of_z, SFits, Fits}
use mir.ValLaws.{to_z_pos, to_z-of_z}
use Rattle.method.specs.Adjustment.{unfloored, floored, adjustment}

-- how far a sum lies from zero
pub mag_sum : (a h : ℕ) (z : ℤ) → a < h → mag z < h → mag (pos a +ℤ z) < h + h
mag_sum a h (pos b) x y = omega arith
mag_sum a h (negsuc b) x y = go (ltb a (suc b))
  where
    go : (t : Bool) → mag (cond t (negsuc (suc b - suc a)) (pos (a - suc b))) < h + h
    go true = omega arith
    go false = omega arith

pub below_zero : (z : ℤ) → lt_z z (pos 0) ≡ true → 0 ≡ floored z
below_zero (pos n) h = absurd (omega (arith, ltb-true n 0 h))
below_zero (negsuc n) h = refl

pub from_zero : (z : ℤ) → lt_z z (pos 0) ≡ false → nat_abs z ≡ floored z
from_zero (pos n) h = refl
from_zero (negsuc n) h = absurd (true≢false h)

-- it can be cast where it is not below zero
pub cast_fits : (z : ℤ) → lt_z z (pos 0) ≡ false → mag z < 2 ^ 63 → T (non_neg z) × Fits w64 (nat_abs z)
cast_fits (pos n) h f = (tt, record { fits = omega arith })
cast_fits (negsuc n) h f = absurd (true≢false h)

module _ (sum : ℕ) (adj : ℤ) (small : sum < 2 ^ 32) (near : mag adj < 2 ^ 40) where
  sum_is : to_z w64 sum ≡ pos sum
  sum_is = let h : sum < 2 ^ 63 = omega arith in to_z_pos w64 sum h

  pub twelve_fits : SFits w64 (pos 12 *ℤ to_z w64 sum)
  twelve_fits = rw sum_is (record { sfits = omega arith })

  abbrev pub raw : ℤ
  raw = to_z w64 (of_z w64 (pos 12 *ℤ to_z w64 sum)) +ℤ to_z w64 (of_z w64 adj)

  raw_is : raw ≡ unfloored 12 sum adj
  raw_is =
      let h : mag adj < 2 ^ 63 = omega arith in
      rw (to_z-of_z w64 (pos 12 *ℤ to_z w64 sum) twelve_fits, to_z-of_z w64 adj (sfits_of h), sum_is)

  pub raw_near : mag (unfloored 12 sum adj) < 2 ^ 63
  raw_near =
      let h : 12 * sum < 2 ^ 40 = omega arith in
      omega (arith, mag_sum (12 * sum) (2 ^ 40) adj h near)

  pub raw_fits : SFits w64 raw
  raw_fits = rw raw_is (record { sfits = raw_near })

  pub raw_back : to_z w64 (of_z w64 raw) ≡ unfloored 12 sum adj
  raw_back = to_z-of_z w64 raw raw_fits ∙ raw_is

-- ---- differences

-- the floor of a sum and a difference is the cut-off difference
pub floored_is : (x a b : ℕ) → floored (pos x +ℤ (pos a -ℤ pos b)) ≡ x + a - b
floored_is x a zero = omega arith
floored_is x a (suc b) = ⊎_elim under over (lt-or-le a (suc b))
  where
    over : suc b ≤ a → floored (pos x +ℤ sub_ℕ a (suc b)) ≡ x + a - suc b
    over h = rw (le-ltb a (suc b) h) (omega arith)

    under : a < suc b → floored (pos x +ℤ sub_ℕ a (suc b)) ≡ x + a - suc b
    under h = rw (lt-ltb a (suc b) h) (⊎_elim low high (lt-or-le x (suc (suc b - suc a))))
      where
        low : x < suc (suc b - suc a) → floored (sub_ℕ x (suc (suc b - suc a))) ≡ x + a - suc b
        low k = rw (lt-ltb x (suc (suc b - suc a)) k) (omega arith)

        high : suc (suc b - suc a) ≤ x → floored (sub_ℕ x (suc (suc b - suc a))) ≡ x + a - suc b
        high k = rw (le-ltb x (suc (suc b - suc a)) k) (omega arith)

-- a numerator without signs
pub numerator_is : (parts s n a b : ℕ) → floored (unfloored parts s (adjustment n a b)) ≡ parts * s + n * a - b
numerator_is parts s n a b = floored_is (parts * s) (n * a) b

pub mag_difference : (a b h : ℕ) → a < h → b < h → mag (pos a -ℤ pos b) < h
mag_difference a zero h x y = omega arith
mag_difference a (suc b) h x y = go (ltb a (suc b))
  where
    go : (t : Bool) → mag (cond t (negsuc (suc b - suc a)) (pos (a - suc b))) < h
    go true = omega arith
    go false = omega arith

module _ (a b : ℕ) (x : a < 2 ^ 40) (y : b < 2 ^ 40) where
  difference_is : to_z w64 a -ℤ to_z w64 b ≡ pos a -ℤ pos b
  difference_is =
      let h : a < 2 ^ 63 = omega arith in
      let k : b < 2 ^ 63 = omega arith in
      rw (to_z_pos w64 a h, to_z_pos w64 b k)

  pub difference_fits : SFits w64 (to_z w64 a -ℤ to_z w64 b)
  difference_fits = rw difference_is (record { sfits = omega (arith, mag_difference a b (2 ^ 40) x y) })

  pub difference_back : to_z w64 (of_z w64 (to_z w64 a -ℤ to_z w64 b)) ≡ pos a -ℤ pos b
  difference_back = to_z-of_z w64 (to_z w64 a -ℤ to_z w64 b) difference_fits ∙ difference_is
