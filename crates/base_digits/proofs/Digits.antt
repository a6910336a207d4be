-- Decimal digits. `dec_small` and `dec_step` are the two steps by which they are written, and `by_tens` is induction along them; by it the
-- digits read back as the number, are digits, have no leading nought, and are as many as the powers of ten say.
use Prim.Native.Nat.{ℕ, zero, suc, ◌+◌, ◌-◌, ◌*◌, ◌/◌, ◌%◌, ◌^◌, ◌≤◌, ◌<◌}
use mathlib.Core.Path.{◌≡◌, refl}
use mathlib.Core.Bool.{true}
use mathlib.Core.List.{List, [], ◌∷◌, ◌++◌}
use mathlib.Core.Logic.{⊎_elim}
use native.Mathlib.Omega.{arith}
use native.Mathlib.Nat.{pow-suc, not-suc-le-zero}
use lib.IntN.{ℤ, pos, negsuc}
use lib.ListN.{length, get_or, length-append, get_or-append}
use lib.Signed.{mag}
use borrow.Author.Tests.{lt-ltb, le-ltb, le-leb}
use Rattle.base_lists.specs.Lists.{all}
use Rattle.base_lists.proofs.Bools.{both, lt-or-le}
use Rattle.base_digits.specs.Digits.{digits, dec, decimal, value_from, value, is_digit}

-- more divisions than are needed change nothing
enough : (j k n : ℕ) → n < j → n < k → digits j n ≡ digits k n
unfolding digits
enough zero k n hj hk = absurd (not-suc-le-zero hj)
enough (suc j) zero n hj hk = absurd (not-suc-le-zero hk)
enough (suc j) (suc k) n hj hk =
    ⊎_elim (λ (h : n < 10). simp (lt-ltb n 10))
    (λ (h : 10 ≤ n). simp (le-ltb n 10, enough j k (n / 10) (omega arith) (omega arith)))
    (lt-or-le n 10)

pub dec_small : (n : ℕ) → n < 10 → dec n ≡ (48 + n) ∷ []
unfolding dec digits
dec_small n h = simp (lt-ltb n 10)

pub dec_step : (n : ℕ) → 10 ≤ n → dec n ≡ dec (n / 10) ++ ((48 + n % 10) ∷ [])
unfolding dec digits
dec_step n h = simp (le-ltb n 10, enough n (suc (n / 10)) (n / 10) (omega arith) (omega arith))

-- a number below ten, or a number with the one that is left without its last digit
by_tens :
    (P : ℕ → Type 0) → ((n : ℕ) → n < 10 → P n) → ((n : ℕ) → 10 ≤ n → P (n / 10) → P n) → (n : ℕ) → P n
by_tens P small step n = within (suc n) n (omega arith)
  where
    within : (k m : ℕ) → m < k → P m
    within zero m h = absurd (not-suc-le-zero h)
    within (suc k) m h =
        ⊎_elim (small m) (λ (t : 10 ≤ m). step m t (within k (m / 10) (omega arith))) (lt-or-le m 10)

-- the last digit is the number's last
value_last : (n : ℕ) (bytes : List ℕ) (b : ℕ) → value_from n (bytes ++ (b ∷ [])) ≡ 10 * value_from n bytes + (b - 48)
unfolding value_from
value_last n [] b = refl
value_last n (c ∷ bytes) b = value_last (10 * n + (c - 48)) bytes b

pub value-dec : (n : ℕ) → value (dec n) ≡ n
unfolding value_from
value-dec = by_tens (λ n. value (dec n) ≡ n) small step
  where
    small : (n : ℕ) → n < 10 → value (dec n) ≡ n
    small n h = rw dec_small (omega arith)

    step : (n : ℕ) → 10 ≤ n → value (dec (n / 10)) ≡ n / 10 → value (dec n) ≡ n
    step n h e = rw (dec_step n h, value_last, e) (omega arith)

pub dec_injective : (m n : ℕ) → dec m ≡ dec n → m ≡ n
dec_injective m n e = cc (value-dec m, value-dec n)

digit : (d : ℕ) → d < 10 → is_digit (48 + d) ≡ true
digit d h = simp (le-leb 48 (48 + d) low, le-leb (48 + d) 57 high)
  where
    low : 48 ≤ 48 + d
    low = omega arith

    high : 48 + d ≤ 57
    high = omega arith

all_last : (bytes : List ℕ) (b : ℕ) → all is_digit bytes ≡ true → is_digit b ≡ true → all is_digit (bytes ++ (b ∷ [])) ≡ true
unfolding all
all_last [] b e h = rw h
all_last (c ∷ bytes) b e h =
    let t = both (is_digit c) (all is_digit bytes) e in rw t.0 (all_last bytes b t.1 h)

pub dec-digits : (n : ℕ) → all is_digit (dec n) ≡ true
unfolding all
dec-digits = by_tens (λ n. all is_digit (dec n) ≡ true) small step
  where
    small : (n : ℕ) → n < 10 → all is_digit (dec n) ≡ true
    small n h = rw (dec_small, digit)

    step : (n : ℕ) → 10 ≤ n → all is_digit (dec (n / 10)) ≡ true → all is_digit (dec n) ≡ true
    step n h e = rw dec_step (all_last (dec (n / 10)) (48 + n % 10) e (digit (n % 10) (omega arith)))

-- at least one digit
pub dec_some : (n : ℕ) → 0 < length (dec n)
dec_some n =
    ⊎_elim (λ (h : n < 10). rw dec_small (omega arith)) (λ (h : 10 ≤ n). rw (dec_step, length-append) (omega arith))
    (lt-or-le n 10)

-- no leading nought
pub dec_leads : (n : ℕ) → 0 < n → 48 < get_or (dec n) 0 0
dec_leads = by_tens (λ n. 0 < n → 48 < get_or (dec n) 0 0) small step
  where
    small : (n : ℕ) → n < 10 → 0 < n → 48 < get_or (dec n) 0 0
    small n h p = rw dec_small (omega arith)

    step : (n : ℕ) → 10 ≤ n → (0 < n / 10 → 48 < get_or (dec (n / 10)) 0 0) → 0 < n → 48 < get_or (dec n) 0 0
    step n h e p =
        rw (dec_step, get_or-append (dec (n / 10)) ((48 + n % 10) ∷ []) 0 0 (dec_some (n / 10))) (e (omega arith))

-- a number below 10 ^ k has at most k digits
pub dec-length : (k n : ℕ) → 0 < k → n < 10 ^ k → length (dec n) ≤ k
dec-length zero n p h = absurd (not-suc-le-zero p)
dec-length (suc zero) n p h = rw dec_small (omega arith)
dec-length (suc (suc k)) n p h =
    ⊎_elim (λ (s : n < 10). rw dec_small (omega arith))
    (λ (t : 10 ≤ n).
    let fewer : n / 10 < 10 ^ suc k = omega (arith, rw (pow-suc 10 (suc k)) at h) in
    rw (dec_step, length-append) (omega (arith, dec-length (suc k) (n / 10) (omega arith) fewer)))
    (lt-or-le n 10)

pub dec-length_64 : (n : ℕ) → n < 2 ^ 64 → length (dec n) ≤ 20
dec-length_64 n h = dec-length 20 n (omega arith) (omega arith)

pub dec-length_32 : (n : ℕ) → n < 2 ^ 32 → length (dec n) ≤ 10
dec-length_32 n h = dec-length 10 n (omega arith) (omega arith)

-- an i64 has at most 20 bytes, the minus sign included
pub decimal-length : (z : ℤ) → mag z < 2 ^ 63 → length (decimal z) ≤ 20
unfolding decimal
decimal-length (pos n) h = dec-length_64 n (omega arith)
decimal-length (negsuc n) h = omega (arith, dec-length 19 (suc n) (omega arith) (omega arith))

pub decimal_some : (z : ℤ) → 0 < length (decimal z)
unfolding decimal
decimal_some (pos n) = dec_some n
decimal_some (negsuc n) = omega arith
