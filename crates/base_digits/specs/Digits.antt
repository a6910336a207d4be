-- Numbers as bytes: their decimal digits.
use Rattle.std.specs.Prelude.{ℕ, zero, suc, ◌+◌, ◌-◌, ◌*◌, ◌/◌, ◌%◌, Bool, cond, ◌&&◌, List, [], ◌∷◌, ◌++◌, leb, ltb, ℤ, pos, negsuc}

-- the digits of `n`, where it has at most `k` of them
unfoldable pub digits : ℕ → ℕ → List ℕ
digits zero n = []
digits (suc k) n = let front = digits k (n / 10) in cond (ltb n 10) ((48 + n) ∷ []) (front ++ ((48 + n % 10) ∷ []))

-- a number in decimal digits, with no leading nought; 0 is `0`
unfoldable pub dec : ℕ → List ℕ
dec n = digits (suc n) n

-- a whole number, with a minus sign where it is negative
unfoldable pub decimal : ℤ → List ℕ
decimal (pos n) = dec n
decimal (negsuc n) = 45 ∷ dec (suc n)

-- how digits are read: the number that `bytes` make behind the digits of `n`
unfoldable pub value_from : ℕ → List ℕ → ℕ
value_from n [] = n
value_from n (b ∷ bytes) = value_from (10 * n + (b - 48)) bytes

abbrev pub value : List ℕ → ℕ
value = value_from 0

abbrev pub is_digit : ℕ → Bool
is_digit b = leb 48 b && leb b 57
