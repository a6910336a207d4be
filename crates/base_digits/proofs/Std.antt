-- The digits of a number that a word holds are those that std writes, and `itoa`.
use Prim.Native.Nat.{ℕ, suc, ◌+◌, ◌%◌, ◌/◌, ◌^◌, ◌≤◌, ◌<◌}
use mathlib.Core.Path.{◌≡◌, refl}
use mathlib.Core.List.{[], ◌∷◌, ◌++◌}
use native.Mathlib.Omega.{arith}
use lib.IntN.{ℤ, pos, negsuc}
use lib.Signed.{mag}
use mir.Syntax.{w64}
use mir.Val.{SFits, to_z, of_z}
use mir.ValLaws.{to_z-of_z}
use borrow.Author.Tests.{lt-ltb, le-ltb}
use Rattle.std.specs.Fmt.{decimal as printed, signed_decimal as printed_signed}
use Rattle.std.proofs.lemmas.Fmt.{AppendsLastDigit, decimal_from_appends, length-decimal-le_succ}
use Rattle.base_digits.specs.Digits.{digits, dec, decimal}

appends : AppendsLastDigit digits
unfolding digits
appends = record { one = λ k n h. simp (lt-ltb n 10); more = λ k n h. simp (le-ltb n 10) }

pub dec_is : (n : ℕ) → n < 2 ^ 64 → printed n ≡ dec n
unfolding dec
dec_is n h = rw (decimal_from_appends digits appends (suc n) n h (omega (arith, length-decimal-le_succ n h)))

pub decimal_is : (z : ℤ) → mag z < 2 ^ 63 → printed_signed z ≡ decimal z
unfolding decimal
decimal_is (pos n) h = dec_is n (omega arith)
decimal_is (negsuc n) h = rw (dec_is (suc n) (omega arith))

-- the same of a number read back from its word
pub word_is : (z : ℤ) → SFits w64 z → printed_signed (to_z w64 (of_z w64 z)) ≡ decimal z
word_is z f = rw (to_z-of_z w64 z f) (decimal_is z f.sfits)
