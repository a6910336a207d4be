-- Worked examples: the start of 01's listing, and the ends of the ranges.
use Prim.Native.Nat.{◌-◌, ◌^◌}
use mathlib.Core.Path.{◌≡◌, refl}
use mathlib.Core.List.{◌++◌}
use lib.IntN.{negsuc}
use Rattle.base_digits.specs.Digits.{digits, dec, decimal}
use Rattle.base_lists.specs.Ascii.{ascii}

header : ascii "portfolio " ++ dec 77 ++ ascii " from " ++ dec 6900 ≡ ascii "portfolio 77 from 6900"
unfolding dec digits
header = refl

ends :
    (dec 0 ≡ ascii "0")
    × (dec (2 ^ 64 - 1) ≡ ascii "18446744073709551615")
    × (decimal (negsuc (2 ^ 63 - 1)) ≡ ascii "-9223372036854775808")
unfolding decimal dec digits
ends = (refl, refl, refl)
