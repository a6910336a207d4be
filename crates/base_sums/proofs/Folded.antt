-- A sum taken number by number, each time as a number of 64 bits.
use Rattle.std.proofs.Common.{◌≡◌, ℕ, suc, ◌+◌, ◌*◌, ◌%◌, ◌^◌, ◌<◌, ◌≤◌, List, [], ◌∷◌, length, get_or, arith}
use Rattle.std.specs.Prelude.{fold}
use Rattle.base_lists.specs.Lists.{sum_of}
use Rattle.base_sums.specs.Steps.{Summed}

from : (xs : List ℕ) (t : ℕ) → t < 2 ^ 64 → fold (λ total x. (total + x) % 2 ^ 64) t xs ≡ (t + sum_of xs) % 2 ^ 64
unfolding sum_of
from [] t h = omega arith
from (x ∷ xs) t h = omega (arith, from xs ((t + x) % 2 ^ 64) (omega arith))

most : (xs : List ℕ) → ((k : ℕ) → get_or xs k 0 < 2 ^ 32) → sum_of xs ≤ 4294967295 * length xs
unfolding sum_of
most [] fits = omega arith
most (x ∷ xs) fits = omega (arith, fits 0, most xs (λ k. fits (suc k)))

pub summed : (xs : List ℕ) → ((k : ℕ) → get_or xs k 0 < 2 ^ 32) → {r : ℕ} → r ≡ fold (λ total x. (total + x) % 2 ^ 64) 0 xs → Summed xs r
summed xs fits e = record { sum = omega (arith, from xs 0 (omega arith)); bound = most xs fits }
