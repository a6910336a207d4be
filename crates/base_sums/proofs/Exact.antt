-- The sum of few numbers of 32 bits is exact, and so is the sum of two such sums.
use Rattle.std.proofs.Common.{◌≡◌, ℕ, ◌+◌, ◌%◌, ◌^◌, ◌≤◌, List, length, arith}
use Rattle.base_lists.specs.Lists.{sum_of}
use Rattle.base_sums.specs.Steps.{Summed}
use Rattle.base_lists.proofs.Unique.{unique}

pub exact : {xs : List ℕ} {r : ℕ} → Summed xs r → length xs ≤ 2 ^ 31 → r ≡ sum_of xs
exact {xs} {r} s few = omega arith

pub exact_both : {xs ys : List ℕ} {x y : ℕ} → Summed xs x → Summed ys y → length xs ≤ 2 ^ 30 → length ys ≤ 2 ^ 30
    → (x + y) % 2 ^ 64 ≡ sum_of xs + sum_of ys
exact_both {xs} {ys} {x} {y} s t few less = omega arith

-- no two sums meet the contract
pub summed_unique : {xs : List ℕ} {r r' : ℕ} → Summed xs r → Summed xs r' → r ≡ r'
summed_unique p q = unique p.sum q.sum
