-- What the summing functions ensure.
use Rattle.std.specs.Prelude.{◌≡◌, ℕ, ◌*◌, ◌%◌, ◌^◌, ◌≤◌, List, length}
use Rattle.base_lists.specs.Lists.{sum_of}

-- `r` is the sum as a number of 64 bits; and how large the sum of numbers of 32 bits can be
pub record Summed (xs : List ℕ) (r : ℕ) : Type 0 where
  pub sum : r ≡ sum_of xs % 2 ^ 64
  pub bound : sum_of xs ≤ 4294967295 * length xs
