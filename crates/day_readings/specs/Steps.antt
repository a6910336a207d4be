-- What the private functions ensure of their results.
use Rattle.std.specs.Prelude.{◌≡◌, ℕ, ◌+◌, ◌%◌, ◌^◌, ◌<◌, ◌≤◌, List, length, drop, slice_index}
use Rattle.base_lists.specs.Lists.{leading}
use Rattle.method.specs.Table.{good_reading}

-- only good readings stand before `at`: what is left to pass is all that there is from `at` on
pub record GoodBefore (readings : List ℕ) (at : ℕ) : Type 0 where
  pub within : at ≤ length readings
  pub passed : at + leading good_reading (drop at readings) ≡ leading good_reading readings

-- no reading and `more`, as a number of 32 bits, is above `bits`
abbrev pub Joined : List ℕ → ℕ → ℕ → Type 0
Joined readings more bits = (i : ℕ) → i < length readings → (slice_index readings i + more) % 2 ^ 32 ≤ bits
