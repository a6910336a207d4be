-- Where the days of a file start: one more, the first apart, and bounds.
use Prim.Native.Nat.{ℕ, zero, suc, ◌+◌, ◌-◌, ◌*◌, ◌<◌, ◌≤◌}
use mathlib.Core.Path.{◌≡◌, refl}
use mathlib.Core.List.{List}
use native.Mathlib.Omega.{arith}
use native.Mathlib.Nat.{add-zero}
use native.Mathlib.Numerals.{add-one}
use lib.ListN.{drop}
use Rattle.method.specs.Table.{offset, most_quarters}
use Rattle.method.proofs.Tables.{size_most, offset-suc}
use Rattle.file_record.specs.declared.Shape.{Shape}
use Rattle.file_record.specs.Reader.{pf_length, is_mv, mv_length, dy_bytes, dy_length, moves_from, moves_in, file_base, shape_base, most_base, shape_in, day_start}
use Rattle.file_record.proofs.Runs.{run_most}

module _ (base first : ℕ) where
  pub day_start_none : day_start base first 0 ≡ base
  unfolding day_start
  day_start_none = refl

  pub day_start_more : (k : ℕ) → day_start base first (k + 1) ≡ day_start base first k + dy_length (first + k)
  unfolding day_start
  day_start_more k = rw (add-one k)

  -- a day of several ends within them
  pub day_start_within : (k h : ℕ) → k < h → day_start base first k + dy_length (first + k) ≤ day_start base first h
  day_start_within k h o =
      let split : h ≡ k + 1 + (h - (k + 1)) = omega arith in
      rw split (omega (arith, day_start_more k, later (h - (k + 1)) (k + 1)))
    where
      later : (j k : ℕ) → day_start base first k ≤ day_start base first (k + j)
      later zero k = rw add-zero (omega arith)
      later (suc j) k =
          let e : k + suc j ≡ k + j + 1 = omega arith in
          rw e (omega (arith, later j k, day_start_more (k + j)))

  -- for code
  pub day_start_is : (k : ℕ) → day_start base first k ≡ base + dy_bytes 0 * k + 4 * offset first k
  unfolding day_start offset
  day_start_is zero = omega arith
  day_start_is (suc k) = omega (arith, day_start_is k, rw (add-one k) at (offset-suc first k))

  pub day_start_most : (k : ℕ) → day_start base first k ≤ base + dy_bytes most_quarters * k
  unfolding day_start
  day_start_most zero = omega arith
  day_start_most (suc k) = omega (arith, day_start_most k, size_most (first + k))

  pub day_start_from : (k : ℕ) → day_start base first k ≡ base + day_start 0 first k
  unfolding day_start
  day_start_from zero = omega arith
  day_start_from (suc k) = omega (arith, day_start_from k)

-- the first day, and those after it
pub day_start-cons : (first k : ℕ) → day_start 0 first (suc k) ≡ dy_length first + day_start 0 (suc first) k
unfolding day_start
day_start-cons first zero = rw add-zero (omega arith)
day_start-cons first (suc k) =
    let later : suc first + k ≡ first + suc k = omega arith in
    rw later (omega (arith, day_start-cons first k))

pub base_most : (file : List ℕ) → file_base file ≤ most_base
unfolding file_base moves_in moves_from
base_most file = omega (arith, run_most (λ i. is_mv) (λ i. mv_length) 16 0 (drop pf_length file))

-- the days of a file and of its shape start at one place
pub base_is : (file : List ℕ) {shape : Shape} → shape ≡ shape_in file → shape_base shape ≡ file_base file
unfolding file_base shape_in
base_is file e = rw e refl
