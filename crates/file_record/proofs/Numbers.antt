-- Numbers in a file: where they stand, and what two and four bytes give.
use Prim.Native.Nat.{ℕ, zero, suc, ◌+◌, ◌*◌, ◌≤◌}
use mathlib.Core.Path.{◌≡◌, refl}
use mathlib.Core.List.{List}
use native.Mathlib.Omega.{arith}
use native.Mathlib.Nat.{add-suc, add-zero}
use native.Mathlib.Numerals.{add-one, add-two}
use lib.ListN.{take, drop, get_or}
use lib.Seq.{get_or-drop, get_or-take}
use Rattle.byteorder.specs.Endian.{little_number}
use Rattle.file_record.specs.Reader.{number_at}

-- a number of what is left is a number of the file
pub number_drop : (width at k : ℕ) (file : List ℕ) → number_at width k (drop at file) ≡ number_at width (at + k) file
unfolding number_at
number_drop zero at k file = refl
number_drop (suc width) at k file = rw (get_or-drop at file k 0, number_drop width at (suc k) file, add-suc at k)

-- two and four bytes
pub number_two : (at : ℕ) (file : List ℕ) → number_at 2 at file ≡ get_or file at 0 + 256 * get_or file (at + 1) 0
unfolding number_at
number_two at file = rw (add-one at) (omega arith)

pub number_four : (at : ℕ) (file : List ℕ)
    → number_at 4 at file ≡ get_or file at 0 + 256 * get_or file (at + 1) 0 + 65536 * get_or file (at + 2) 0 + 16777216 * get_or file (at + 3) 0
unfolding number_at
number_four at file =
    let three : at + 3 ≡ suc (suc (suc at)) = omega arith in
    rw (add-one at, add-two at, three) (omega arith)

-- and so what `byteorder` reads in what stands from a place on
module _ (at n : ℕ) (left : List ℕ) where
  pub read_two : 2 ≤ n → little_number 2 (take n (drop at left)) ≡ number_at 2 at left
  read_two h =
      rw (number_two at left, get_or-take n (drop at left) 0 0 (omega arith), get_or-take n (drop at left) 1 0 (omega arith), get_or-drop at left 0 0, get_or-drop at left 1 0, add-zero at)
      (omega arith)

  pub read_four : 4 ≤ n → little_number 4 (take n (drop at left)) ≡ number_at 4 at left
  read_four h =
      rw (
        number_four at left,
        get_or-take n (drop at left) 0 0 (omega arith),
        get_or-take n (drop at left) 1 0 (omega arith),
        get_or-take n (drop at left) 2 0 (omega arith),
        get_or-take n (drop at left) 3 0 (omega arith),
        get_or-drop at left 0 0,
        get_or-drop at left 1 0,
        get_or-drop at left 2 0,
        get_or-drop at left 3 0,
        add-zero at,
      )
      (omega arith)
