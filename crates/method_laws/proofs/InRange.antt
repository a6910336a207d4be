-- What a good reading is where it is present.
use Prim.Native.Nat.{ℕ}
use mathlib.Core.Path.{◌≡◌, refl}
use mathlib.Core.Bool.{Bool, true, false, not, ◌||◌}
use lib.Dec.{leb, eqb}
use Rattle.method.specs.Table.{present, missing, good_reading}

-- a good reading that is present is at most 10,000,000
pub in_range : (x : ℕ) → good_reading x ≡ true → present x ≡ true → leb x 10000000 ≡ true
in_range x g p = go (leb x 10000000) (eqb x missing) g p
  where
    go : (a m : Bool) → (a || m) ≡ true → not m ≡ true → a ≡ true
    go true m g p = refl
    go false true g p = p
    go false false g p = g
